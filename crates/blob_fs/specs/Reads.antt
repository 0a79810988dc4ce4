-- What reads of a file return, and what a write changes of that.
use Rattle.std.specs.Prelude.{◌≡◌, ◌≤◌, ◌+◌, ◌-◌, ℕ, List, [], ◌∷◌, None, Some, drop, get_or, length, min, take}
use Rattle.blob_model.specs.Bytes.{write_live}
use Rattle.blob_journal.specs.declared.journaled.Journaled.{Journaled}
use Rattle.blob_journal.specs.declared.store.FileBlob.{FileBlob}
use Rattle.blob_journal.specs.Blobs.{Sees}
use Rattle.blob_journal.specs.Fixed.{IsOpen}
use Rattle.blob_fs.specs.declared.file_system.Descriptor.{Descriptor}
use Rattle.blob_fs.specs.declared.file_system.File.{File}
use Rattle.blob_fs.specs.declared.file_system.FileSystem.{FileSystem}
use Rattle.blob_fs.specs.Bytes.{bytes_read, file_in}
use Rattle.blob_fs.specs.Noted.{IsFile}

-- each byte is zero
abbrev pub AreZeros : List ℕ → Type 0
AreZeros bytes = (at : ℕ) → get_or bytes at 0 ≡ 0

-- what calls see after a write, if there is something to write
abbrev pub write_some : List ℕ → ℕ → List ℕ → List ℕ
write_some seen offset [] = seen
write_some seen offset (b ∷ bytes) = write_live seen offset (b ∷ bytes)

-- what calls see of an open blob has changed so
abbrev pub Shows : {R : Type 0} → Journaled R → FileBlob → (List ℕ → List ℕ) → FileBlob → Type 0
Shows {R} j file change file' = (inode : ℕ) (seen : List ℕ) → IsOpen j inode file → Sees file seen → Sees file' (change seen)

-- these are the bytes of a file from an offset on, if its blob is open and it has so many
abbrev pub ReadsFrom : {R : Type 0} → Journaled R → File → ℕ → ℕ → List ℕ → Type 0
ReadsFrom {R} j file offset count bytes = (inode : ℕ) → IsOpen j inode file.blob → offset + count ≤ length (bytes_read file)
    → bytes ≡ take count (drop offset (bytes_read file))

-- A read of an open file returns the bytes that calls see from the offset on: as many as there are, and no more than were asked for.
pub record Reads {R : Type 0} (fs : FileSystem R) (file : Descriptor) (offset most n : ℕ) (bytes : List ℕ) : Type 0 where
  pub inode : ℕ
  pub was : File
  pub is : IsFile fs file inode was
  pub count : n ≡ min most (length (bytes_read was) - offset)
  pub same : take n bytes ≡ take n (drop offset (bytes_read was))

-- After a write calls see its bytes at the offset, and else what they saw. Of a file of which a failed sync dropped bytes this isn't said.
pub record ShowsWrite {R : Type 0} (file : Descriptor) (offset : ℕ) (bytes : List ℕ) (fs fs' : FileSystem R) : Type 0 where
  pub inode : ℕ
  pub was : File
  pub is : IsFile fs file inode was
  pub now : File
  pub there : file_in fs' inode ≡ Some now
  pub seen : was.shown ≡ None → bytes_read now ≡ write_live (bytes_read was) offset bytes
