-- Sizes that calls see, and what a truncation that returned Ok leaves of its file and its edit.
use Rattle.std.specs.Prelude.{◌≡◌, ◌⊎◌, ℕ, List, [], ◌∷◌, ◌++◌, length, Option, None, Some, option_and_then}
use Rattle.blob_faulty.specs.Wrapper.{next_write_of, size_of}
use Rattle.blob_directory.specs.Names.{resizes}
use Rattle.blob_directory.specs.Syncs.{of_truncation}
use Rattle.blob_journal.specs.declared.journaled.Journaled.{Journaled}
use Rattle.blob_journal.specs.declared.store.FileBlob.{FileBlob}
use Rattle.blob_journal.specs.Fixed.{IsOpen}
use Rattle.blob_journal.specs.Journals.{store_of}
use Rattle.blob_journal.specs.Settling.{AddsUnsettled}
use Rattle.blob_fs.specs.declared.file_system.Descriptor.{Descriptor}
use Rattle.blob_fs.specs.declared.file_system.File.{File}
use Rattle.blob_fs.specs.declared.file_system.FileSystem.{FileSystem}
use Rattle.blob_fs.specs.declared.truncation.Truncation.{Truncation}
use Rattle.blob_fs.specs.Bytes.{file_in}
use Rattle.blob_fs.specs.Open.{KeepsCutsOf}
use Rattle.blob_fs.specs.Files.{file_of, inode_opened, journaled_of}

-- the size that calls see: that of the blob, or of the bytes that a failed sync shows in its place
abbrev pub size_read : File → ℕ
size_read file = elim file.shown [ None ↦ size_of file.blob.blob | Some bytes ↦ length bytes.items ]

-- that of a number's file, 0 if there is none
abbrev pub size_in : {R : Type 0} → FileSystem R → ℕ → ℕ
size_in fs inode = elim (file_of fs inode) [ None ↦ 0 | Some file ↦ size_read file ]

-- a descriptor's file
pub record IsFile {R : Type 0} (fs : FileSystem R) (file : Descriptor) (inode : ℕ) (was : File) : Type 0 where
  pub opened : inode_opened fs file ≡ Some inode
  pub there : file_in fs inode ≡ Some was

-- it has this size
pub record HasSize {R : Type 0} (fs : FileSystem R) (file : Descriptor) (n : ℕ) : Type 0 where
  pub inode : ℕ
  pub was : File
  pub is : IsFile fs file inode was
  pub size : size_read was ≡ n

-- this is the size of the blob of a file
abbrev pub IsEnd : {R : Type 0} → FileSystem R → ℕ → ℕ → Type 0
IsEnd fs inode n = (was : File) → file_in fs inode ≡ Some was → size_of was.blob.blob ≡ n

-- the size of the blob of an open file, 0 if there is none
abbrev pub end_in : Option File → ℕ
end_in None = 0
end_in (Some file) = size_of file.blob.blob

abbrev pub end_of : {R : Type 0} → FileSystem R → Descriptor → ℕ
end_of fs file = end_in (option_and_then (file_in fs) (inode_opened fs file))

-- an open file's blob was resized
abbrev pub ResizesOpen : {R : Type 0} → ℕ → Journaled R → FileBlob → FileBlob → Type 0
ResizesOpen {R} n j file file' = (inode : ℕ) → IsOpen j inode file → size_of file'.blob ≡ n

-- a file shows this size, if its blob has it; the rest of its content is the same
pub record ShowsSize (n : ℕ) (was now : File) : Type 0 where
  pub blob : now.blob ≡ was.blob
  pub synced : now.synced ≡ was.synced
  pub truncations : now.truncations.items ≡ was.truncations.items
  pub size : size_of was.blob.blob ≡ n → size_read now ≡ n

-- its truncations that no sync made durable
abbrev pub truncations_in : Option File → List Truncation
truncations_in None = []
truncations_in (Some file) = file.truncations.items

abbrev pub truncations_of : {R : Type 0} → FileSystem R → ℕ → List Truncation
truncations_of fs inode = truncations_in (file_in fs inode)

-- Each file keeps its truncations and its size at the last sync: by these a crash cuts it.
abbrev pub KeepsCuts : {R : Type 0} → FileSystem R → FileSystem R → Type 0
KeepsCuts fs fs' = KeepsCutsOf fs.files fs'.files

-- after a sync of a file's bytes its size at the last sync is that of its blob, and no truncation is left
abbrev pub IsUncut : {R : Type 0} → FileSystem R → ℕ → Type 0
IsUncut fs inode = (now : File) → file_in fs inode ≡ Some now → (now.synced ≡ size_of now.blob.blob) × (now.truncations.items ≡ [])

-- one more, of this length, by an edit that nothing has settled, before the write that the store records next
pub record Notes {R : Type 0} (inode length : ℕ) (fs fs' : FileSystem R) : Type 0 where
  pub truncation : Truncation
  pub long : truncation.length ≡ length
  pub edit : AddsUnsettled (resizes inode) (of_truncation inode) truncation.edit (journaled_of fs) (journaled_of fs')
  pub next : truncation.next_write ≡ next_write_of (store_of (journaled_of fs'))
  pub noted : truncations_of fs' inode ≡ truncations_of fs inode ++ truncation ∷ []

-- A truncation that returned Ok: the file had this length, or its edit was recorded, and the file notes the edit's number and the length.
pub record NotesTruncation {R : Type 0} (file : Descriptor) (length : ℕ) (fs fs' : FileSystem R) : Type 0 where
  pub inode : ℕ
  pub was : File
  pub is : IsFile fs file inode was
  pub notes : (size_read was ≡ length) ⊎ Notes inode length fs fs'
