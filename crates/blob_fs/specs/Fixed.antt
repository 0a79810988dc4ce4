-- Bytes of files that a sync made durable, and that no crash changes until a call reaches them.
use Rattle.std.specs.Prelude.{◌≡◌, ◌≢◌, ◌<◌, ◌^◌, ◌⊎◌, ℕ, List, true, All, Contains, length, is_some, option_map, Some}
use Rattle.std.specs.BTreeMap.{BTreeMap, get}
use Rattle.std.specs.Ordering.{nat_cmp}
use Rattle.blob_directory.specs.Names.{file}
use Rattle.blob_journal.specs.declared.journaled.Journaled.{Journaled}
use Rattle.blob_journal.specs.declared.store.FileBlob.{FileBlob}
use Rattle.blob_journal.specs.Blobs.{bytes_of}
use Rattle.blob_journal.specs.Fixed.{HasFixed, IsBeside, has_byte}
use Rattle.blob_fs.specs.declared.file_system.Descriptor.{Descriptor}
use Rattle.blob_fs.specs.declared.file_system.File.{File}
use Rattle.blob_fs.specs.declared.file_system.FileSystem.{FileSystem}
use Rattle.blob_fs.specs.declared.call.NumberCall.{NumberCall}
use Rattle.blob_fs.specs.declared.call.NumberCall.TheVariants.{OpenTruncated, Truncate, Write}
use Rattle.blob_fs.specs.Bytes.{bytes_read, file_in}
use Rattle.blob_fs.specs.Files.{durable_of, file_of, fresh_inode, inode_opened, journaled_of, names_of}

-- a position below the size at the last sync and below the length of each truncation since
pub record IsSyncedAt (file : File) (at : ℕ) : Type 0 where
  pub below : at < file.synced
  pub uncut : All (λ t. at < t.length) file.truncations.items

-- A byte of a file is fixed, if the file is there: it was synced and not truncated since, calls see it, and each crash of the store leaves it.
pub record IsFixed {R : Type 0} (fs : FileSystem R) (inode at byte : ℕ) : Type 0 where
  pub numbered : inode < fresh_inode fs
  pub synced : (was : File) → file_in fs inode ≡ Some was → IsSyncedAt was at
  pub fixed : (was : File) → file_in fs inode ≡ Some was → HasFixed (journaled_of fs) was.blob at byte

-- each fixed byte stays fixed
abbrev pub KeepsFixed : {R : Type 0} → FileSystem R → FileSystem R → Type 0
KeepsFixed fs fs' = (inode at byte : ℕ) → inode < 2 ^ 64 → IsFixed fs inode at byte → IsFixed fs' inode at byte

-- each of another file
abbrev pub KeepsFixedBut : {R : Type 0} → ℕ → FileSystem R → FileSystem R → Type 0
KeepsFixedBut number fs fs' = (inode at byte : ℕ) → inode < 2 ^ 64 → inode ≢ number → IsFixed fs inode at byte → IsFixed fs' inode at byte

-- each that a call on a descriptor doesn't reach
abbrev pub KeepsSpared : {R : Type 0} → Descriptor → (ℕ → Type 0) → FileSystem R → FileSystem R → Type 0
KeepsSpared file spares fs fs' = (inode at byte : ℕ) → inode < 2 ^ 64 → (inode_opened fs file ≢ Some inode) ⊎ spares at
    → IsFixed fs inode at byte → IsFixed fs' inode at byte

-- all bytes of a file's blob that calls see are fixed
pub record FixesInode {R : Type 0} (inode : ℕ) (fs fs' : FileSystem R) : Type 0 where
  pub was : File
  pub there : file_in fs inode ≡ Some was
  pub fixed : (at byte : ℕ) → inode < 2 ^ 64 → has_byte at byte (bytes_of was.blob) ≡ true → IsFixed fs' inode at byte

-- those of an open file
pub record FixesFile {R : Type 0} (fs : FileSystem R) (file : Descriptor) (fs' : FileSystem R) : Type 0 where
  pub inode : ℕ
  pub opened : inode_opened fs file ≡ Some inode
  pub fixes : FixesInode inode fs fs'

-- calls see this byte of a file's blob
pub record HasSeen {R : Type 0} (fs : FileSystem R) (inode at byte : ℕ) : Type 0 where
  pub now : File
  pub there : file_in fs inode ≡ Some now
  pub has : has_byte at byte (bytes_of now.blob) ≡ true

-- each such byte stays so
abbrev pub KeepsSeen : {R : Type 0} → FileSystem R → FileSystem R → Type 0
KeepsSeen fs fs' = (inode at byte : ℕ) → inode < 2 ^ 64 → HasSeen fs inode at byte → HasSeen fs' inode at byte

-- all such bytes of all files that aren't gone are fixed
abbrev pub FixesAll : {R : Type 0} → FileSystem R → FileSystem R → Type 0
FixesAll fs fs' = (inode : ℕ) (was : File) (at byte : ℕ) → inode < 2 ^ 64 → file_of fs inode ≡ Some was
    → has_byte at byte (bytes_of was.blob) ≡ true → IsFixed fs' inode at byte

-- a list has the number of each file that isn't gone
abbrev pub ListsFiles : {R : Type 0} → FileSystem R → List ℕ → Type 0
ListsFiles fs inodes = (inode : ℕ) (was : File) → file_of fs inode ≡ Some was → Contains inodes inode

-- A list of calls.

-- a call doesn't reach this byte of this file
abbrev pub Spares : {R : Type 0} → FileSystem R → NumberCall → ℕ → ℕ → Type 0
Spares fs (Write f offset bytes) inode at = (inode_opened fs f ≢ Some inode) ⊎ IsBeside offset (length bytes.now) at
Spares fs (Truncate f length) inode at = (inode_opened fs f ≢ Some inode) ⊎ (at < length)
Spares fs (OpenTruncated i) inode at = inode ≢ i
Spares fs call inode at = Unit {0}

-- each fixed byte that a call doesn't reach stays fixed
abbrev pub KeepsUnreached : {R : Type 0} → NumberCall → FileSystem R → FileSystem R → Type 0
KeepsUnreached call fs fs' = (inode at byte : ℕ) → inode < 2 ^ 64 → Spares fs call inode at → IsFixed fs inode at byte → IsFixed fs' inode at byte

-- A crash.

-- the byte is durable, and calls see it
pub record FindsByte {R : Type 0} (fs : FileSystem R) (inode at byte : ℕ) : Type 0 where
  pub bytes : List ℕ
  pub durable : durable_of fs inode ≡ Some bytes
  pub read : option_map bytes_read (file_of fs inode) ≡ Some bytes
  pub has : has_byte at byte bytes ≡ true

-- each fixed byte of a file that a name reaches is found
abbrev pub FindsFixed : {R : Type 0} → FileSystem R → FileSystem R → Type 0
FindsFixed fs fs' = (name : List ℕ) (inode at byte : ℕ) → inode < 2 ^ 64 → names_of fs' name ≡ Some (file inode)
    → IsFixed fs inode at byte → FindsByte fs' inode at byte

-- Law: the file of each name exists.
abbrev pub NamedIsThere : Type 0 → Type 0
NamedIsThere R = (fs : FileSystem R) (name : List ℕ) (inode : ℕ) → names_of fs name ≡ Some (file inode) → is_some (file_of fs inode) ≡ true

-- all that calls see of a file's blob is fixed
abbrev pub AllFixed : {R : Type 0} → Journaled R → FileBlob → Type 0
AllFixed j blob = (at byte : ℕ) → has_byte at byte (bytes_of blob) ≡ true → HasFixed j blob at byte

-- each byte that reads return of a file was synced, and is fixed
abbrev pub IsWhole : {R : Type 0} → Journaled R → File → Type 0
IsWhole j file = (at byte : ℕ) → has_byte at byte (bytes_read file) ≡ true → IsSyncedAt file at × HasFixed j file.blob at byte

-- so it is for each file of a map
abbrev pub AreWhole : {R : Type 0} → Journaled R → BTreeMap ℕ File → Type 0
AreWhole j files = (inode : ℕ) (file : File) → inode < 2 ^ 64 → get nat_cmp files inode ≡ Some file → IsWhole j file

-- each byte that is found of a file is fixed, if the file system had given its number
abbrev pub FixesFound : {R : Type 0} → FileSystem R → FileSystem R → Type 0
FixesFound fs fs' = (inode at byte : ℕ) → inode < 2 ^ 64 → inode < fresh_inode fs → FindsByte fs' inode at byte → IsFixed fs' inode at byte
