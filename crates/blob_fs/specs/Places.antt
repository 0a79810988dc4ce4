-- Where the writes were of which a crash returns rows.
use Rattle.std.specs.Prelude.{◌≡◌, ◌≢◌, ℕ, List, Option, None, Some}
use Rattle.std.specs.List.{AllZip}
use Rattle.blob_model.specs.Log.{Need, Write}
use Rattle.blob_model.specs.Order.{In}
use Rattle.blob_model.specs.Pending.{waiting}
use Rattle.blob_model.specs.Places.{Place as Origin}
use Rattle.blob_memory.specs.Store.{place}
use Rattle.blob_draws.specs.Rows.{rows_of}
use Rattle.blob_draws.specs.declared.selections.Selections.{Selections}
use Rattle.blob_faulty.specs.Wrapper.{inside}
use Rattle.blob_journal.specs.Currents.{pending_at}
use Rattle.blob_journal.specs.Journals.{store_of}
use Rattle.blob_fs.specs.declared.crash.Place.{Place}
use Rattle.blob_fs.specs.declared.file_system.File.{File}
use Rattle.blob_fs.specs.declared.file_system.FileSystem.{FileSystem}
use Rattle.blob_fs.specs.Bytes.{file_in}
use Rattle.blob_fs.specs.Files.{journaled_of}

-- a crash draws for this write, which is pending of this incarnation
pub record IsPending {R : Type 0} (fs : FileSystem R) (origin : Origin) (write : Write) : Type 0 where
  pub need : Need
  pub waits : In need (waiting (pending_at (store_of (journaled_of fs)) origin))
  pub is : need.write ≡ write

-- the number of the incarnation of a file's blob
abbrev pub number_of : File → ℕ
number_of file = (place (inside file.blob.blob)).number

-- the file with this inode has a blob of this number; None: no file has one
abbrev pub IsInodeOf : {R : Type 0} → FileSystem R → ℕ → Option ℕ → Type 0
IsInodeOf fs number None = (inode : ℕ) (file : File) → file_in fs inode ≡ Some file → number_of file ≢ number
IsInodeOf fs number (Some inode) = (file : File) × (file_in fs inode ≡ Some file) × (number_of file ≡ number)

-- The pending write with this number was in this file, or in the journal, at this offset. There is one such write: each with
-- the number is of the same incarnation, at the same offset.
pub record IsPlaceOf {R : Type 0} (fs : FileSystem R) (number : ℕ) (place : Place) : Type 0 where
  pub origin : Origin
  pub write : Write
  pub pending : IsPending fs origin write
  pub numbered : write.number ≡ number
  pub only : (o : Origin) (w : Write) → IsPending fs o w → w.number ≡ number
      → (o ≡ origin) × (w.offset ≡ write.offset)
  pub inode : IsInodeOf fs origin.number place.inode
  pub offset : place.offset ≡ write.offset

-- a place for each row, in order: that of the write with the row's number
abbrev pub FindsPlaces : {R : Type 0} → FileSystem R → Selections → List Place → Type 0
FindsPlaces fs rows places = AllZip (λ row place. IsPlaceOf fs row.0 place) (rows_of rows) places
