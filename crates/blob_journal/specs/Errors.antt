-- Which errors a store of files returns that draws no fault.
use Rattle.std.specs.Prelude.{◌≡◌, ◌<◌, ℕ, length}
use Rattle.blob_memory.specs.Store.{live, place}
use Rattle.blob_faulty.specs.Wrapper.{inside, size_of}
use Rattle.blob_journal.specs.declared.journaled.Journaled.{Journaled}
use Rattle.blob_journal.specs.declared.store.FileBlob.{FileBlob}
use Rattle.blob_journal.specs.Blobs.{IsOpen}
use Rattle.blob_journal.specs.Journals.{store_of}
pub use Rattle.blob_journal.specs.Limits.{FailsAtLimits}
use Rattle.blob_journal.specs.Limits.{DrawsNothing}

-- no call fails by a draw
abbrev pub IsFaultless : {R : Type 0} → Journaled R → Type 0
IsFaultless j = DrawsNothing (store_of j)

-- its size is that of the bytes that calls see
abbrev pub TracksSize : FileBlob → Type 0
TracksSize file = size_of file.blob ≡ length (live (inside file.blob))

-- no call fails by a draw, the file is open, and its blob was opened through these names
pub record IsReady {R : Type 0} (j : Journaled R) (file : FileBlob) : Type 0 where
  pub faultless : IsFaultless j
  pub inode : ℕ
  pub is : IsOpen j inode file
  pub known : (place (inside file.blob)).number < j.opened

-- if it was so, it still is
abbrev pub KeepsReady : {R : Type 0} → Journaled R → FileBlob → Journaled R → FileBlob → Type 0
KeepsReady j file j' file' = IsReady j file → IsReady j' file'
