-- Which errors a recovery returns, and which a crash.
use Rattle.std.specs.Prelude.{◌≡◌, ◌<◌, ◌-◌, ◌^◌, ℕ, Err, Ok, Result, Some}
use Rattle.std.specs.BTreeMap.{BTreeMap, get}
use Rattle.std.specs.Ordering.{nat_cmp}
use Rattle.blob_header.specs.Refusals.{GenerationsExhausted, Memory, Refusal, refusal_of}
use Rattle.blob_memory.specs.Store.{directory}
use Rattle.blob_faulty.specs.Wrapper.{inner_of}
use Rattle.blob_journal.specs.declared.journaled.Journaled.{Journaled}
use Rattle.blob_journal.specs.Errors.{TracksSize}
use Rattle.blob_journal.specs.Journals.{store_of}
use Rattle.blob_journal.specs.Limits.{IsLimit}
use Rattle.blob_fs.specs.declared.error.FsError.{FsError}
use Rattle.blob_fs.specs.declared.error.FsError.TheVariants.{Store}
use Rattle.blob_fs.specs.declared.file_system.File.{File}
use Rattle.blob_fs.specs.declared.file_system.FileSystem.{FileSystem}

-- the number of the next blob
abbrev pub next_number : {R : Type 0} → Journaled R → ℕ
next_number j = (directory (inner_of (store_of j))).next

-- memory ran out, or a length has no number of 64 bits, or the store has given all of its numbers
abbrev pub IsLimited : ℕ → FsError → Type 0
IsLimited next (Store error) = IsLimit next (Some (refusal_of error))
IsLimited next error = ⊥

-- a result that isn't Ok has such an error, by the store after the call
abbrev pub StopsAtLimits : {R T : Type 0} → Journaled R → Result T FsError → Type 0
StopsAtLimits j (Ok x) = Unit {0}
StopsAtLimits j (Err error) = IsLimited (next_number j) error

-- memory ran out
abbrev pub IsOutOfMemory : FsError → Type 0
IsOutOfMemory (Store error) = refusal_of error ≡ Memory
IsOutOfMemory error = ⊥

-- memory ran out, or the store has given all 2^64 - 1 numbers of blobs
abbrev pub IsExhausted : ℕ → Refusal → Type 0
IsExhausted next Memory = Unit {0}
IsExhausted next GenerationsExhausted = next ≡ 2 ^ 64 - 1
IsExhausted next refusal = ⊥

-- an error of the layer that says so
abbrev pub IsExhaustedError : ℕ → FsError → Type 0
IsExhaustedError next (Store error) = IsExhausted next (refusal_of error)
IsExhaustedError next error = ⊥

-- a result that isn't Ok has such an error, by the store after the call
abbrev pub OnlyMemoryRefuses : {R T : Type 0} → FileSystem R → Result T FsError → Type 0
OnlyMemoryRefuses fs (Ok x) = Unit {0}
OnlyMemoryRefuses fs (Err error) = IsExhaustedError (next_number fs.store) error

-- the size of each file is that of the bytes that calls see
abbrev pub TrackSizes : BTreeMap ℕ File → Type 0
TrackSizes files = (inode : ℕ) (file : File) → inode < 2 ^ 64 → get nat_cmp files inode ≡ Some file → TracksSize file.blob
