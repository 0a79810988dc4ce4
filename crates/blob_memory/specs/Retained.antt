-- How the calls of a crash change a memory store.
use Rattle.std.specs.Prelude.{◌≡◌, ℕ, ◌+◌, ◌<◌, ◌≤◌, ◌^◌, Bool, List, Some, None, Result, OnOk, OnErr, IsOk, if◌then◌else◌}
use Rattle.blob_header.specs.declared.error.Error.{Error}
use Rattle.blob_header.specs.Refusals.{error_of, OffsetOverflow}
use Rattle.blob_model.specs.Bytes.{overlay_by, reach}
use Rattle.blob_model.specs.Durable.{with_changed}
use Rattle.blob_model.specs.Runs.{is_chosen}
use Rattle.blob_model.specs.Places.{Place}
use Rattle.blob_memory.specs.declared.storage.Storage.{Storage}
use Rattle.blob_memory.specs.Answers.{OrMemory, is_uncounted}
use Rattle.blob_memory.specs.Store.{directory, durable, HasCrashRoom}
use Rattle.blob_pages.specs.Stored.{Stored}

-- the same files; no capacity for a crash shrinks
pub record KeepsRoom (s t : Storage) : Type 0 where
  pub directory : directory t ≡ directory s
  pub room : (o : Place) (n : ℕ) → HasCrashRoom s o n → HasCrashRoom t o n

-- `OffsetOverflow` if the physical end doesn't fit in 64 bits, else Ok or `Memory`. Never `Memory` if the capacity suffices
pub record NeedsRoom {T : Type 0} (result : Result T Error) (s : Storage) (o : Place) (end need : ℕ) : Type 0 where
  pub allowed : OrMemory (if is_uncounted end then Some OffsetOverflow else None) (error_of result)
  pub succeeds : end < 2 ^ 64 → HasCrashRoom s o need → IsOk result

-- the same for a write of the selected ones of n bytes
abbrev pub NeedsWriteRoom : {T : Type 0} → Result T Error → Storage → Place → ℕ → ℕ → (ℕ → Bool) → Type 0
NeedsWriteRoom result s o offset n chosen = NeedsRoom result s o (offset + o.start + n) (reach offset n chosen)

-- the durable bytes b of an incarnation are replaced by w
pub record Retakes (s t : Storage) (o : Place) (b w : Stored) : Type 0 where
  pub durable : (change : List ℕ → List ℕ) → w.items ≡ change b.items → durable t ≡ with_changed (durable s) o change
  pub kept : b.capacity ≤ w.capacity → KeepsRoom s t

-- no durable byte has changed
pub record IsAsBefore (s t : Storage) : Type 0 where
  pub durable : durable t ≡ durable s
  pub kept : KeepsRoom s t

-- the durable bytes of an incarnation change, if it is current; on Err they are unchanged
pub record Retains {T : Type 0} (result : Result T Error) (s t : Storage) (o : Place) (change : List ℕ → List ℕ) : Type 0 where
  pub ok : OnOk result (durable t ≡ with_changed (durable s) o change)
  pub err : OnErr result (durable t ≡ durable s)
  pub kept : KeepsRoom s t

-- a write of the bytes that `keep` selects to the durable bytes of an incarnation, if it is current
abbrev pub RetainsWrite : {T : Type 0} → Result T Error → Storage → Storage → Place → ℕ → List ℕ → List Bool → Type 0
RetainsWrite result s t o offset bytes keep = Retains result s t o (λ x. overlay_by x offset bytes (is_chosen keep))
