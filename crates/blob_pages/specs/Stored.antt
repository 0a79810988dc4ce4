-- The bytes of a blob as their owner sees them.
use Rattle.std.specs.Prelude.{◌≡◌, ◌≤◌, ℕ, Bool, List, Result, OnOk, OnErr, IsOk, length}
use Rattle.blob_model.specs.Bytes.{overlay_by, reach}
use Rattle.blob_model.specs.Runs.{is_chosen}

-- the bytes, and the length up to which changes never fail
pub record Stored : Type 0 where
  pub items : List ℕ
  pub capacity : ℕ

-- the new bytes; the capacity doesn't shrink
pub record AreNow (old new : Stored) (bytes : List ℕ) : Type 0 where
  pub items : new.items ≡ bytes
  pub capacity : old.capacity ≤ new.capacity

-- a change that needs this capacity: Ok has the new bytes. Err is out of memory, never happens if the capacity suffices, and
-- leaves the bytes unchanged
pub record Grows {T E : Type 0} (result : Result T E) (old new : Stored) (need : ℕ) (bytes : List ℕ) : Type 0 where
  pub ok : OnOk result (new.items ≡ bytes)
  pub err : OnErr result (new.items ≡ old.items)
  pub succeeds : need ≤ old.capacity → IsOk result
  pub capacity : old.capacity ≤ new.capacity

-- a write of the bytes of a run that `keep` selects
abbrev pub WritesSelected : {T E : Type 0} → Result T E → Stored → Stored → ℕ → List ℕ → List Bool → Type 0
WritesSelected result old new offset run keep =
    Grows result old new (reach offset (length run) (is_chosen keep)) (overlay_by old.items offset run (is_chosen keep))
