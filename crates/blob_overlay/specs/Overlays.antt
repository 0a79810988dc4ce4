-- How writes and resizes change a vector of bytes.
use Rattle.std.specs.Prelude.{◌≡◌, ◌≤◌, ℕ, List, Result, OnOk, OnErr, IsOk, Vec, vec_capacity}
use Rattle.std.specs.Global.{Global}

-- the new bytes; the capacity doesn't shrink
pub record AreNow (old new : Vec ℕ Global) (bytes : List ℕ) : Type 0 where
  pub items : new.items ≡ bytes
  pub capacity : vec_capacity old ≤ vec_capacity new

-- a change that needs this capacity: Ok has the new bytes. Err is out of memory, never happens if the capacity suffices, and
-- leaves the bytes unchanged
pub record Grows {T E : Type 0} (result : Result T E) (old new : Vec ℕ Global) (need : ℕ) (bytes : List ℕ) : Type 0 where
  pub ok : OnOk result (new.items ≡ bytes)
  pub err : OnErr result (new.items ≡ old.items)
  pub succeeds : need ≤ vec_capacity old → IsOk result
  pub capacity : vec_capacity old ≤ vec_capacity new
