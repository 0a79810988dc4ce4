-- The capacity of the memory store that the replay of a crash needs.
use Rattle.std.specs.Prelude.{◌≡◌, ℕ, ◌+◌, ◌<◌, ◌≤◌, ◌^◌, Bool, true, vec_capacity}
use Rattle.std.specs.declared.vec.Vec.{Vec}
use Rattle.std.specs.declared.alloc.Global.{Global}
use Rattle.blob_pages.specs.Stored.{Stored}
use Rattle.blob_model.specs.Directory.{is_current}
use Rattle.blob_model.specs.Order.{ListAt}
use Rattle.blob_model.specs.Pending.{ends}
use Rattle.blob_memory.specs.Store.{directory, HasCrashRoom}
use Rattle.blob_memory.specs.declared.storage.Storage.{Storage}
use Rattle.blob_pending.specs.Replays.{unmarked}

-- if the incarnation is current, the store has capacity for all its entries
abbrev pub IsReady : Storage → ListAt → Type 0
IsReady s h = is_current (directory s) h.0 ≡ true → (ends (unmarked h.1) + h.0.start < 2 ^ 64) × HasCrashRoom s h.0 (ends (unmarked h.1))

-- there is capacity for entries up to this end, of which the longest has this many bytes
pub record CanReplay (bytes : Stored) (end widest : ℕ) (chosen : Vec Bool Global) : Type 0 where
  pub counted : end < 2 ^ 64
  pub room : end ≤ bytes.capacity
  pub width : widest ≤ vec_capacity chosen
