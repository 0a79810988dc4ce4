use Rattle.std.proofs.Common.{◌≡◌, ℕ, None, cond, nat_eq, take}
use Rattle.std.specs.List.{list_any}
use Rattle.indexmap.specs.IndexMap.{get}
use Rattle.blob_pending.proofs.owners.forget.Given as goal

abbrev pub invariant-loop-marker : goal.invariant-loop-marker
invariant-loop-marker l = (m : ℕ) → get nat_eq l.owners m ≡ cond (list_any (nat_eq m) (take l.marker-index l.markers)) None (get nat_eq l.fn.owners m)
