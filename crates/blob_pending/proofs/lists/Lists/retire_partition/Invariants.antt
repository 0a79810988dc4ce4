use Rattle.std.proofs.Common.{◌≡◌, cond, nat_eq, take, []}
use Rattle.std.specs.List.{list_any}
use Rattle.blob_model.specs.Places.{Place}
use Rattle.blob_pending.specs.Lists.{list_of}
use Rattle.blob_pending.proofs.lists.Lists.retire_partition.Given as goal

abbrev pub invariant-loop-number : goal.invariant-loop-number
invariant-loop-number g l = (a : Place) → list_of g.S.Durable.place l.self.all.lists.items a ≡ cond (list_any (nat_eq a.number) (take l.number-index l.number-items)) [] (list_of g.S.Durable.place l.fn.self.all.lists.items a)
