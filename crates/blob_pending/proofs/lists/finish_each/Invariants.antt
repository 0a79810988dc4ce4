use Rattle.std.proofs.Common.{◌≡◌, ◌++◌, map, take, drop}
use Rattle.blob_model.specs.Places.{Place}
use Rattle.blob_pending.specs.Lists.{lists_of, finished_in}
use Rattle.blob_pending.proofs.lists.finish_each.Given as goal

abbrev pub invariant-loop-list : goal.invariant-loop-list
invariant-loop-list g l = (place : g.row.O.Denot → Place) → lists_of place (take l.list-index l.lists) ++ map (finished_in l.marker) (lists_of place (drop l.list-index l.lists)) ≡ map (finished_in l.marker) (lists_of place l.fn.lists)
