use Rattle.std.proofs.Common.{◌≡◌, ◌++◌, drop, false}
use Rattle.blob_model.specs.Order.{waiting_of_all}
use Rattle.blob_model.specs.Pending.{has_marker, waiting}
use Rattle.blob_model.specs.Places.{Place}
use Rattle.blob_draws.specs.Drawings.{drawings_in, drawings_of}
use Rattle.blob_pending.specs.Lists.{lists_of}
use Rattle.blob_pending.specs.Views.{left_in}
use Rattle.blob_pending.proofs.gather.gather.Given as goal

abbrev pub invariant-loop-list : goal.invariant-loop-list
invariant-loop-list g l = (place : g.row.O.Denot → Place) → drawings_in l.draws.items ++ drawings_of (waiting_of_all (lists_of place (drop l.list-index l.lists))) ≡ drawings_of (waiting_of_all (lists_of place l.lists))

abbrev pub invariant-loop-entry : goal.invariant-loop-entry
invariant-loop-entry g l = record {
  none : has_marker (left_in (drop l.entry-index l.entry-items)) ≡ false;
  so_far : drawings_in l.draws.items ++ drawings_of (waiting (left_in (drop l.entry-index l.entry-items))) ≡ drawings_in l.initial.draws.items ++ drawings_of (waiting (left_in l.entry-items));
}
