use Rattle.std.proofs.Common.{◌≡◌, ◌≤◌, drop, length, false}
use Rattle.blob_model.specs.Pending.{has_marker}
use Rattle.blob_pending.specs.Views.{views}
use Rattle.blob_pending.proofs.entries.unmarked.Given as goal

abbrev pub invariant-loop-start : goal.invariant-loop-start
invariant-loop-start l = record {
  inside : l.start ≤ length l.entries;
  none : has_marker (views (drop l.start l.entries)) ≡ false;
}

abbrev pub decreases-loop-start : goal.decreases-loop-start
decreases-loop-start l = l.start
