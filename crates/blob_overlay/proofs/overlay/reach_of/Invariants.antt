use Rattle.std.proofs.Common.{◌≡◌, ◌≤◌, length}
use Rattle.blob_model.specs.Bytes.{reach}
use Rattle.blob_model.specs.Runs.{is_chosen}
use Rattle.blob_overlay.proofs.overlay.reach_of.Given as goal

abbrev pub invariant-loop-count : goal.invariant-loop-count
invariant-loop-count l = record {
  within : l.count ≤ length l.keep;
  same : reach l.offset l.count (is_chosen l.keep) ≡ reach l.offset (length l.keep) (is_chosen l.keep);
}

abbrev pub decreases-loop-count : goal.decreases-loop-count
decreases-loop-count l = l.count

abbrev pub invariant-loop-count-2 : goal.invariant-loop-count-2
invariant-loop-count-2 l = record {
  within : l.count ≤ length l.keep;
  same : reach l.offset l.count (is_chosen l.keep) ≡ reach l.offset (length l.keep) (is_chosen l.keep);
}

abbrev pub decreases-loop-count-2 : goal.decreases-loop-count-2
decreases-loop-count-2 l = l.count
