use Rattle.std.proofs.Common.{◌≡◌, ◌≤◌, ◌<◌, ◌-◌, ℕ, false, length}
use Rattle.blob_model.specs.Runs.{is_chosen}
use Rattle.blob_overlay.proofs.overlay.end_of_gap.Given as goal

abbrev pub invariant-loop-end : goal.invariant-loop-end
invariant-loop-end l = record {
  some : l.start ≤ l.end;
  within : l.end ≤ length l.keep;
  others : (i : ℕ) → l.start ≤ i → i < l.end → is_chosen l.keep i ≡ false;
}

abbrev pub decreases-loop-end : goal.decreases-loop-end
decreases-loop-end l = length l.keep - l.end

abbrev pub invariant-loop-end-2 : goal.invariant-loop-end-2
invariant-loop-end-2 l = record {
  some : l.start ≤ l.end;
  within : l.end ≤ length l.keep;
  others : (i : ℕ) → l.start ≤ i → i < l.end → is_chosen l.keep i ≡ false;
}

abbrev pub decreases-loop-end-2 : goal.decreases-loop-end-2
decreases-loop-end-2 l = length l.keep - l.end
