use Rattle.std.proofs.Common.{◌<◌, ◌≤◌, ◌-◌, ℕ}
use Rattle.blob_pending.specs.Blocks.{IsPassed}
use Rattle.blob_pending.proofs.bounds.BlockBounds.next_near.Given as goal

abbrev pub invariant-loop-i : goal.invariant-loop-i
invariant-loop-i l = record {
  from : l.from ≤ l.i;
  len : l.i ≤ l.len;
  passed : (k : ℕ) → l.from ≤ k → k < l.i → IsPassed l.self k l.start l.end;
}

abbrev pub decreases-loop-i : goal.decreases-loop-i
decreases-loop-i l = l.len - l.i
