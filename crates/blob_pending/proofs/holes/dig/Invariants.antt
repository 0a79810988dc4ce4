use Rattle.std.proofs.Common.{◌≡◌, ◌≤◌, ◌-◌, drop, vec_len}
use Rattle.blob_model.specs.Holes.{with_hole}
use Rattle.blob_pending.specs.Ranges.{ranges}
use Rattle.blob_pending.proofs.holes.dig.Given as goal

abbrev pub invariant-loop-last : goal.invariant-loop-last
invariant-loop-last l = record {
  order : l.first ≤ l.last;
  inside : l.last ≤ vec_len l.holes;
  low : l.start ≤ l.fn.start;
  so_far : with_hole l.start l.end (ranges (drop l.last l.holes.items)) ≡ with_hole l.fn.start l.fn.end (ranges (drop l.first l.holes.items));
}

abbrev pub decreases-loop-last : goal.decreases-loop-last
decreases-loop-last l = vec_len l.holes - l.last
