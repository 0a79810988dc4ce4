use Rattle.std.proofs.Common.{◌≡◌, ◌+◌, ◌≤◌, ℕ, List, length, drop, reverse}
use Rattle.std.specs.List.{All}
use Rattle.blob_model.specs.Runs.{runs}
use Rattle.blob_draws.specs.Spans.{pieces, ends_by}
use Rattle.blob_draws.proofs.runs.Span.of.Given as goal

abbrev pub invariant-loop-i : goal.invariant-loop-i
invariant-loop-i l = record {
  within : l.i ≤ length l.chosen;
  pieces : (offset : ℕ) (bytes : List ℕ) → length bytes ≡ length l.chosen → pieces offset bytes (reverse l.spans.items) ≡ runs (offset + l.i) (drop l.i bytes) (drop l.i l.chosen);
  inside : All (ends_by (length l.chosen)) l.spans.items;
}

abbrev pub decreases-loop-i : goal.decreases-loop-i
decreases-loop-i l = l.i
