use Rattle.std.proofs.Common.{◌≡◌, ◌+◌, ◌-◌, ◌≤◌, true, false, vec_len, vec_capacity}
use Rattle.blob_model.specs.Draws.{sectors}
use Rattle.blob_draws.proofs.DrawSteps.{joined}
use Rattle.blob_draws.proofs.selection.draw_sectors.Given as goal

abbrev pub invariant-loop-done : goal.invariant-loop-done
invariant-loop-done g l = record {
  len : vec_len l.chosen ≡ l.done;
  within : l.done ≤ l.len;
  room : l.len ≤ vec_capacity l.chosen;
  drawn : joined l.chosen.items (sectors l.rate l.size (l.offset + l.done) true false (l.len - l.done) (g.R.Rng.stream l.rng)) ≡ sectors l.rate l.size l.offset true false l.len (g.R.Rng.stream l.fn.rng);
}

abbrev pub decreases-loop-done : goal.decreases-loop-done
decreases-loop-done g l = l.len - l.done
