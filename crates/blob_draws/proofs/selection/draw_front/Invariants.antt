use Rattle.std.proofs.Common.{◌≡◌, ◌-◌, ◌≤◌, vec_len, vec_capacity}
use Rattle.blob_model.specs.Draws.{front}
use Rattle.blob_draws.proofs.DrawSteps.{joined}
use Rattle.blob_draws.proofs.selection.draw_front.Given as goal

abbrev pub invariant-loop-i : goal.invariant-loop-i
invariant-loop-i g l = record {
  len : vec_len l.chosen ≡ l.i;
  room : l.len ≤ vec_capacity l.chosen;
  drawn : joined l.chosen.items (front l.rate (l.len - l.i) (g.R.Rng.stream l.rng)) ≡ front l.rate l.len (g.R.Rng.stream l.fn.rng);
}
