use Rattle.std.proofs.Common.{◌≡◌, drop}
use Rattle.blob_draws.specs.Drawings.{drawings_in, rows_drawn}
use Rattle.blob_draws.specs.Rows.{rows_in}
use Rattle.blob_draws.proofs.Rowing.{joined_rows}
use Rattle.blob_draws.proofs.rows.draw_rows.Given as goal

abbrev pub invariant-loop-draw : goal.invariant-loop-draw
invariant-loop-draw g l = joined_rows (rows_in l.rows.items) (rows_drawn (g.R.Rng.stream l.rng) (drawings_in (drop l.draw-index l.draws))) ≡ rows_drawn (g.R.Rng.stream l.fn.rng) (drawings_in l.draws)
