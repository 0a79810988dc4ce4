use Rattle.std.proofs.Common.{All, take}
use Rattle.blob_explain.specs.Choices.{HasChoices}
use Rattle.blob_draws.specs.Rows.{AreNumbered, rows_in}
use Rattle.blob_explain.proofs.files.choose_each.Given as goal

abbrev pub invariant-loop-item : goal.invariant-loop-item
invariant-loop-item l = AreNumbered l.rows → All (HasChoices (rows_in l.rows)) (take l.item-index l.entries)
