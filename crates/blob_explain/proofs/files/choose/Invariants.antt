use Rattle.std.proofs.Common.{All, take}
use Rattle.blob_explain.specs.Choices.{HaveChoices}
use Rattle.blob_draws.specs.Rows.{AreNumbered, rows_in}
use Rattle.blob_explain.proofs.files.choose.Given as goal

abbrev pub invariant-loop-file : goal.invariant-loop-file
invariant-loop-file l = AreNumbered l.rows → All (HaveChoices (rows_in l.rows)) (take l.file-index l.files)
