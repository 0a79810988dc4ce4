use Rattle.std.proofs.Common.{◌∙◌, arith}
use Rattle.blob_faulty.proofs.FailedSteps.{last_of}
use Rattle.blob_faulty.proofs.write_runs.Piece.highest_end.Goals as goal

pub returns-in-len1-up : goal.returns-in-len1-up
returns-in-len1-up c = c.end.ensures ∙ last_of c.args.pieces.now c.highest-item.result (omega arith) c.highest-item.is
