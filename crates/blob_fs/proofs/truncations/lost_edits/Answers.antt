use Rattle.std.proofs.Common.{arith}
use Rattle.std.proofs.lemmas.Grind.{common_steps}
use Rattle.blob_fs.proofs.Truncating.{lost_end, lost_step}
use Rattle.blob_fs.proofs.truncations.lost_edits.Goals as goal

pub loop-i-preserved : goal.loop-i-preserved
loop-i-preserved c = grind (arith, common_steps, lost_step c.args.numbers.now c.args.kept.now c.loop-i.i (omega arith) (omega arith))

pub returns : goal.returns
returns c = grind (arith, common_steps, lost_end c.args.numbers.now c.args.kept.now c.loop-i.i (omega arith))
