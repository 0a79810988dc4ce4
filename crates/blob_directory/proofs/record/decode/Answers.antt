use Rattle.std.proofs.Common.{arith}
use Rattle.std.proofs.lemmas.Grind.{common_steps}
use Rattle.blob_directory.specs.Records.{edit_told}
use Rattle.blob_directory.proofs.record.decode.Goals as goal

pub returns-clause-edit : goal.returns-clause-edit
unfolding edit_told
returns-clause-edit c = grind (arith, common_steps)
