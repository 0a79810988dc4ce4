use Rattle.std.proofs.Common.{arith}
use Rattle.std.proofs.lemmas.Grind.{common_steps}
use Rattle.blob_directory.specs.Records.{edit_bytes}
use Rattle.blob_directory.proofs.record.edit_bytes.Goals as goal

pub returns : goal.returns
unfolding edit_bytes
returns c = grind (arith, common_steps)
