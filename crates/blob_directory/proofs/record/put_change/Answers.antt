use Rattle.std.proofs.Common.{arith}
use Rattle.std.proofs.lemmas.Grind.{common_steps}
use Rattle.blob_directory.specs.Records.{change_bytes}
use Rattle.blob_directory.proofs.record.put_change.Goals as goal

pub returns : goal.returns
unfolding change_bytes
returns c = grind (arith, common_steps)
