use Rattle.std.proofs.Common.{arith}
use Rattle.std.proofs.lemmas.Grind.{common_steps}
use Rattle.blob_packed.specs.Records.{record_bytes}
use Rattle.blob_packed.proofs.record.put_record.Goals as goal

pub returns : goal.returns
unfolding record_bytes
returns c = grind (arith, common_steps)
