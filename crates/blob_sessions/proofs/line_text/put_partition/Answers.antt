use Rattle.std.specs.Prelude.{codes}
use Rattle.blob_sessions.proofs.Putting.{puts_then}
use Rattle.blob_sessions.specs.CallLines.{partition_token}
use Rattle.blob_sessions.proofs.line_text.put_partition.Goals as goal

pub returns : goal.returns
returns c = puts_then c.args.at (codes " ") (partition_token c.args.partition.now) c.args.into.now c.put.new.into c.put_token.new.into c.in-Some.end c.put_token.result c.in-Some.ensures c.put_token.ensures
