use Rattle.blob_sessions.proofs.Putting.{puts_then}
use Rattle.blob_sessions.specs.CallLines.{bytes_field, partition_field}
use Rattle.blob_sessions.proofs.line_text.put_named.Goals as goal

pub returns : goal.returns
returns c = puts_then c.args.at (partition_field c.args.partition.now) (bytes_field c.args.name.now) c.args.into.now c.put_partition.new.into c.put_name.new.into c.in-Some.end c.put_name.result c.in-Some.ensures c.put_name.ensures
