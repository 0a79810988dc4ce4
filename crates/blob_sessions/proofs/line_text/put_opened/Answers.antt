use Rattle.std.proofs.Common.{◌++◌}
use Rattle.blob_sessions.proofs.Putting.{puts_then}
use Rattle.blob_sessions.specs.CallLines.{bytes_field, partition_field, versions_field}
use Rattle.blob_sessions.proofs.line_text.put_opened.Goals as goal

pub returns : goal.returns
returns c = puts_then c.args.at (partition_field c.args.partition.now ++ bytes_field c.args.name.now) (versions_field c.args.asked.now) c.args.into.now c.put_named.new.into c.put_versions.new.into c.in-Some.end c.put_versions.result c.in-Some.ensures c.put_versions.ensures
