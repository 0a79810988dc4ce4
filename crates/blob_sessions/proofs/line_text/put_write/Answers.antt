use Rattle.std.proofs.Common.{◌++◌}
use Rattle.blob_sessions.proofs.Putting.{puts_then}
use Rattle.blob_sessions.specs.CallLines.{bytes_field, number_field}
use Rattle.blob_sessions.proofs.line_text.put_write.Goals as goal

pub returns : goal.returns
returns c = puts_then c.args.at (number_field c.args.asked.now.number ++ number_field c.args.asked.now.first) (bytes_field c.args.bytes.now) c.args.into.now c.put_two.new.into c.put_name.new.into c.in-Some.end c.put_name.result c.in-Some.ensures c.put_name.ensures
