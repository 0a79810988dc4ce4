use Rattle.std.proofs.Common.{◌++◌}
use Rattle.blob_sessions.proofs.Putting.{puts_then}
use Rattle.blob_sessions.specs.CallLines.{number_field}
use Rattle.blob_file_sessions.proofs.line_text.put_three.Goals as goal

pub returns : goal.returns
returns c = puts_then c.args.at (number_field c.args.asked.now.number ++ number_field c.args.asked.now.first) (number_field c.args.asked.now.last) c.args.into.now c.put_two.new.into c.put_number.new.into c.in-Some.end c.put_number.result c.in-Some.ensures c.put_number.ensures
