use Rattle.blob_sessions.proofs.Putting.{puts_then}
use Rattle.blob_sessions.specs.CallLines.{number_field}
use Rattle.blob_sessions.proofs.line_text.put_two.Goals as goal

pub returns : goal.returns
returns c = puts_then c.args.at (number_field c.args.first) (number_field c.args.second) c.args.into.now c.put_number.new.into c.put_number-2.new.into c.in-Some.end c.put_number-2.result c.in-Some.ensures c.put_number-2.ensures
