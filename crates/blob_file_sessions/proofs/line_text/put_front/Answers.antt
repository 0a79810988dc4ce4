use Rattle.blob_sessions.proofs.Putting.{puts_then}
use Rattle.blob_file_sessions.specs.CallLines.{fields}
use Rattle.blob_file_sessions.proofs.line_text.put_front.Goals as goal

pub returns : goal.returns
returns c = puts_then 0 (c.args.word.now) (fields c.args.form c.args.asked.now c.args.path.now c.args.to.now) c.args.into.now c.put.new.into c.put_fields.new.into c.in-Some.end c.put_fields.result c.in-Some.ensures c.put_fields.ensures
