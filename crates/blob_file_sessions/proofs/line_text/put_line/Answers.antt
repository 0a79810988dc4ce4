use Rattle.std.proofs.Common.{◌++◌}
use Rattle.blob_sessions.proofs.Putting.{puts_then}
use Rattle.blob_file_sessions.specs.CallLines.{fields}
use Rattle.blob_file_sessions.proofs.line_text.put_line.Goals as goal

pub returns : goal.returns
returns c = puts_then 0 (c.args.word.now ++ fields c.args.form c.args.asked.now c.args.path.now c.args.to.now) (c.args.how.now) c.args.into.now c.put_front.new.into c.put.new.into c.in-Some.end c.put.result c.in-Some.ensures c.put.ensures
