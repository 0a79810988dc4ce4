use Rattle.blob_sessions.proofs.Putting.{puts_then}
use Rattle.blob_file_sessions.specs.CallLines.{path_field}
use Rattle.blob_file_sessions.proofs.line_text.put_paths.Goals as goal

pub returns : goal.returns
returns c = puts_then c.args.at (path_field c.args.path.now) (path_field c.args.to.now) c.args.into.now c.put_field.new.into c.put_field-2.new.into c.in-Some.end c.put_field-2.result c.in-Some.ensures c.put_field-2.ensures
