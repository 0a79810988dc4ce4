use Rattle.blob_sessions.proofs.Putting.{puts_then}
use Rattle.blob_file_sessions.specs.CallLines.{path_field}
use Rattle.blob_sessions.specs.CallLines.{number_field}
use Rattle.blob_file_sessions.proofs.line_text.put_entry.Goals as goal

pub returns : goal.returns
returns c = puts_then c.args.at (number_field c.args.directory) (path_field c.args.name.now) c.args.into.now c.put_number.new.into c.put_field.new.into c.in-Some.end c.put_field.result c.in-Some.ensures c.put_field.ensures
