use Rattle.std.specs.Prelude.{codes}
use Rattle.blob_sessions.proofs.Putting.{puts_then}
use Rattle.blob_file_sessions.specs.PathTokens.{path_token}
use Rattle.blob_file_sessions.proofs.line_text.put_field.Goals as goal

pub returns : goal.returns
returns c = puts_then c.args.at (codes " ") (path_token c.args.path.now) c.args.into.now c.put.new.into c.put_path.new.into c.in-Some.end c.put_path.result c.in-Some.ensures c.put_path.ensures
