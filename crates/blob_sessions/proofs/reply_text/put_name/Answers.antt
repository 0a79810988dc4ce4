use Rattle.std.specs.Prelude.{codes}
use Rattle.blob_script.specs.Replies.{hex_field}
use Rattle.blob_sessions.proofs.Putting.{puts_then}
use Rattle.blob_sessions.proofs.reply_text.put_name.Goals as goal

pub returns : goal.returns
returns c = puts_then c.args.at (codes " ") (hex_field c.args.name.now) c.args.into.now c.put.new.into c.put_hex.new.into c.in-Some.end c.put_hex.result c.in-Some.ensures c.put_hex.ensures
