use Rattle.std.proofs.Common.{rules}
use Rattle.blob_sessions.proofs.Putting.{puts_copied}
use Rattle.blob_sessions.proofs.line_text.put_slice.Goals as goal

pub returns-then-end-into : goal.returns-then-end-into
returns-then-end-into c = puts_copied c.args.at c.args.bytes.now _ c.args.into.now c.in_ok-end.end (search rules) (search rules) (search rules)
