use Rattle.std.proofs.Common.{rules}
use Rattle.blob_sessions.proofs.Putting.{puts_row}
use Rattle.blob_sessions.proofs.reply_text.put_row.Goals as goal

pub returns : goal.returns
returns c = puts_row c.args.at c.args.number c.args.choices.now _ c.args.into.now c.put_all.new.into c.put_choices.new.into c.in-Some.end c.put_choices.result (search rules) c.in-Some.ensures c.put_choices.ensures
