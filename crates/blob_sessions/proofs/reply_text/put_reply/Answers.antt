use Rattle.blob_sessions.proofs.Putting.{puts_crashed}
use Rattle.blob_sessions.proofs.reply_text.put_reply.Goals as goal

pub returns-in_ok-end-in-Crashed : goal.returns-in_ok-end-in-Crashed
returns-in_ok-end-in-Crashed c =
    puts_crashed c.args.reply.now c.in-Crashed.selections c.rows.result.now c.args.into.now c.put-in-Crashed.new.into c.put_rows.new.into c.in_ok-end-in-Crashed.end c.put_rows.result
    c.in-Crashed.is c.rows.ensures c.in_ok-end-in-Crashed.ensures c.put_rows.ensures
