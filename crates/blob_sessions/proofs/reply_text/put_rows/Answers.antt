use Rattle.std.proofs.Common.{rules}
use Rattle.blob_script.specs.Replies.{row_field}
use Rattle.blob_draws.specs.Rows.{row_in}
use Rattle.blob_sessions.proofs.Putting.{puts_item, overflows_at_item}
use Rattle.blob_sessions.proofs.reply_text.put_rows.Goals as goal

pub loop-number-preserved : goal.loop-number-preserved
loop-number-preserved c =
    puts_item (λ row. row_field (row_in row)) c.args.rows.now c.loop-number.number-index c.loop-number-item.result _ c.args.at c.args.into.now c.loop-number.into c.put_row.new.into c.loop-number.end c.in-Some.next
    c.loop-number-test.true (search rules) (search rules) c.loop-number.invariant c.in-Some.ensures

pub returns-in_default : goal.returns-in_default
returns-in_default c =
    overflows_at_item (λ row. row_field (row_in row)) c.args.rows.now c.loop-number.number-index c.loop-number-item.result (row_field (c.loop-number-item.result.0, c.deref.result.now)) c.args.at c.args.into.now c.loop-number.into c.loop-number.end
    c.loop-number-test.true (search rules) (search rules) c.loop-number.invariant c.in_default.ensures
