use Rattle.blob_sessions.proofs.Putting.{puts_one_more, overflows_at}
use Rattle.blob_sessions.proofs.reply_text.put_all.Goals as goal

pub loop-text-preserved : goal.loop-text-preserved
loop-text-preserved c =
    puts_one_more (λ text. text.now) c.args.texts.now c.loop-text.text-index _ c.args.at c.args.into.now c.loop-text.into c.put.new.into c.loop-text.end c.in-Some.next
    c.loop-text-test.true c.loop-text.invariant c.in-Some.ensures

pub returns-in_default : goal.returns-in_default
returns-in_default c =
    overflows_at (λ text. text.now) c.args.texts.now c.loop-text.text-index _ c.args.at c.args.into.now c.loop-text.into c.loop-text.end
    c.loop-text-test.true c.loop-text.invariant c.in_default.ensures
