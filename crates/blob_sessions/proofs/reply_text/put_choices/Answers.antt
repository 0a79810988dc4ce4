use Rattle.std.proofs.Common.{◌∷◌, [], if◌then◌else◌, arith, length, ap, false}
use Rattle.blob_sessions.proofs.Putting.{overflows_at}
use Rattle.blob_sessions.proofs.reply_text.put_choices.Goals as goal

pub returns-in_default : goal.returns-in_default
returns-in_default c =
    overflows_at (λ kept. (if kept then 49 else 48) ∷ []) c.args.choices.now c.loop-kept.kept-index false c.args.at c.args.into.now c.loop-kept.into c.loop-kept.end
    c.loop-kept-test.true c.loop-kept.invariant (let h = c.in_default.ensures in let one = ap length c.digit.ensures in omega (arith, h, one))
