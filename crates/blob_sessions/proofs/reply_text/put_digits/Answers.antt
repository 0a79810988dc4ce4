use Rattle.std.proofs.Common.{rules}
use Rattle.blob_sessions.proofs.Putting.{puts_copied, puts_too_long, digits_len}
use Rattle.blob_sessions.proofs.reply_text.put_digits.Goals as goal

pub returns-in_default : goal.returns-in_default
returns-in_default c = let d = digits_len c.args.bytes.now in search (rules, d)

pub returns-in_default-checked_add : goal.returns-in_default-checked_add
returns-in_default-checked_add c = let d = digits_len c.args.bytes.now in search (rules, d)

pub returns-then-end-into : goal.returns-then-end-into
returns-then-end-into c = let d = digits_len c.args.bytes.now in puts_copied c.args.at _ _ c.args.into.now _ (search (rules, d)) (search (rules, d)) (search rules)

pub returns-else-end-into : goal.returns-else-end-into
returns-else-end-into c = let d = digits_len c.args.bytes.now in puts_too_long c.args.at _ c.args.into.now _ (search (rules, d)) (search rules)
