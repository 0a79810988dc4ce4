use Rattle.std.proofs.Common.{rules}
use Rattle.std.specs.Prelude.{◌++◌, codes}
use Rattle.blob_script.specs.Replies.{hex_field}
use Rattle.blob_sessions.proofs.Putting.{puts_item, overflows_at_item}
use Rattle.blob_sessions.proofs.reply_text.put_names.Goals as goal

pub loop-name-preserved : goal.loop-name-preserved
loop-name-preserved c =
    puts_item (λ name. codes " " ++ hex_field name.items) c.args.names.now c.loop-name.name-index c.name-item.result _ c.args.at c.args.into.now c.loop-name.into c.put_name.new.into c.loop-name.end c.in-Some.next
    c.loop-name-test.true (search rules) (search rules) c.loop-name.invariant c.in-Some.ensures

pub returns-in_default : goal.returns-in_default
returns-in_default c =
    overflows_at_item (λ name. codes " " ++ hex_field name.items) c.args.names.now c.loop-name.name-index c.name-item.result (codes " " ++ hex_field c.deref.result.now) c.args.at c.args.into.now c.loop-name.into c.loop-name.end
    c.loop-name-test.true (search rules) (search rules) c.loop-name.invariant c.in_default.ensures
