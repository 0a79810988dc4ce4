use Rattle.std.proofs.Common.{take, ◌++◌}
use Rattle.std.specs.Prelude.{codes}
use Rattle.std.specs.List.{flat_map}
use Rattle.blob_script.specs.Replies.{hex_field}
use Rattle.blob_sessions.specs.ReplyTexts.{PutsTo}
use Rattle.blob_sessions.proofs.reply_text.put_names.Given as goal

abbrev pub invariant-loop-name : goal.invariant-loop-name
invariant-loop-name l = PutsTo l.at (flat_map (λ name. codes " " ++ hex_field name.items) (take l.name-index l.names)) l.fn.into l.into l.end
