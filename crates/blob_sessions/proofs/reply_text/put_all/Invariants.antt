use Rattle.std.proofs.Common.{take}
use Rattle.std.specs.List.{flat_map}
use Rattle.blob_sessions.specs.ReplyTexts.{PutsTo}
use Rattle.blob_sessions.proofs.reply_text.put_all.Given as goal

abbrev pub invariant-loop-text : goal.invariant-loop-text
invariant-loop-text l = PutsTo l.at (flat_map (λ text. text.now) (take l.text-index l.texts)) l.fn.into l.into l.end
