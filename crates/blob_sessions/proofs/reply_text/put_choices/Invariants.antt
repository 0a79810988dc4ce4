use Rattle.std.proofs.Common.{take, ◌∷◌, [], if◌then◌else◌}
use Rattle.std.specs.List.{flat_map}
use Rattle.blob_sessions.specs.ReplyTexts.{PutsTo}
use Rattle.blob_sessions.proofs.reply_text.put_choices.Given as goal

abbrev pub invariant-loop-kept : goal.invariant-loop-kept
invariant-loop-kept l = PutsTo l.at (flat_map (λ kept. (if kept then 49 else 48) ∷ []) (take l.kept-index l.choices)) l.fn.into l.into l.end
