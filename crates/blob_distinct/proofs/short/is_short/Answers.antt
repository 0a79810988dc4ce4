use Rattle.std.proofs.Common.{arith, ◌≡◌, ◌++◌, ◌∷◌, ◌+◌, [], take, sym, ap, ◌∙◌, subst}
use Rattle.std.proofs.lemmas.List.{take_more}
use Rattle.blob_choices.specs.Outcomes.{NoneOutOfMemory}
use Rattle.blob_distinct.proofs.Refused.{none_more}
use Rattle.blob_distinct.proofs.short.is_short.Goals as goal

pub loop-reply-preserved : goal.loop-reply-preserved
loop-reply-preserved c =
    let all = c.args.replies.now in
    let i = c.loop-reply.reply-index in
    let more : take (i + 1) all ≡ take i all ++ c.reply-item.result ∷ [] = take_more all i c.reply-item.result (omega arith) ∙ ap (λ x. take i all ++ x ∷ []) (sym c.reply-item.is) in
    subst NoneOutOfMemory (sym more) (none_more (take i all) c.reply-item.result c.loop-reply.invariant c.if-is_memory.ensures.not)
