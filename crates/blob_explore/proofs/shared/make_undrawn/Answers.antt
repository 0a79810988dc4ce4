use Rattle.std.proofs.Common.{arith, ◌≡◌, ◌++◌, ◌∷◌, ◌+◌, List, [], take, sym, ap, ◌∙◌, subst}
use Rattle.std.proofs.lemmas.List.{take_more}
use Rattle.blob_script.specs.declared.call.Call.{Call}
use Rattle.blob_choices.specs.Outcomes.{SetNoPartialResize, acts_of}
use Rattle.blob_explore.proofs.Adding.{one_more_call}
use Rattle.blob_explore.proofs.shared.make_undrawn.Goals as goal

pub loop-i-preserved : goal.loop-i-preserved
loop-i-preserved c =
    let all = c.args.calls.now in
    let i = c.loop-i.i in
    let call = c.index-calls-i.result in
    let more : take (i + 1) all ≡ take i all ++ call ∷ [] = take_more all i call (omega arith) ∙ ap (λ (x : Call). take i all ++ x ∷ []) (sym c.index-calls-i.is) in
    subst (λ (calls : List Call). SetNoPartialResize (acts_of calls)) (sym more) (one_more_call (take i all) call c.if-draws_size.ensures.no c.loop-i.invariant)
