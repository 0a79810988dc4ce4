use Rattle.std.proofs.Common.{rules, refl, arith, ◌≡◌, ◌++◌, ◌∷◌, ◌+◌, [], take, sym, ap, ◌∙◌, List, subst}
use Rattle.std.proofs.lemmas.List.{take_all, take_more}
use Rattle.blob_lab_model.specs.Runs.{LeadsTo}
use Rattle.blob_script.specs.declared.call.Call.{Call}
use Rattle.blob_script.specs.declared.reply.Reply.{Reply}
use Rattle.blob_lab_model.proofs.Lasting.{run_persists}
use Rattle.blob_lab_model.proofs.RunSteps.{run_more}
use Rattle.blob_lab_store.proofs.lab.Lab.run.Goals as goal

pub loop-call-init : goal.loop-call-init
loop-call-init c =
    let none : c.in_ok-replies.replies.items ≡ [] = search rules in
    record { room = search rules; count = search rules; stands = λ v h. (v, subst (λ (rs : List Reply). LeadsTo v [] rs v) (sym none) refl, h) }

pub loop-call-preserved : goal.loop-call-preserved
loop-call-preserved c =
    let calls = c.args.calls.now in
    let i = c.loop-call.call-index in
    let more : take (i + 1) calls ≡ take i calls ++ c.call-item.result ∷ [] = take_more calls i c.call-item.result (omega arith) ∙ ap (λ x. take i calls ++ x ∷ []) (sym c.call-item.is) in
    let told : c.push.new.self.items ≡ c.loop-call.replies.items ++ c.apply-reply.result ∷ [] = search rules in
    record {
      room = search rules;
      count = search rules;
      stands = λ v h.
          let s = c.loop-call.invariant.stands v h in
          rw (more, told) (_, run_more s.0 (take i calls) c.loop-call.replies.items v c.call-item.result c.apply-reply.result _ s.1 (c.apply-reply.ensures.answers s.0 s.2), c.apply-reply.ensures.stands s.0 s.2);
    }

pub returns-clause-fixed : goal.returns-clause-fixed
returns-clause-fixed c = λ v h reached strict.
    let calls = c.args.calls.now in
    let replies = c.loop-call.replies.items in
    let s = c.loop-call.invariant.stands v h in
    let all : take c.loop-call.call-index calls ≡ calls = take_all c.loop-call.call-index calls (omega arith) in
    run_persists v s.0 calls replies reached strict (subst (λ (cs : List Call). LeadsTo v cs replies s.0) all s.1)
