use Rattle.std.proofs.Common.{rules, refl, sym, ap, ◌∙◌, None, inr}
use Rattle.std.specs.Prelude.{slice_set}
use Rattle.std.proofs.lemmas.List.{set_past}
use Rattle.blob_sessions.proofs.Registry.{kept_of_slot, none_past, settles_none, settles_token}
use Rattle.blob_sessions.proofs.debts.Debts.settle.Goals as goal

pub returns-then-number-len-clause-call : goal.returns-then-number-len-clause-call
returns-then-number-len-clause-call c =
    let tokens = c.args.self.now.tokens.items in let n = c.args.number in
    rw c.stopped.ensures (inr (settles_none _ _ _ _ n _ (none_past tokens n (search rules)) refl (sym (set_past tokens n None (search rules)))))

pub returns-in_default-clause-call : goal.returns-in_default-clause-call
returns-in_default-clause-call c =
    let tokens = c.args.self.now.tokens.items in let n = c.args.number in
    rw c.stopped-in_default.ensures (inr (settles_none _ _ _ _ n _ (kept_of_slot tokens n c.index_mut.result.now (search rules) c.index_mut.ensures.value ∙ search rules) refl (ap (slice_set tokens n) c.take.ensures.after)))

pub returns-clause-call : goal.returns-clause-call
returns-clause-call c =
    let tokens = c.args.self.now.tokens.items in let n = c.args.number in
    let recorded = rw (c.in_ok-from_str.ensures.ok, c.in_ok-from_slice.ensures.items) at c.settle.ensures in
    rw c.stopped-2.ensures (inr (settles_token _ _ _ _ n c.in-Some.sender _ (kept_of_slot tokens n c.index_mut.result.now (search rules) c.index_mut.ensures.value ∙ search rules) refl (ap (slice_set tokens n) c.take.ensures.after) recorded))
