use Rattle.std.proofs.Common.{rules, refl, sym, ap, ◌∙◌, None}
use Rattle.std.specs.Prelude.{slice_set}
use Rattle.std.proofs.lemmas.List.{set_past}
use Rattle.blob_sessions.proofs.Registry.{closes_none, closes_open, kept_of_slot, none_past}
use Rattle.blob_sessions.proofs.debts.Debts.close.Goals as goal

pub returns-then-number-len : goal.returns-then-number-len
returns-then-number-len c =
    let opens = c.args.self.now.opens.items in let n = c.args.number in
    closes_none _ _ n (none_past opens n (search rules)) refl (sym (set_past opens n None (search rules)))

pub returns-in_default : goal.returns-in_default
returns-in_default c =
    let opens = c.args.self.now.opens.items in let n = c.args.number in
    closes_none _ _ n (kept_of_slot opens n c.index_mut.result.now (search rules) c.index_mut.ensures.value ∙ search rules) refl (ap (slice_set opens n) c.take.ensures.after)

pub returns : goal.returns
returns c =
    let opens = c.args.self.now.opens.items in let n = c.args.number in
    closes_open _ _ n c.in-Some.generation (kept_of_slot opens n c.index_mut.result.now (search rules) c.index_mut.ensures.value ∙ search rules) refl (ap (slice_set opens n) c.take.ensures.after) c.close.ensures
