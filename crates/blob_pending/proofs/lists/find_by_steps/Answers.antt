use Rattle.std.proofs.Common.{rules, ◌≡◌, ◌∙◌, get_or, sym, arith, false, ⊎_elim, subst, ℕ}
use Rattle.std.proofs.lemmas.Bool.{cases_eq}
use Rattle.blob_pending.specs.Lists.{lists_of, is_list_of}
use Rattle.blob_pending.proofs.ListSteps.{has_none, of_item, held_len}
use Rattle.blob_pending.proofs.lists.find_by_steps.Goals as goal

pub loop-i-preserved : goal.loop-i-preserved
loop-i-preserved g c k d h = ⊎_elim
    (λ is. subst (λ (j : ℕ). is_list_of (g.S.Durable.place c.args.origin.now) (get_or (lists_of g.S.Durable.place c.args.lists.now) j d) ≡ false) (sym is) here)
    (λ ne. c.loop-i.invariant k d (omega arith))
    (cases_eq k c.loop-i.i)
  where
    here : is_list_of (g.S.Durable.place c.args.origin.now) (get_or (lists_of g.S.Durable.place c.args.lists.now) c.loop-i.i d) ≡ false
    here = of_item g.S.Durable.place c.args.lists.now c.loop-i.i d c.index-lists-i.result (g.S.Durable.place c.args.origin.now) (search rules) (search rules)
        ∙ sym (g.met.S.Durable.same_origins c.index-lists-i.result.origin c.args.origin.now) ∙ sym c.if-eq.ensures

pub returns-clause-none : goal.returns-clause-none
returns-clause-none g c = has_none (lists_of g.S.Durable.place c.args.lists.now) (g.S.Durable.place c.args.origin.now) (λ k d h. c.loop-i.invariant k d (omega (arith, h, held_len g.S.Durable.place c.args.lists.now, c.loop-i-test.false)))
