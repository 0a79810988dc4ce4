use Rattle.std.proofs.Common.{◌≡◌, ◌⊎◌, ◌-◌, ◌∙◌, sym, ap₂, ℕ, length, nat_cmp, inl, inr, ⊎_elim, arith}
use Rattle.std.proofs.lemmas.Bool.{cases_lt}
use Rattle.blob_names.specs.Orders.{number_in}
use Rattle.blob_names.proofs.Orders.{lengths_decide, numbers_agree, numbers_decide}
use Rattle.blob_names.proofs.order.order.Goals as goal

pub returns-then-x-y : goal.returns-then-x-y
returns-then-x-y c =
    let x = c.number_at-x.ensures in
    let y = c.number_at-y.ensures in
    c.cmp.ensures ∙ ap₂ nat_cmp x y
    ∙ sym (numbers_decide c.args.one.now c.args.other.now c.loop-at.at (omega arith) (omega arith) (λ i. omega (arith, c.type_inv.one i)) (λ i. omega (arith, c.type_inv.other i)) c.loop-at.invariant.agree (λ e. c.if-x-y.true (x ∙ e ∙ sym y)))

pub loop-at-preserved : goal.loop-at-preserved
loop-at-preserved c =
    let one = c.args.one.now in
    let other = c.args.other.now in
    let at = c.loop-at.at in
    let same : number_in one at ≡ number_in other at = sym c.number_at-x.ensures ∙ c.if-x-y.false ∙ c.number_at-y.ensures in
    record {
      below = omega arith;
      agree = λ i h. ⊎_elim (λ l. c.loop-at.invariant.agree i l)
          (λ l. numbers_agree one other at (omega arith) (omega arith) (λ j. omega (arith, c.type_inv.one j)) (λ j. omega (arith, c.type_inv.other j)) same i l (omega arith))
          (cases_lt i at);
    }

pub returns-then-x-y-2 : goal.returns-then-x-y-2
returns-then-x-y-2 c =
    let x = c.number_at-x-2.ensures in
    let y = c.number_at-y-2.ensures in
    c.cmp-then-x-y-2.ensures ∙ ap₂ nat_cmp x y
    ∙ sym (numbers_decide c.args.one.now c.args.other.now (c.min-both.result - 8) (omega arith) (omega arith) (λ i. omega (arith, c.type_inv.one i)) (λ i. omega (arith, c.type_inv.other i)) (λ i h. c.loop-at.invariant.agree i (omega arith)) (λ e. c.if-x-y-2.true (x ∙ e ∙ sym y)))

pub returns : goal.returns
returns c =
    let one = c.args.one.now in
    let other = c.args.other.now in
    let both : ℕ = c.min-both.result in
    let last : ℕ = both - 8 in
    let same : number_in one last ≡ number_in other last = sym c.number_at-x-2.ensures ∙ c.if-x-y-2.false ∙ c.number_at-y-2.ensures in
    let which : (length one ≡ both) ⊎ (length other ≡ both) = ⊎_elim (λ l. inl (omega arith)) (λ g. inr (omega arith)) (cases_lt (length one) (length other)) in
    c.cmp-2.ensures
    ∙ sym (lengths_decide one other both (omega arith) (omega arith) which (λ i h. ⊎_elim (λ l. c.loop-at.invariant.agree i (omega arith))
    (λ l. numbers_agree one other last (omega arith) (omega arith) (λ j. omega (arith, c.type_inv.one j)) (λ j. omega (arith, c.type_inv.other j)) same i l (omega arith)) (cases_lt i last)))
