use Rattle.std.proofs.Common.{rules, ◌≡◌, ◌<◌, ◌++◌, ◌∷◌, ◌∙◌, [], ℕ, List, Option, Some, None, length, get_or, reverse, arith, ap, sym, refl}
use Rattle.blob_lab_store.specs.Slots.{full_numbers}
use Rattle.blob_lab_store.proofs.FullSlots.{number_moves, value_moves, number_goes, value_goes}
use Rattle.blob_lab_store.proofs.full.full_slots.Goals as goal

pub loop-slot-preserved-in-Some-slot : goal.loop-slot-preserved-in-Some-slot
loop-slot-preserved-in-Some-slot g c =
    let ns = c.args.numbers.now in
    let vs = c.pop.new.self.items in
    let inv = c.loop-slot.invariant in
    let popped : c.loop-slot.values.items ≡ vs ++ Some c.in-Some-slot.value ∷ [] = search rules in
    let number : c.push.new.self.items ≡ c.loop-slot.full.items ++ get_or ns (length vs) 0 ∷ [] = search rules in
    let value : c.push-in-Some-slot.new.self.items ≡ c.loop-slot.moved.items ++ Some c.in-Some-slot.value ∷ [] = search rules in
    let below : length vs < length ns = search rules in
    record {
      within = search rules;
      for_numbers = search rules;
      for_values = search rules;
      numbers = number_moves vs ns _ c.in-Some-slot.value _ _ popped number below ∙ inv.numbers;
      moved = value_moves vs _ c.in-Some-slot.value _ _ popped value ∙ inv.moved;
    }

pub loop-slot-preserved : goal.loop-slot-preserved
loop-slot-preserved g c =
    let ns = c.args.numbers.now in
    let vs = c.pop.new.self.items in
    let inv = c.loop-slot.invariant in
    let popped : c.loop-slot.values.items ≡ vs ++ None ∷ [] = search rules in
    record {
      within = search rules;
      for_numbers = search rules;
      for_values = search rules;
      numbers = ap (λ (xs : List ℕ). xs ++ reverse c.loop-slot.full.items) (number_goes vs ns _ popped) ∙ inv.numbers;
      moved = ap (λ xs. xs ++ reverse c.loop-slot.moved.items) (value_goes vs _ popped) ∙ inv.moved;
    }

first_nothing : {X : Type 0} (ns : List ℕ) (vs : List (Option X)) → length vs ≡ 0 → full_numbers ns vs ≡ []
first_nothing [] [] e = refl
first_nothing (n ∷ ns) [] e = refl
first_nothing ns (v ∷ vs) e = absurd (omega arith)

pub returns-clause-numbers : goal.returns-clause-numbers
returns-clause-numbers g c =
    let ns = c.args.numbers.now in
    let none : length c.loop-slot.values.items ≡ 0 = search rules in
    c.reverse.ensures.items ∙ ap (λ (xs : List ℕ). xs ++ reverse c.loop-slot.full.items) (sym (first_nothing ns c.loop-slot.values.items none)) ∙ c.loop-slot.invariant.numbers
