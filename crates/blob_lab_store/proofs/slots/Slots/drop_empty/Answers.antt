use Rattle.std.proofs.Common.{rules, ◌≡◌, ◌∙◌, List, ℕ, length, sym, ap, ap₂, subst}
use Rattle.blob_lab_store.specs.Numbers.{IsAscending, IsBelow}
use Rattle.blob_lab_store.specs.Slots.{by_number, full_numbers, full_values}
use Rattle.blob_lab_store.proofs.FullSlots.{full_ascends, full_is_below, full_by_number, full_paired}
use Rattle.blob_lab_store.proofs.slots.Slots.drop_empty.Goals as goal

pub invariant_of-self : goal.invariant_of-self
invariant_of-self g c =
    let s = c.args.self.now in
    let ns = s.numbers.items in
    let vs = s.values.items in
    let read : c.deref.result.now ≡ ns = c.deref.ensures.value in
    let old : c.replace-old.result.items ≡ vs = search rules in
    let numbers : c.full_slots-numbers.result.0.items ≡ full_numbers ns vs = c.full_slots-numbers.ensures.numbers ∙ ap₂ full_numbers read old in
    let values : c.replace-unused.new.dest.items ≡ full_values vs = ap (λ v. v.items) c.replace-unused.ensures.after ∙ c.full_slots-numbers.ensures.values ∙ ap full_values old in
    let lens : length vs ≡ length ns = search rules in
    let same : length c.replace-unused.new.dest.items ≡ length c.full_slots-numbers.result.0.items = ap length values ∙ full_paired ns vs lens ∙ sym (ap length numbers) in
    record {
      paired = search rules;
      ascending = subst IsAscending (sym numbers) (full_ascends ns vs s.given s.ascending s.below);
      below = subst (λ (xs : List ℕ). IsBelow xs s.given) (sym numbers) (full_is_below ns vs s.given s.ascending s.below);
    }

pub returns-clause-values : goal.returns-clause-values
returns-clause-values g c =
    let s = c.args.self.now in
    let ns = s.numbers.items in
    let vs = s.values.items in
    let read : c.deref.result.now ≡ ns = c.deref.ensures.value in
    let old : c.replace-old.result.items ≡ vs = search rules in
    let numbers : c.full_slots-numbers.result.0.items ≡ full_numbers ns vs = c.full_slots-numbers.ensures.numbers ∙ ap₂ full_numbers read old in
    let values : c.replace-unused.new.dest.items ≡ full_values vs = ap (λ v. v.items) c.replace-unused.ensures.after ∙ c.full_slots-numbers.ensures.values ∙ ap full_values old in
    ap₂ (λ ms ws. by_number ms ws s.given) numbers values ∙ full_by_number ns vs s.given s.ascending s.below
