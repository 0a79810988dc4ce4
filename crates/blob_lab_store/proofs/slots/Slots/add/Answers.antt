use Rattle.std.proofs.Common.{rules, ◌≡◌, ◌++◌, ◌∷◌, ◌∙◌, [], Some, sym, ap₂, ◌+◌}
use Rattle.std.proofs.lemmas.List.FromFn.{length-map-range_with_len}
use Rattle.blob_lab_store.specs.Slots.{found, by_number}
use Rattle.blob_lab_store.proofs.Found.{added_by}
use Rattle.blob_lab_store.proofs.slots.Slots.add.Goals as goal

pub returns-clause-number : goal.returns-clause-number
returns-clause-number g c = let s = c.args.self.now in sym (length-map-range_with_len (found s.numbers.items s.values.items) 0 s.given)

pub returns-clause-values : goal.returns-clause-values
returns-clause-values g c =
    let s = c.args.self.now in
    let numbers : c.push.new.self.items ≡ s.numbers.items ++ s.given ∷ [] = search rules in
    let values : c.push-2.new.self.items ≡ s.values.items ++ Some c.args.value ∷ [] = search rules in
    ap₂ (λ ns vs. by_number ns vs (s.given + 1)) numbers values ∙ added_by s.numbers.items s.values.items s.given (Some c.args.value) s.below (search rules)
