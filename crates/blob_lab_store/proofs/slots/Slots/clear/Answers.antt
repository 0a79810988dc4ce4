use Rattle.blob_lab_store.proofs.ByNumber.{no_values}
use Rattle.blob_lab_store.specs.Slots.{found, by_number}
use Rattle.std.specs.List.{range_with_len}
use Rattle.std.proofs.Common.{rules, ◌≡◌, ◌∙◌, [], ap₂}
use Rattle.blob_lab_store.proofs.slots.Slots.clear.Goals as goal

pub returns : goal.returns
returns g c =
    let s = c.args.self.now in
    let numbers : c.clear-2.new.self.items ≡ [] = search rules in
    let values : c.clear.new.self.items ≡ [] = search rules in
    ap₂ (λ ns vs. by_number ns vs s.given) numbers values ∙ no_values (found s.numbers.items s.values.items) (range_with_len 0 s.given)
