use Rattle.std.proofs.Common.{rules, ◌≡◌, ◌<◌, ◌∙◌, length, get_or, sym, None}
use Rattle.std.specs.Prelude.{option_copied}
use Rattle.std.proofs.lemmas.List.{get_or_default}
use Rattle.blob_lab_store.proofs.Found.{kept_by}
use Rattle.blob_lab_store.proofs.slots.Slots.get.Goals as goal

pub returns-in-Some : goal.returns-in-Some
returns-in-Some g c =
    let s = c.args.self.now in
    let i = c.in-Some.i in
    let within : i < length s.numbers.items = search rules in
    let there : i < length s.values.items = search rules in
    let is : get_or s.numbers.items i 0 ≡ c.args.number = search rules in
    let copied : option_copied c.as_ref.result ≡ c.index-in-Some.result.now = c.as_ref.ensures.value in
    copied ∙ c.index-in-Some.ensures ∙ get_or_default s.values.items i c.index-in-Some.result.now None there
    ∙ sym (kept_by s.numbers.items s.values.items s.given i c.args.number s.ascending s.below (search rules) within is)
