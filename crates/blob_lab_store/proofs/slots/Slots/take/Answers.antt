use Rattle.std.proofs.Common.{rules, ◌≡◌, ◌<◌, ◌∙◌, length, get_or, set, sym, ap, None}
use Rattle.std.proofs.lemmas.List.{get_or_default}
use Rattle.blob_lab_model.proofs.TableSteps.{where_some}
use Rattle.blob_lab_store.specs.Slots.{by_number}
use Rattle.blob_lab_store.proofs.Found.{kept_by, set_by}
use Rattle.blob_lab_store.proofs.slots.Slots.take.Goals as goal

pub returns-then-is_some-clause-value : goal.returns-then-is_some-clause-value
returns-then-is_some-clause-value g c =
    let s = c.args.self.now in
    let i = c.in-Some.i in
    let within : i < length s.numbers.items = search rules in
    let there : i < length s.values.items = search rules in
    let is : get_or s.numbers.items i 0 ≡ c.args.number = search rules in
    c.take-taken.ensures.value ∙ c.index_mut.ensures.value ∙ get_or_default s.values.items i c.index_mut.result.now None there
    ∙ sym (kept_by s.numbers.items s.values.items s.given i c.args.number s.ascending s.below (search rules) within is)

pub returns-else-is_some-clause-value : goal.returns-else-is_some-clause-value
returns-else-is_some-clause-value g c =
    let s = c.args.self.now in
    let i = c.in-Some.i in
    let within : i < length s.numbers.items = search rules in
    let there : i < length s.values.items = search rules in
    let is : get_or s.numbers.items i 0 ≡ c.args.number = search rules in
    c.take-taken.ensures.value ∙ c.index_mut.ensures.value ∙ get_or_default s.values.items i c.index_mut.result.now None there
    ∙ sym (kept_by s.numbers.items s.values.items s.given i c.args.number s.ascending s.below (search rules) within is)

pub returns-then-is_some-clause-taken : goal.returns-then-is_some-clause-taken
returns-then-is_some-clause-taken g c =
    let s = c.args.self.now in
    let within : c.in-Some.i < length s.numbers.items = search rules in
    let is : get_or s.numbers.items c.in-Some.i 0 ≡ c.args.number = search rules in
    let after : c.take-taken.new.self ≡ None = search rules in
    where_some _ _ (ap (λ v. by_number s.numbers.items (set s.values.items c.in-Some.i v) s.given) after ∙ set_by s.numbers.items s.values.items s.given c.in-Some.i c.args.number None s.ascending s.below (search rules) within is)
