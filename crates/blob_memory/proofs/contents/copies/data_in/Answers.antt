use Rattle.std.proofs.Common.{◌≡◌, ◌∙◌, ◌≤◌, Ok, sym, ap, arith, length, refl}
use Rattle.std.proofs.lemmas.List.{take_all}
use Rattle.blob_header.specs.Parse.{accepted_ranges}
use Rattle.blob_header.specs.Resolve.{resolution}
use Rattle.blob_memory.proofs.Copies.{answered, offset_within}
use Rattle.blob_memory.proofs.contents.copies.data_in.Goals as goal

pub returns-in-Ok-Some-clause-within : goal.returns-in-Ok-Some-clause-within
returns-in-Ok-Some-clause-within c = λ x z.
    let is : c.in-Ok-Some.offset ≡ x = cc in
    let r = resolution c.args.raw.now (accepted_ranges c.all-layouts.result c.new-versions.result) in
    let e : r ≡ Ok c.in-Ok-Some.field-0 = answered c.args.partition.now c.args.name.now r c.in-Ok-Some.field-0 (c.in-Ok-Some.ensures.answer c.args.raw.now refl (sym (take_all _ c.args.raw.now (omega arith)))) in
    let within : c.in-Ok-Some.offset ≤ length c.args.raw.now = offset_within c.args.raw.now (accepted_ranges c.all-layouts.result c.new-versions.result) _ _ c.in-Ok-Some.offset (λ i. omega (arith, c.type_inv.raw i)) (e ∙ ap (λ f. Ok f) c.in-Ok-Some.field-0-is) in
    omega arith
