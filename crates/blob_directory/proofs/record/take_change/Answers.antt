use Rattle.std.proofs.Common.{◌≡◌, drop, arith, ◌∙◌, ap, rules}
use Rattle.std.proofs.lemmas.Grind.{common_steps}
use Rattle.blob_packed.specs.Numbers.{number_told}
use Rattle.blob_directory.specs.Records.{change_told}
use Rattle.blob_directory.proofs.Records.{behind_change}
use Rattle.blob_directory.proofs.record.take_change.Goals as goal

pub returns-clause-change : goal.returns-clause-change
unfolding change_told
returns-clause-change c = grind (arith, common_steps)

pub returns-clause-rest : goal.returns-clause-rest
returns-clause-rest c =
    let bytes = c.args.bytes.now in
    let last = c.in-Some-take_number.rest.now in
    let size : c.in-Some.size ≡ number_told bytes = search rules in
    c.split_at.ensures.back ∙ ap (λ n. drop n last) size
    ∙ behind_change bytes c.in-Some.rest.now c.in-Some-split_first.rest.now last c.in-Some-split_first.kind.now (number_told bytes) (search rules) (search rules) (search rules)
