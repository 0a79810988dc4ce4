use Rattle.std.proofs.Common.{◌<◌, ◌-◌, ⊎_elim, ap, length, arith}
use Rattle.std.proofs.lemmas.Bool.{cases_lt}
use Rattle.blob_pages.specs.Groups.{group_pages}
use Rattle.blob_pages.proofs.Groups.{around_of, length_to}
use Rattle.blob_pages.proofs.table.count_of.Goals as goal

pub returns : goal.returns
returns c =
    let gs = c.args.groups.now in
    let g = c.index-groups-count.result in
    let some : 0 < length gs = ⊎_elim (λ h. h) (λ h. absurd (c.if-count-eq0.false (omega (arith, h)))) (cases_lt 0 (length gs)) in
    let a = around_of gs c.requires (length gs - 1) g (omega (arith, some)) in
    omega (arith, some, length_to gs (length gs - 1) g a, a.last (omega (arith, some)), ap length c.pages-last.ensures, ap (λ x. length (group_pages x)) c.index-groups-count.is)
