use Rattle.std.proofs.Common.{refl, sym, subst}
use Rattle.blob_pages.specs.Groups.{NoneOwned, IsSound}
use Rattle.blob_pages.proofs.group.share_group.Goals as goal

pub returns-in_ok-copy-in-Closed-clause-shared : goal.returns-in_ok-copy-in-Closed-clause-shared
returns-in_ok-copy-in-Closed-clause-shared c = subst (λ v. NoneOwned v.items) (sym c.in_ok-copy-in-Closed.ensures.cases) (subst IsSound (sym c.in-Closed.ensures.value) c.requires refl)
