use Rattle.std.proofs.Common.{inr, ◌∙◌, refl}
use Rattle.blob_disk.proofs.Crashes.{may_reopen}
use Rattle.blob_disk.proofs.Outcomes.{keeps_all}
use Rattle.blob_disk.proofs.calls.reopen.Goals as goal

pub returns-in-Ok-clause-live : goal.returns-in-Ok-clause-live
returns-in-Ok-clause-live g c = inr (c.accepted_opens.ensures.goes_on _ _ _ _ _ _ _ _ _ _ _ _ c.in-Ok.ensures.opened c.requires.here).found

pub returns-in-Ok-clause-durable : goal.returns-in-Ok-clause-durable
returns-in-Ok-clause-durable g c = (c.accepted_opens.ensures.goes_on _ _ _ _ _ _ _ _ _ _ _ _ c.in-Ok.ensures.opened c.requires.here).durable

pub returns-in-Ok-clause-keeps : goal.returns-in-Ok-clause-keeps
returns-in-Ok-clause-keeps g c =
    let it = c.accepted_opens.ensures.goes_on _ _ _ _ _ _ _ _ _ _ _ _ c.in-Ok.ensures.opened c.requires.here in
    keeps_all _ _ _ _ c.kept_records.ensures it.directory it.durable c.in-Ok.ensures.leaves.records it.same (λ h. c.in-Ok.ensures.kept_size.0 ∙ c.in-Ok.ensures.size)

pub returns-in-Err-clause-keeps : goal.returns-in-Err-clause-keeps
returns-in-Err-clause-keeps g c = keeps_all _ _ _ _ c.kept_records.ensures c.in-Err.ensures.err.0 c.in-Err.ensures.err.1 c.in-Err.ensures.leaves.records refl (λ h. h)

pub returns-in-Ok-clause-found : goal.returns-in-Ok-clause-found
returns-in-Ok-clause-found g c = (c.accepted_opens.ensures.goes_on _ _ _ _ _ _ _ _ _ _ _ _ c.in-Ok.ensures.opened c.requires.here).found

pub returns-in-Ok-clause-answer : goal.returns-in-Ok-clause-answer
returns-in-Ok-clause-answer g c = may_reopen _ _ _ c.requires.openable c.in-Ok.ensures.allowed

pub returns-in-Err-clause-answer : goal.returns-in-Err-clause-answer
returns-in-Err-clause-answer g c = may_reopen _ _ _ c.requires.openable c.in-Err.ensures.allowed
