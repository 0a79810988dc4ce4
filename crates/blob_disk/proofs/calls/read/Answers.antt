use Rattle.std.proofs.Common.{ap, refl}
use Rattle.blob_disk.proofs.Outcomes.{keeps_all, keeps_outcomes, at_place}
use Rattle.blob_disk.proofs.calls.read.Goals as goal
use Rattle.blob_memory.specs.Store.{directory, durable}

pub returns-in_err-read_into-clause-keeps : goal.returns-in_err-read_into-clause-keeps
returns-in_err-read_into-clause-keeps g c = keeps_all _ _ _ _ c.kept_records.ensures (ap directory c.in_err-read_into.ensures.inner) (ap durable c.in_err-read_into.ensures.inner) c.in_err-read_into.ensures.leaves.unrecorded refl (λ h. h)

pub returns-in_err-read_into-clause-outcomes : goal.returns-in_err-read_into-clause-outcomes
returns-in_err-read_into-clause-outcomes g c = keeps_outcomes _ _ _ _ refl (c.in_err-read_into.ensures.leaves.unrecorded.pending _) (at_place (ap durable c.in_err-read_into.ensures.inner) _)

pub returns-clause-keeps : goal.returns-clause-keeps
returns-clause-keeps g c = keeps_all _ _ _ _ c.kept_records.ensures (ap directory c.in_ok-read_into.ensures.inner) (ap durable c.in_ok-read_into.ensures.inner) c.in_ok-read_into.ensures.leaves.unrecorded refl (λ h. h)

pub returns-clause-outcomes : goal.returns-clause-outcomes
returns-clause-outcomes g c = keeps_outcomes _ _ _ _ refl (c.in_ok-read_into.ensures.leaves.unrecorded.pending _) (at_place (ap durable c.in_ok-read_into.ensures.inner) _)
