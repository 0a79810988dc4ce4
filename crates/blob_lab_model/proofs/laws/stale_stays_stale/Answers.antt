use Rattle.blob_lab_model.proofs.RunSteps.{stale_ever}
use Rattle.blob_lab_model.proofs.Stale.{ages}
use Rattle.blob_lab_model.proofs.laws.stale_stays_stale.Goals as goal

pub returns-clause-next : goal.returns-clause-next
returns-clause-next c v act refusal rest = (ages v act refusal rest).next

pub returns-clause-stale : goal.returns-clause-stale
returns-clause-stale c v act refusal rest = (ages v act refusal rest).stale

pub returns-clause-ever : goal.returns-clause-ever
returns-clause-ever c v w calls replies o run below stale = stale_ever calls replies v w o run below stale
