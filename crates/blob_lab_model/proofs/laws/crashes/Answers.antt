use Rattle.std.proofs.Common.{refl}
use Rattle.blob_lab_model.proofs.LabLaws.{crash_headers}
use Rattle.blob_lab_model.proofs.laws.crashes.Goals as goal

pub returns-clause-rows : goal.returns-clause-rows
returns-clause-rows c v = refl

pub returns-clause-left : goal.returns-clause-left
returns-clause-left c v rest o = refl

pub returns-clause-headers : goal.returns-clause-headers
returns-clause-headers c = crash_headers

pub returns-clause-again : goal.returns-clause-again
returns-clause-again c v rest = refl

pub returns-clause-same : goal.returns-clause-same
returns-clause-same c v rest last o = refl
