use Rattle.std.proofs.Common.{refl}
use Rattle.blob_lab_model.proofs.laws.opens.Goals as goal

pub returns-clause-live : goal.returns-clause-live
returns-clause-live c files registration o = refl

pub returns-clause-size : goal.returns-clause-size
returns-clause-size c files registration o = refl
