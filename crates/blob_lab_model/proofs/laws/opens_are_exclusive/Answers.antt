use Rattle.blob_lab_model.proofs.Exclusive.{handles_open, handles_sole}
use Rattle.blob_lab_model.proofs.laws.opens_are_exclusive.Goals as goal

pub returns-clause-sole : goal.returns-clause-sole
returns-clause-sole c = handles_sole

pub returns-clause-names : goal.returns-clause-names
returns-clause-names c = handles_open
