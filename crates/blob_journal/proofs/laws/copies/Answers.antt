use Rattle.blob_journal.proofs.Forked.{copy_is_fixed, copy_is_open, copy_sees}
use Rattle.blob_journal.proofs.laws.copies.Goals as goal

pub returns-clause-sees : goal.returns-clause-sees
returns-clause-sees g c = copy_sees

pub returns-clause-is_open : goal.returns-clause-is_open
returns-clause-is_open g c = copy_is_open g.row.R.Denot

pub returns-clause-fixed : goal.returns-clause-fixed
returns-clause-fixed g c = copy_is_fixed g.row.R.Denot
