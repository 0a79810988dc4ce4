use Rattle.blob_journal.proofs.Fixed.{fixed_is_found}
use Rattle.blob_journal.proofs.laws.fixed.Goals as goal

pub returns : goal.returns
returns g c = fixed_is_found g.row.R.Denot
