use Rattle.blob_journal.proofs.Kept.{kept_twice, settled_after, settled_before}
use Rattle.blob_journal.proofs.laws.settling.Goals as goal

pub returns-clause-twice : goal.returns-clause-twice
returns-clause-twice g c = kept_twice g.row.R.Denot

pub returns-clause-after : goal.returns-clause-after
returns-clause-after g c = settled_after g.row.R.Denot

pub returns-clause-before : goal.returns-clause-before
returns-clause-before g c = settled_before g.row.R.Denot
