use Rattle.blob_journal.proofs.Blobs.{current_stays, durable_is_found, durable_stays, reads_seen, same_twice, taken}
use Rattle.blob_journal.proofs.Fixed.{durable_is_open, open_is_found, open_is_seen}
use Rattle.blob_journal.proofs.laws.blobs.Goals as goal

pub returns-clause-found : goal.returns-clause-found
returns-clause-found g c = durable_is_found g.row.R.Denot

pub returns-clause-reads : goal.returns-clause-reads
returns-clause-reads g c = reads_seen

pub returns-clause-current : goal.returns-clause-current
returns-clause-current g c = current_stays g.row.R.Denot

pub returns-clause-stays : goal.returns-clause-stays
returns-clause-stays g c = durable_stays g.row.R.Denot

pub returns-clause-twice : goal.returns-clause-twice
returns-clause-twice g c = same_twice g.row.R.Denot

pub returns-clause-shortened : goal.returns-clause-shortened
returns-clause-shortened g c = taken

pub returns-clause-is_open : goal.returns-clause-is_open
returns-clause-is_open g c = durable_is_open g.row.R.Denot

pub returns-clause-sees : goal.returns-clause-sees
returns-clause-sees g c = open_is_seen g.row.R.Denot

pub returns-clause-durable : goal.returns-clause-durable
returns-clause-durable g c = open_is_found g.row.R.Denot
