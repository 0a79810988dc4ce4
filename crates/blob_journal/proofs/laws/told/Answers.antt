use Rattle.blob_journal.proofs.Growing.{grows_same, grows_twice}
use Rattle.blob_journal.proofs.Lasting.{settled_is_kept, settled_stays}
use Rattle.blob_journal.proofs.laws.told.Goals as goal

pub returns-clause-kept : goal.returns-clause-kept
returns-clause-kept c = settled_is_kept

pub returns-clause-stays : goal.returns-clause-stays
returns-clause-stays c = settled_stays

pub returns-clause-same : goal.returns-clause-same
returns-clause-same c = grows_same

pub returns-clause-twice : goal.returns-clause-twice
returns-clause-twice c = grows_twice
