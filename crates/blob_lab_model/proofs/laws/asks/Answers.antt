use Rattle.blob_lab_model.proofs.Stale.{asked_directory, other_asked, stale_asked, stale_sync, stale_start, stale_begun}
use Rattle.blob_lab_model.proofs.laws.asks.Goals as goal

pub returns-clause-directory : goal.returns-clause-directory
returns-clause-directory c = asked_directory

pub returns-clause-others : goal.returns-clause-others
returns-clause-others c = other_asked

pub returns-clause-stale : goal.returns-clause-stale
returns-clause-stale c = stale_asked

pub returns-clause-stale_sync : goal.returns-clause-stale_sync
returns-clause-stale_sync c = stale_sync

pub returns-clause-stale_start : goal.returns-clause-stale_start
returns-clause-stale_start c = stale_start

pub returns-clause-stale_begun : goal.returns-clause-stale_begun
returns-clause-stale_begun c = stale_begun
