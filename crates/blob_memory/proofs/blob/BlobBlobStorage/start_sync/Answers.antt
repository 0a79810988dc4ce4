use Rattle.std.proofs.Common.{◌∙◌, ap, sym}
use Rattle.blob_header.specs.Refusals.{error_of}
use Rattle.blob_memory.proofs.Exits.{where_ok}
use Rattle.blob_memory.proofs.blob.BlobBlobStorage.start_sync.Goals as goal

pub returns-clause-synced : goal.returns-clause-synced
returns-clause-synced c = λ h. where_ok c.sync-outcome.result _ c.sync-outcome.ensures.synced (sym (ap error_of c.ready.ensures.outcome) ∙ h)
