use Rattle.std.proofs.lemmas.Result.{on_ok_weaker}
use Rattle.blob_memory.proofs.blob.BlobBlobStorage.write_at.Goals as goal

pub returns-then-contains-clause-synced : goal.returns-then-contains-clause-synced
returns-then-contains-clause-synced c = on_ok_weaker c.write_pieces_sync.result (λ h _. h) c.write_pieces_sync.ensures.durable
