use Rattle.blob_faulty.proofs.AnswersGrow.{more_write}
use Rattle.blob_faulty.proofs.blob.BlobBlobStorage.reserve.Goals as goal

pub returns-clause-write_answers : goal.returns-clause-write_answers
returns-clause-write_answers g c offset bytes sync answer h =
    more_write (g.B.Blob.allows_write c.args.self.now.inner c.args.store.now.inner) (g.B.Blob.allows_write c.reserve.new.self c.reserve.new.store)
    (g.B.Blob.allows_reserve c.args.self.now.inner c.args.store.now.inner) (g.B.Blob.allows_reserve c.reserve.new.self c.reserve.new.store)
    c.reserve.ensures.write_answers c.reserve.ensures.answers g.B.Blob.is_direct c.args.store.now.config c.args.store.now.next_write (g.R.Rng.stream c.args.store.now.rng) offset bytes sync answer h
