use Rattle.std.proofs.Common.{rules, arith}
use Rattle.std.proofs.lemmas.Grind.{common_steps}
use Rattle.blob_header.specs.Refusals.{error_of}
use Rattle.blob_faulty.proofs.SyncSteps.{sync_publishes, when_ok, records_of, refused_steps}
use Rattle.blob_faulty.proofs.blob.BlobBlobStorage.sync.Goals as goal

pub returns-clause-leaves : goal.returns-clause-leaves
returns-clause-leaves g c =
    let old = c.args.store.now in
    let new = c.sync_inner.new.store in
    let synced = c.sync_inner.ensures.synced in
    record {
      drawn = first_of (search rules, grind (arith, common_steps));
      inner = first_of (search rules, grind (arith, common_steps));
      numbers = record { next_write = synced.next_write; next_marker = c.sync_inner.ensures.next_marker; config = synced.config };
      size = synced.size;
      pending = λ ok. when_ok c.sync_inner.result ok c.sync_inner.ensures.retired;
      published = λ ok. sync_publishes g.S.Durable.place (g.S.Durable.directory old.inner) (g.S.Durable.durable old.inner) (g.S.Durable.durable new.inner) old new (g.B.Blob.place c.args.self.now.inner) (g.B.Blob.live c.args.self.now.inner)
          (synced.done ok) (when_ok c.sync_inner.result ok c.sync_inner.ensures.retired) synced.next_write c.sync_inner.ensures.next_marker;
      unrecorded = λ some. records_of g.S.Durable g.B.Blob c.args.self.now c.sync_inner.new.self old new c.draws.new.rng (synced.unrecorded some) synced.config;
      same_files = λ some. refused_steps g.S.Durable g.B.Blob c.args.self.now c.sync_inner.new.self old new c.draws.new.rng (error_of c.sync_inner.result) synced some;
    }
