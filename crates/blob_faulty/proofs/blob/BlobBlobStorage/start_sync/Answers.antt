use Rattle.std.proofs.Common.{rules, ◌≡◌, Option, None, sym, subst, arith}
use Rattle.std.specs.Prelude.{IsSome}
use Rattle.std.proofs.lemmas.Grind.{common_steps}
use Rattle.blob_base.specs.Handles.{outcome_of, marker_of}
use Rattle.blob_header.specs.Refusals.{Refusal, error_of}
use Rattle.blob_faulty.specs.HandleLeaves.{StartLeaves}
use Rattle.blob_faulty.proofs.SyncSteps.{marker_starts, records_of, refused_steps}
use Rattle.blob_faulty.proofs.blob.BlobBlobStorage.start_sync.Goals as goal

pub returns-in-Ok-clause-leaves : goal.returns-in-Ok-clause-leaves
returns-in-Ok-clause-leaves g c =
    let old = c.args.store.now in
    let new = c.start_marked.new.store in
    let made = c.in-Ok.ensures in
    let none : error_of (outcome_of c.marked.result) ≡ None = first_of (search rules, grind (arith, common_steps)) in
    subst (λ (a : Option Refusal). StartLeaves g.S.Durable g.B.Blob g.S.Storage.leaves_finish g.R.Rng.stream (marker_of c.marked.result) c.args.self.now old a c.start_marked.new.self new) (sym none) (record {
      drawn = first_of (search rules, grind (arith, common_steps));
      inner = first_of (search rules, grind (arith, common_steps));
      config = made.synced.config;
      next_write = made.synced.next_write;
      size = made.synced.size;
      marked = λ ok. first_of (search rules, grind (arith, common_steps));
      next_marker = λ ok. made.next;
      pending = λ ok. made.marked;
      started = λ ok. marker_starts g.S.Durable.place (g.S.Durable.directory old.inner) (g.S.Durable.durable old.inner) (g.S.Durable.durable new.inner) old new (g.B.Blob.place c.args.self.now.inner) (g.B.Blob.live c.args.self.now.inner)
          (made.synced.done ok) made.marked made.synced.next_write made.next;
      unrecorded = λ some. absurd (cc);
      same_files = λ some. absurd (cc);
    })

pub returns-in-Err-clause-leaves : goal.returns-in-Err-clause-leaves
returns-in-Err-clause-leaves g c =
    let old = c.args.store.now in
    let new = c.start_marked.new.store in
    let synced = c.start_marked.ensures.synced in
    let refusal : IsSome (error_of c.start_marked.result) = first_of (search rules, cc, grind (arith, common_steps)) in
    record {
      drawn = first_of (search rules, grind (arith, common_steps));
      inner = first_of (search rules, grind (arith, common_steps));
      config = synced.config;
      next_write = synced.next_write;
      size = synced.size;
      marked = first_of (search rules, grind (arith, common_steps));
      next_marker = first_of (search rules, grind (arith, common_steps));
      pending = first_of (search rules, grind (arith, common_steps));
      started = first_of (search rules, grind (arith, common_steps));
      unrecorded = λ some. records_of g.S.Durable g.B.Blob c.args.self.now c.start_marked.new.self old new c.draws.new.rng (synced.unrecorded refusal) synced.config;
      same_files = λ some. refused_steps g.S.Durable g.B.Blob c.args.self.now c.start_marked.new.self old new c.draws.new.rng (error_of c.start_marked.result) synced refusal;
    }
