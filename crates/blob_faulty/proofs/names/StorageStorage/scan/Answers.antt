use Rattle.std.proofs.Common.{Bool, refl, sym, ◌∙◌, ap}
use Rattle.rand_core.specs.Stream.{Stream}
use Rattle.blob_faulty.specs.Wrapper.{KeepsRecords}
use Rattle.blob_faulty.specs.declared.storage.Storage.{Storage}
use Rattle.blob_faulty.proofs.Naming.{same_steps, records_after}
use Rattle.blob_faulty.proofs.WriteLeaving.{match_false, match_true}
use Rattle.blob_faulty.proofs.names.StorageStorage.scan.Goals as goal

pub returns-then-draws-clause-leaves : goal.returns-then-draws-clause-leaves
returns-then-draws-clause-leaves g c = record {
  drawn = ap (λ (d : Bool × Stream). d.1) c.draws.ensures;
  inner = match_true _ _ _ (sym (ap (λ (d : Bool × Stream). d.0) c.draws.ensures) ∙ c.if-draws.true) refl;
  unrecorded = records_after g.S.Durable.place c.args.self.now c.args.self.now.inner c.draws.new.rng;
  files = λ files s. s;
}

pub returns-clause-leaves : goal.returns-clause-leaves
returns-clause-leaves g c =
    let after : Storage g.row.S.Denot g.row.R.Denot g.row.S-Origin.Denot = record c.args.self.now { inner = c.scan.new.self; rng = c.draws.new.rng } in
    let records : KeepsRecords g.S.Durable.place c.args.self.now after = records_after g.S.Durable.place c.args.self.now c.scan.new.self c.draws.new.rng in
    record {
      drawn = ap (λ (d : Bool × Stream). d.1) c.draws.ensures;
      inner = match_false _ _ _ (sym (ap (λ (d : Bool × Stream). d.0) c.draws.ensures) ∙ c.if-draws.false) c.scan.ensures.leaves;
      unrecorded = records;
      files = same_steps g.S.Durable.place g.S.Durable.directory g.S.Durable.durable c.args.self.now after c.scan.ensures.directory c.scan.ensures.durable records;
    }
