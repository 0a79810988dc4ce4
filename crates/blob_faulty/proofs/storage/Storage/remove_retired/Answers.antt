use Rattle.std.proofs.Common.{Bool, refl, sym, ◌∙◌, ap}
use Rattle.std.specs.Prelude.{option_copied}
use Rattle.std.proofs.lemmas.Bool.{false≢true}
use Rattle.rand_core.specs.Stream.{Stream}
use Rattle.blob_faulty.specs.declared.storage.Storage.{Storage}
use Rattle.blob_faulty.proofs.Naming.{removed_steps}
use Rattle.blob_faulty.proofs.WriteLeaving.{match_false}
use Rattle.blob_faulty.proofs.storage.Storage.remove_retired.Goals as goal

pub returns-clause-files : goal.returns-clause-files
returns-clause-files g c =
    let w = c.args.self.now in
    let after : Storage g.row.S.Denot g.row.R.Denot g.row.S-Origin.Denot = record w { inner = c.remove_listed.new.inner; rng = c.draws.new.rng; lists = c.remove_listed.new.lists } in
    removed_steps g.S.Durable.place g.S.Durable.directory g.S.Durable.durable w after c.args.partition.now (option_copied c.args.name) (g.met.S.Durable.currents w.inner) c.in_ok-remove_listed.ensures.directory c.in_ok-remove_listed.ensures.durable c.in_ok-remove_listed.ensures.retired
    (record { next_write = refl; next_marker = refl; config = refl })

pub returns-clause-leaves : goal.returns-clause-leaves
returns-clause-leaves g c = record {
  drawn = ap (λ (d : Bool × Stream). d.1) c.draws.ensures;
  inner = match_false _ _ _ (sym (ap (λ (d : Bool × Stream). d.0) c.draws.ensures) ∙ c.if-draws.false) c.in_ok-remove_listed.ensures.leaves;
  retired = λ ok. c.in_ok-remove_listed.ensures.retired;
  kept = λ some. absurd (false≢true some);
  numbers = record { next_write = refl; next_marker = refl; config = refl };
}
