use Rattle.std.proofs.Common.{◌≡◌, Some, rules}
use Rattle.std.proofs.lemmas.Bool.{false≢true}
use Rattle.blob_header.specs.Refusals.{error_of, refusal_of}
use Rattle.blob_faulty.specs.Admitted.{OpensAlone, StaysSame}
use Rattle.blob_header.specs.Versions.{lower, upper}
use Rattle.blob_memory.specs.Store.{directory, durable}
use Rattle.blob_faulty.proofs.AdmittedOpens.{leaves_admitted, leaves_alone, finds_kept}
use Rattle.blob_faulty.proofs.Keeping.{keeps_open, keeps_same}
use Rattle.blob_faulty.proofs.open_admitted.Storage+blob_memory+Storage+R.open_versioned_admitted.Given.{Over}
use Rattle.blob_faulty.proofs.open_admitted.Storage+blob_memory+Storage+R.open_versioned_admitted.Goals as goal

-- the open alone
steps : (g : Over) (c : goal.After-admit g) → OpensAlone c.args.self.now c.open_versioned.new.self c.args.partition.now c.args.name.now (lower c.args.versions) (upper c.args.versions)
steps g c = c.opens.ensures.accepted c.args.self.now c.open_versioned.new.self c.args.partition.now c.args.name.now _ _ _ _ _ c.in_ok-opened.ensures.opened c.in_ok-opened.ensures.leaves

pub returns-clause-answer : goal.returns-clause-answer
returns-clause-answer g c = record {
  allowed = c.in_ok-opened.ensures.allowed;
  leaves = leaves_admitted g.R.Rng.stream c.args.partition.now c.args.name.now c.args.self.now c.open_versioned.new.self c.admit.new.self c.in_ok-opened.ensures.leaves c.admit.ensures;
  err = λ some. absurd (false≢true some);
  keeps = λ o bytes k. c.admit.ensures.keeps o bytes
      (keeps_open (λ o. o) directory durable c.args.self.now c.open_versioned.new.self c.args.partition.now c.args.name.now _ _ (steps g c) o bytes k _ _ _ c.in_ok-opened.ensures.opened);
}

pub returns-clause-accepted : goal.returns-clause-accepted
returns-clause-accepted g c =
    let found = c.in_ok-opened.ensures in
    finds_kept c.args.partition.now c.args.name.now _ _ c.args.self.now c.open_versioned.new.self c.admit.new.self _ _ _ found.opened (steps g c) c.admit.ensures c.numbers_are_given.ensures.durable found.size found.kept_size.0

stays : (g : Over) (c : goal.After-from_residual g) → StaysSame c.args.self.now c.open_versioned.new.self
stays g c =
    let w = c.in_err-opened.ensures in
    c.opens.ensures.refused c.args.self.now c.open_versioned.new.self c.args.partition.now c.args.name.now (lower c.args.versions) (upper c.args.versions) (refusal_of c.in_err-opened.field-0.0) w.err.0 w.err.1 w.leaves

pub returns-in_err-opened-clause-answer : goal.returns-in_err-opened-clause-answer
returns-in_err-opened-clause-answer g c =
    let w = c.in_err-opened.ensures in
    let e : error_of c.from_residual.result ≡ Some (refusal_of c.in_err-opened.field-0.0) = search rules in
    rw e (record {
      allowed = w.allowed;
      leaves = leaves_alone g.R.Rng.stream c.args.partition.now c.args.name.now c.args.self.now c.open_versioned.new.self _ w.leaves;
      err = λ _. record { directory = w.err.0; durable = w.err.1; same_files = stays g c };
      keeps = λ o bytes k. keeps_same (λ o. o) directory durable c.args.self.now c.open_versioned.new.self o bytes w.err.0 k (stays g c);
    })
