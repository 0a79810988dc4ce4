use Rattle.blob_journal.proofs.Found.{begun_empty, opened_next}
use Rattle.blob_model.specs.Directory.{Directory}
use Rattle.blob_memory.specs.Store.{directory, live, place}
use Rattle.blob_faulty.specs.Wrapper.{inner_of, inside, config_of, rng_of}
use Rattle.blob_model.specs.Files.{after_open}
use Rattle.blob_journal.proofs.Currents.{begun_number, named_current, opened_keeps}
use Rattle.blob_journal.proofs.Standing.{unrecorded}
use Rattle.blob_journal.proofs.Blobs.{blob_same, opened_incarnation, opened_others}
use Rattle.blob_journal.proofs.Limits.{open_answers, opened_accepted, unrefused}
use Rattle.blob_journal.proofs.Fixed.{opened_incarnations}
use Rattle.blob_header.specs.Refusals.{error_of}
use Rattle.std.proofs.Common.{rules, ◌≡◌, subst, sym}
use Rattle.blob_journal.specs.Limits.{IsLimit}
use Rattle.blob_draws.specs.Faults.{draw}
use Rattle.blob_journal.proofs.Stores.{store_same}
use Rattle.blob_journal.proofs.store.open.Goals as goal

pub returns-clause-current : goal.returns-clause-current
returns-clause-current g c = named_current (directory (inner_of c.open.new.self)) c.args.partition.now c.args.name.now (place (inside c.in_ok-blob.blob)) (c.accepted_opens.ensures.current _ _ _ _ _ _ _ _ _ _ _ c.in_ok-blob.ensures.opened)

pub returns-clause-found : goal.returns-clause-found
returns-clause-found g c = λ o is. (c.accepted_opens.ensures.goes_on _ _ _ _ _ _ _ _ _ _ _ o c.in_ok-blob.ensures.opened is).found

pub returns-clause-durable : goal.returns-clause-durable
returns-clause-durable g c = c.accepted_opens.ensures.durable _ _ _ _ _ _ _ _ _ _ _ c.in_ok-blob.ensures.opened

pub returns-in_err-blob-clause-pending : goal.returns-in_err-blob-clause-pending
returns-in_err-blob-clause-pending g c = λ o. c.open.ensures.leaves.records.pending o

pub returns-clause-pending : goal.returns-clause-pending
returns-clause-pending g c = λ o. c.open.ensures.leaves.records.pending o

pub returns-clause-given : goal.returns-clause-given
returns-clause-given g c = c.numbers_are_given.ensures.durable (inner_of c.open.new.self) (place (inside c.in_ok-blob.blob)) (live (inside c.in_ok-blob.blob))
    (c.accepted_opens.ensures.durable _ _ _ _ _ _ _ _ _ _ _ c.in_ok-blob.ensures.opened)

pub returns-clause-begun : goal.returns-clause-begun
returns-clause-begun g c = λ none. begun_empty _ _ _ _ _ _ _ _ _ _ _ c.in_ok-blob.ensures.opened none

pub returns-clause-numbered : goal.returns-clause-numbered
returns-clause-numbered g c = λ none. begun_number _ _ _ _ _ _ _ _ _ _ _ c.in_ok-blob.ensures.opened none

pub returns-in_err-blob-clause-others : goal.returns-in_err-blob-clause-others
returns-in_err-blob-clause-others g c = λ q m other. blob_same q m c.args.store.now c.open.new.self c.in_err-blob.ensures.err.0 c.in_err-blob.ensures.err.1

pub returns-clause-others : goal.returns-clause-others
returns-clause-others g c = opened_others c.args.store.now c.open.new.self c.args.partition.now c.args.name.now 0 0 (place (inside c.in_ok-blob.blob)) (live (inside c.in_ok-blob.blob)) 0 c.in_ok-blob.ensures.opened

pub returns-clause-incarnation : goal.returns-clause-incarnation
returns-clause-incarnation g c = opened_incarnation c.args.store.now c.open.new.self c.args.partition.now c.args.name.now (place (inside c.in_ok-blob.blob)) (live (inside c.in_ok-blob.blob)) c.in_ok-blob.ensures.opened

pub returns-in_err-blob-clause-errors : goal.returns-in_err-blob-clause-errors
returns-in_err-blob-clause-errors g c = λ q valid.
    let old = c.args.store.now in
    let said : error_of c.from_residual.result ≡ error_of c.open.result = search rules in
    let limit : IsLimit (directory (inner_of old)).next (error_of c.open.result) =
    open_answers (config_of old) (g.R.Rng.stream (rng_of old)) (directory (inner_of old)) c.args.partition.now c.args.name.now (error_of c.open.result) q.0 valid q.1 c.open.ensures.allowed in
    subst (λ (d : Directory). IsLimit d.next (error_of c.from_residual.result)) (sym c.in_err-blob.ensures.err.0) (subst (IsLimit (directory (inner_of old)).next) (sym said) limit)

pub returns-in_err-blob-clause-keeps : goal.returns-in_err-blob-clause-keeps
returns-in_err-blob-clause-keeps g c = store_same c.args.store.now c.open.new.self c.in_err-blob.ensures.err.0
    (λ r. unrecorded c.args.store.now c.open.new.self c.in_err-blob.ensures.err.0 c.in_err-blob.ensures.err.1 c.open.ensures.leaves.records r)
    (λ o test k. c.same_bytes.ensures.unrecorded c.args.store.now c.open.new.self o test c.in_err-blob.ensures.err.0 c.in_err-blob.ensures.err.1 c.open.ensures.leaves.records k)
    c.open.ensures.leaves.records.numbers.config

pub returns-clause-keeps : goal.returns-clause-keeps
returns-clause-keeps g c = record {
  current = λ o h. opened_keeps _ _ _ _ _ _ _ _ _ _ _ c.in_ok-blob.ensures.opened o h;
  incarnations = opened_incarnations c.args.store.now c.open.new.self c.args.partition.now c.args.name.now (place (inside c.in_ok-blob.blob)) (live (inside c.in_ok-blob.blob)) 0 c.in_ok-blob.ensures.opened;
  files = λ r.
      let at = place (inside c.in_ok-blob.blob) in
      let bytes = live (inside c.in_ok-blob.blob) in (
        after_open r.0 c.args.partition.now c.args.name.now 0 0,
        c.opens.ensures.accepted c.args.store.now c.open.new.self c.args.partition.now c.args.name.now 0 0 at bytes 0 c.in_ok-blob.ensures.opened c.in_ok-blob.ensures.leaves r.0 r.1,
      );
  left = λ o test k. c.accepted_opens-2.ensures c.args.store.now c.open.new.self c.args.partition.now c.args.name.now 0 0 (place (inside c.in_ok-blob.blob)) (live (inside c.in_ok-blob.blob)) 0 o test
      c.in_ok-blob.ensures.opened c.in_ok-blob.ensures.leaves k;
  next = opened_next _ _ _ _ _ _ _ _ _ _ _ c.in_ok-blob.ensures.opened;
  accepted = opened_accepted _ _ _ _ _ _ _ _ c.in_ok-blob.ensures.opened
      (unrefused (draw (config_of c.args.store.now).open_rate (g.R.Rng.stream (rng_of c.args.store.now))).0 (directory (inner_of c.args.store.now)) c.args.partition.now c.args.name.now c.in_ok-blob.ensures.allowed);
  faults = c.open.ensures.leaves.records.numbers.config;
}
