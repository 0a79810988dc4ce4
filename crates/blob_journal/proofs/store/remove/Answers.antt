use Rattle.std.proofs.Common.{◌≤◌, arith, subst, sym, ap, refl, ◌∙◌, Some, ◌&&◌, Bool, ◌≡◌, Option, rules, true}
use Rattle.blob_journal.proofs.Found.{removed_found}
use Rattle.blob_model.specs.Directory.{Directory, is_current, is_current as current_in}
use Rattle.std.proofs.lemmas.Bool.{cond-false}
use Rattle.blob_model.specs.Durable.{Durable}
use Rattle.blob_memory.specs.Store.{directory}
use Rattle.blob_faulty.specs.Wrapper.{inner_of, config_of, rng_of, KeepsRecords}
use Rattle.blob_model.specs.Files.{after_remove}
use Rattle.blob_journal.proofs.Currents.{removed_gone, removed_keeps}
use Rattle.blob_journal.proofs.Standing.{unrecorded}
use Rattle.blob_journal.proofs.Blobs.{blob_same, removed_others}
use Rattle.blob_journal.proofs.Limits.{missing_gone, remove_answers, removed_accepted}
use Rattle.blob_draws.specs.Faults.{draw}
use Rattle.blob_header.specs.Refusals.{Refusal, error_of}
use Rattle.blob_journal.specs.Limits.{IsRemoval, is_missing}
use Rattle.blob_model.specs.Places.{Place}
use Rattle.blob_journal.proofs.Stores.{store_beside, store_same}
use Rattle.blob_journal.proofs.store.remove.Goals as goal

pub returns-in_err-remove-clause-bytes : goal.returns-in_err-remove-clause-bytes
returns-in_err-remove-clause-bytes g c = λ o other. ap (λ (d : Durable). d o) c.in_err-remove.ensures.err.1

pub returns-clause-bytes : goal.returns-clause-bytes
returns-clause-bytes g c = λ o other. ap (λ (d : Durable). d o) c.in_ok-remove.ensures.durable ∙ cond-false _ _ _ other

pub returns-in_err-remove-clause-pending : goal.returns-in_err-remove-clause-pending
returns-in_err-remove-clause-pending g c = λ o other. c.in_err-remove.ensures.leaves.kept refl o

pub returns-clause-pending : goal.returns-clause-pending
returns-clause-pending g c = λ o other.
    c.in_ok-remove.ensures.leaves.retired refl o
    ∙ cond-false _ _ _ (ap (λ (b : Bool). b && current_in (directory (inner_of c.args.store.now)) o) other)

pub returns-in_err-remove-clause-others : goal.returns-in_err-remove-clause-others
returns-in_err-remove-clause-others g c = λ q m other. blob_same q m c.args.store.now c.remove.new.self c.in_err-remove.ensures.err.0 c.in_err-remove.ensures.err.1

pub returns-clause-others : goal.returns-clause-others
returns-clause-others g c = removed_others c.args.store.now c.remove.new.self c.args.partition.now c.args.name.now c.in_ok-remove.ensures.directory c.in_ok-remove.ensures.durable

pub returns-clause-gone : goal.returns-clause-gone
returns-clause-gone g c = removed_gone (directory (inner_of c.args.store.now)) (directory (inner_of c.remove.new.self)) c.args.partition.now c.args.name.now c.in_ok-remove.ensures.directory

pub returns-in_err-remove-clause-missing : goal.returns-in_err-remove-clause-missing
returns-in_err-remove-clause-missing g c = λ missing.
    let old = c.args.store.now in
    let said : error_of c.from_residual.result ≡ error_of c.remove.result = search rules in
    ap (λ (d : Directory). d.file c.args.partition.now c.args.name.now) c.in_err-remove.ensures.err.0
    ∙ missing_gone (draw (config_of old).remove_rate (g.R.Rng.stream (rng_of old))).0 (inner_of old) c.args.partition.now c.args.name.now (error_of c.remove.result) c.remove.ensures.allowed
    (subst (λ (a : Option Refusal). is_missing a ≡ true) said missing)

pub returns-in_err-remove-clause-errors : goal.returns-in_err-remove-clause-errors
returns-in_err-remove-clause-errors g c = λ quiet valid.
    let old = c.args.store.now in
    let said : error_of c.from_residual.result ≡ error_of c.remove.result = search rules in
    subst IsRemoval (sym said)
    (remove_answers (config_of old) (g.R.Rng.stream (rng_of old)) (directory (inner_of old)) c.args.partition.now c.args.name.now (error_of c.remove.result) quiet valid c.remove.ensures.allowed)

pub returns-in_err-remove-clause-keeps : goal.returns-in_err-remove-clause-keeps
returns-in_err-remove-clause-keeps g c =
    let e = c.in_err-remove.ensures in
    let records : KeepsRecords (λ (o : Place). o) c.args.store.now c.remove.new.self = record { pending = λ o. e.leaves.kept refl o; numbers = e.leaves.numbers } in
    store_beside c.args.partition.now c.args.name.now c.args.store.now c.remove.new.self (store_same c.args.store.now c.remove.new.self e.err.0
    (λ r. unrecorded c.args.store.now c.remove.new.self e.err.0 e.err.1 records r)
    (λ o test k. c.same_bytes.ensures.unrecorded c.args.store.now c.remove.new.self o test e.err.0 e.err.1 records k)
    e.leaves.numbers.config)

pub returns-clause-keeps : goal.returns-clause-keeps
returns-clause-keeps g c =
    let e = c.in_ok-remove.ensures in
    let p = c.args.partition.now in
    let n = c.args.name.now in
    let before = directory (inner_of c.args.store.now) in
    let stands = c.removals.ensures.accepted c.args.store.now c.remove.new.self p (Some n) e.directory e.durable e.leaves in
    record {
      current = λ o other h. ap (λ (d : Directory). is_current d o) e.directory ∙ removed_keeps before p n o other h;
      files = λ r. (after_remove r.0 p (Some n), stands r.0 r.1);
      left = removed_found c.args.store.now c.remove.new.self p n e.directory (λ files k. stands files k);
      next = subst (λ (d : Directory). before.next ≤ d.next) (sym e.directory) (omega arith);
      accepted = removed_accepted before (directory (inner_of c.remove.new.self)) p n e.directory;
      faults = e.leaves.numbers.config;
    }
