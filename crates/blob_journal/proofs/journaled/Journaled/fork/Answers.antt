use Rattle.std.proofs.Common.{rules, ◌≡◌, ap, refl, Err, Ok, Result, Some}
use Rattle.std.specs.Prelude.{OnErr}
use Rattle.blob_header.specs.Refusals.{IsMemory, Memory, error_of}
use Rattle.blob_header.specs.declared.error.Error.{Error}
use Rattle.blob_directory.specs.Records.{found_in}
use Rattle.blob_journal.specs.declared.journal.Journal.{Journal}
use Rattle.blob_journal.proofs.Forked.{crashes_same, finds_same, holds_forked}
use Rattle.blob_journal.proofs.Stores.{open_same}
use Rattle.blob_journal.proofs.journaled.Journaled.fork.Goals as goal

on_error : {T : Type 0} (r : Result T Error) → error_of r ≡ Some Memory → OnErr r (IsMemory r)
on_error (Ok x) h = tt
on_error (Err e) h = h

pub returns-in_err-names-clause-memory : goal.returns-in_err-names-clause-memory
returns-in_err-names-clause-memory g c = on_error c.from_residual-in_err-names.result (search rules)

pub returns-in_err-unsettled-clause-memory : goal.returns-in_err-unsettled-clause-memory
returns-in_err-unsettled-clause-memory g c = on_error c.from_residual-in_err-unsettled.result (search rules)

pub returns-in_err-log-clause-memory : goal.returns-in_err-log-clause-memory
returns-in_err-log-clause-memory g c = on_error c.from_residual-in_err-log.result (search rules)

pub invariant_of-result : goal.invariant_of-result
invariant_of-result g c =
    let self = c.args.self.now in
    let s = c.in_ok-store.ensures in
    let m = c.in_ok-journal.ensures in
    holds_forked self c.in_ok-store.store c.in_ok-journal.journal c.in_ok-unsettled.unsettled.edits.items
    (record { directory = s.directory; durable = s.durable; records = s.records })
    (λ o test k. c.same_bytes.ensures.unrecorded self.store c.in_ok-store.store o test s.directory s.durable s.records k)
    m.place m.bytes m.same c.in_ok-unsettled.ensures

pub returns-clause-fork : goal.returns-clause-fork
returns-clause-fork g c =
    let s = c.in_ok-store.ensures in
    let m = c.in_ok-journal.ensures in
    record {
      store = record { directory = s.directory; durable = s.durable; records = s.records };
      names = c.in_ok-names.ensures;
      told = ap found_in m.bytes;
      unsettled = c.in_ok-unsettled.ensures;
      log = c.in_ok-log.ensures;
      place = m.place;
      generation = ap (λ (j : Journal). j.generation) m.same;
      opened = refl;
      next_edit = refl;
    }

pub returns-clause-finds : goal.returns-clause-finds
returns-clause-finds g c =
    let s = c.in_ok-store.ensures in
    let m = c.in_ok-journal.ensures in
    finds_same c.args.self.now _ (record { directory = s.directory; durable = s.durable; records = s.records }) (ap (λ (j : Journal). j.generation) m.same) c.in_ok-unsettled.ensures (ap found_in m.bytes)

pub returns-clause-crashes : goal.returns-clause-crashes
returns-clause-crashes g c =
    let s = c.in_ok-store.ensures in
    crashes_same c.args.self.now _ (record { directory = s.directory; durable = s.durable; records = s.records }) (λ files stands. s.files files stands)

pub returns-clause-still : goal.returns-clause-still
returns-clause-still g c =
    let self = c.args.self.now in
    let s = c.in_ok-store.ensures in
    open_same self _ s.directory (λ o test k. c.same_bytes.ensures.unrecorded self.store c.in_ok-store.store o test s.directory s.durable s.records k)
