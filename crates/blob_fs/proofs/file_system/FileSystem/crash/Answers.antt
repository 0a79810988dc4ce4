use Rattle.std.proofs.Common.{List, sym, subst, ◌∙◌, ◌≡◌, Bool, Option, ap, map, ℕ, ◌≤◌, arith, length}
use Rattle.blob_directory.specs.Records.{Found}
use Rattle.blob_directory.specs.Rules.{rule_of}
use Rattle.blob_journal.specs.Keeping.{told_in}
use Rattle.blob_journal.specs.Settling.{unsettled_of}
use Rattle.blob_journal.specs.Told.{names_kept}
use Rattle.blob_directory.specs.declared.table.Table.{Table}
use Rattle.blob_directory.specs.Tables.{bound}
use Rattle.blob_directory.specs.Trees.{Finds}
use Rattle.blob_fs.specs.Files.{keeps_of, names_of}
use Rattle.std.specs.Prelude.{unwrap_or}
use Rattle.blob_directory.specs.declared.unsettled.Unsettled.{Unsettled}
use Rattle.blob_fs.specs.declared.truncation.Kept.{Kept}
use Rattle.blob_fs.specs.Bytes.{HasBytes, bytes_found, bytes_left, unsettled_numbers}
use Rattle.blob_fs.specs.Truncations.{lost_of}
use Rattle.blob_fs.proofs.Crashed.{finds_byte}
use Rattle.blob_fs.proofs.Fixed.{opened_store, some_same}
use Rattle.blob_draws.specs.Rows.{rows_of}
use Rattle.blob_journal.specs.Journals.{store_of}
use Rattle.blob_fs.specs.declared.crash.Place.{Place}
use Rattle.blob_fs.specs.Places.{FindsPlaces}
use Rattle.blob_fs.proofs.CrashRows.{rows_fit, rows_found}
use Rattle.blob_fs.specs.Errors.{next_number}
use Rattle.blob_fs.proofs.Standing.{standing_store}
use Rattle.blob_fs.proofs.file_system.FileSystem.crash.Goals as goal

pub returns-clause-found : goal.returns-clause-found
returns-clause-found g c = c.in_ok-rows.ensures.kept _ _ c.in-Ok.ensures.found

pub returns-clause-gives : goal.returns-clause-gives
returns-clause-gives g c = c.in-Ok.ensures.gives c.in_ok-rows.ensures.files

pub returns-clause-recovered : goal.returns-clause-recovered
returns-clause-recovered g c = record {
  gives = c.in-Ok.ensures.gives c.in_ok-rows.ensures.files;
  told = _;
  finds = c.in-Ok.ensures.found.finds;
}

pub returns-clause-again : goal.returns-clause-again
returns-clause-again g c = λ before e.
    let again = c.in-Ok.ensures.again (c.in_ok-rows.ensures.gives before.gives) in
    sym (c.found.ensures.again (names_of c.recover.new.self) (names_of c.args.self.now) before.told before.finds
    (subst (λ (t : Table). Finds (names_of c.recover.new.self) (bound t)) c.crash.ensures.keeps.names again) e)

pub returns-clause-kept : goal.returns-clause-kept
returns-clause-kept g c =
    let f = c.in-Ok.ensures.kept in
    let fs = c.args.self.now in
    let found = names_of c.recover.new.self in
    let seen = subst (λ (u : List Unsettled). Finds found (names_kept (rule_of (keeps_of fs) u) f.chosen (told_in c.crash.new.self))) c.crash.ensures.keeps.unsettled f.finds in
    record {
      chosen = f.chosen;
      finds = subst (λ (l : List Found). Finds found (names_kept (rule_of (keeps_of fs) (unsettled_of fs.store)) f.chosen l)) c.crash.ensures.keeps.told seen;
    }

pub returns-clause-bytes : goal.returns-clause-bytes
returns-clause-bytes g c = λ name inode below named.
    let fs = c.args.self.now in
    let d = c.in-Ok.ensures.bytes name inode below named in
    let own : Kept = record { rows = c.in_ok-rows.rows; places = c.find_places.new.places } in
    let used : c.used.result.now ≡ unwrap_or fs.kept own = c.used.ensures ∙ ap (λ (o : Option Kept). unwrap_or o own) c.take-before.ensures.value in
    let numbers : c.deref.result.now ≡ unsettled_numbers fs = c.deref.ensures.value ∙ c.in_ok-numbers.ensures ∙ ap (λ (l : List Unsettled). map (λ (e : Unsettled). e.number) l) c.unsettled.ensures in
    let flags : List Bool = c.in-Ok.edits.items in
    let leaves : Kept → List ℕ → Type 0 = λ k n.
    HasBytes c.recover.new.self inode (bytes_found fs k (lost_of n flags) inode d.bytes) (bytes_left fs (lost_of n flags) inode (bytes_found fs k (lost_of n flags) inode d.bytes)) in
    let has : leaves c.used.result.now c.deref.result.now = d.has in
    let b : leaves (unwrap_or fs.kept own) (unsettled_numbers fs) = subst (λ (n : List ℕ). leaves (unwrap_or fs.kept own) n) numbers (subst (λ (k : Kept). leaves k c.deref.result.now) used has) in
    record {
      bytes = d.bytes;
      was = sym (c.in_ok-rows.ensures.bytes inode) ∙ d.was;
      has = record { durable = b.durable; read = b.read; synced = b.synced; size = b.size };
    }

pub returns-clause-edits : goal.returns-clause-edits
returns-clause-edits g c = c.in_ok-rows.ensures.edits _ _ c.in-Ok.ensures.edits

pub returns-clause-orphans : goal.returns-clause-orphans
returns-clause-orphans g c = λ inode none. c.in-Ok.ensures.orphans inode none

pub returns-clause-fixed : goal.returns-clause-fixed
returns-clause-fixed g c = λ name inode at byte below named f.
    let fs = c.args.self.now in
    let crashed = c.crash.new.self in
    let still = c.in_ok-rows.ensures.still in
    let d = c.in-Ok.ensures.bytes name inode below named in
    let there = c.in-Ok.ensures.known name inode below named in
    record {
      bytes = _;
      durable = d.has.durable;
      read = d.has.read;
      has = finds_byte c.blobs.ensures.durable crashed inode d.bytes (λ bytes e. some_same (sym e ∙ d.was)) c.fixed.ensures at byte fs.options.profile.cuts c.used.result.now (lost_of c.deref.result.now c.in-Ok.edits.items) fs.files below
          (opened_store fs.store crashed fs.files still fs.opened) there f.synced (λ was here. still.fixed was.blob at byte (f.fixed was here));
    }

pub invariant_of-self : goal.invariant_of-self
invariant_of-self g c = standing_store c.args.self.now c.crash.new.self c.crash.ensures.still c.crash.ensures.keeps

pub invariant_of-self-2 : goal.invariant_of-self-2
invariant_of-self-2 g c = standing_store c.args.self.now c.crash.new.self c.crash.ensures.still c.crash.ensures.keeps

pub returns-clause-fixes : goal.returns-clause-fixes
returns-clause-fixes g c = λ inode at byte below numbered f.
    let is = c.in-Ok.ensures.fixes inode at byte below numbered (record { bytes = f.bytes; durable = f.durable; read = f.read; has = f.has }) in
    record { numbered = is.numbered; synced = is.synced; fixed = is.fixed }

pub find_places-requires-clause-room : goal.find_places-requires-clause-room
find_places-requires-clause-room g c =
    let many : length (rows_of c.in_ok-rows.rows) ≤ length c.in_ok-pending.pending.entries =
    rows_fit g.R.Rng.stream c.args.self.now (store_of c.crash.new.self) c.in_ok-rows.rows c.in_ok-pending.pending c.in_ok-pending.ensures c.in_ok-rows.ensures.rows in
    omega (arith, many, c.in_ok-places.ensures.capacity)

pub returns-clause-places : goal.returns-clause-places
returns-clause-places g c =
    let fs = c.args.self.now in
    let rows = c.in_ok-rows.rows in
    subst (λ (places : List Place). FindsPlaces fs rows places) (sym c.find_places.ensures)
    (rows_found g.R.Rng.stream fs (store_of c.crash.new.self) rows c.in_ok-pending.pending c.in_ok-pending.ensures c.in_ok-rows.ensures.rows)

pub returns-clause-known : goal.returns-clause-known
returns-clause-known g c = λ name inode below named. c.in-Ok.ensures.known name inode below named

pub returns-in-Err-clause-errors : goal.returns-in-Err-clause-errors
returns-in-Err-clause-errors g c = c.refusal.ensures (next_number c.recover.new.self.store) c.in-Err.ensures.errors
