use Rattle.std.specs.Prelude.{Err, IfOk, Ok, OnErr, Result, codes, option_and_then}
use Rattle.blob_header.specs.declared.error.Error.{Error}
use Rattle.blob_draws.specs.declared.selections.Selections.{Selections}
use Rattle.blob_memory.specs.Store.{directory, place, durable}
use Rattle.blob_faulty.specs.Wrapper.{inner_of, inside, pending_of}
use Rattle.std.proofs.Common.{List, ℕ, [], ap, sym, ◌∙◌, ◌≡◌, Option, refl}
use Rattle.std.specs.Int.{w64, to_be_bytes}
use Rattle.blob_model.specs.Directory.{current, Directory}
use Rattle.blob_model.specs.Draws.{chosen_by}
use Rattle.blob_model.specs.Pending.{Pending}
use Rattle.blob_model.specs.Places.{Place}
use Rattle.blob_draws.specs.Rows.{table_of}
use Rattle.blob_journal.specs.Currents.{pending_at}
use Rattle.blob_journal.proofs.Standing.{fixed_by, nothing_pending}
use Rattle.blob_model.specs.Stands.{replayed_at}
use Rattle.blob_journal.specs.Blobs.{file_name}
use Rattle.blob_journal.proofs.Blobs.{each_current}
use Rattle.blob_journal.proofs.Stores.{holds_same, open_same}
use Rattle.blob_journal.proofs.journaled.Journaled.crash.Goals as goal

by_result : {A B : Selections → Type 0} {S Q : Type 0} (r : Result Selections Error) → IfOk r A → IfOk r B → OnErr r S → ((rows : Selections) → A rows → B rows → Q) → (S → Q) → Q
by_result (Ok rows) a b s ok err = ok rows a b
by_result (Err e) a b s ok err = err s

pub invariant_of-self : goal.invariant_of-self
invariant_of-self g c =
    let self = c.args.self.now in
    let new = c.crash.new.self in
    let same = c.crash.ensures.directory in
    let at : Place = place (inside self.journal.blob) in
    holds_same self new same (λ test k. by_result c.crash.result c.crash.ensures.rows c.crash.ensures.stands c.crash.ensures.same_files
    (λ rows drawn left. c.crashed.ensures self.store new at test rows same drawn left k)
    (λ steps. c.same_bytes.ensures.same self.store new at test same steps k))

pub returns-clause-files : goal.returns-clause-files
returns-clause-files g c = nothing_pending c.crash.new.self (λ o. ap (λ (f : Place → List Pending). f o) (c.in_ok-rows.ensures.emptied))

pub returns-clause-gives : goal.returns-clause-gives
returns-clause-gives g c = λ before.
    let store = c.crash.new.self in
    let at : Place = before.is.place in
    let none : pending_at store at ≡ [] = ap (λ (f : Place → List Pending). f at) (c.in_ok-rows.ensures.emptied) in
    record {
      journal = before.journal;
      is = record {
        place = at;
        current = ap (λ (d : Directory). current d (codes "j") (to_be_bytes w64 c.args.self.now.journal.generation)) c.crash.ensures.directory ∙ before.is.current;
        fixed = fixed_by store at before.journal (c.in_ok-rows.ensures.durable at ∙ before.is.fixed.left (chosen_by (table_of c.in_ok-rows.rows))) none;
      };
      gives = before.gives;
    }

pub returns-clause-bytes : goal.returns-clause-bytes
returns-clause-bytes g c = λ inode.
    let old = c.args.self.now.store in
    let new = c.crash.new.self in
    let left : Place → Option (List ℕ) = λ o. replayed_at (chosen_by (table_of c.in_ok-rows.rows)) (pending_of (λ (a : Place). a) old o) (durable (inner_of old) o) in
    ap (λ (d : Directory). option_and_then (durable (inner_of new)) (current d (codes "f") (file_name inode))) c.crash.ensures.directory
    ∙ each_current (durable (inner_of new)) left (current (directory (inner_of old)) (codes "f") (file_name inode)) c.in_ok-rows.ensures.durable

pub returns-in_err-rows-clause-still : goal.returns-in_err-rows-clause-still
returns-in_err-rows-clause-still g c =
    let old = c.args.self.now.store in
    let new = c.crash.new.self in
    let same = c.crash.ensures.directory in
    open_same _ _ same (λ o test k. c.same_bytes.ensures.same old new o test same c.in_err-rows.ensures.same_files k)

pub returns-clause-still : goal.returns-clause-still
returns-clause-still g c =
    let old = c.args.self.now.store in
    let new = c.crash.new.self in
    let same = c.crash.ensures.directory in
    open_same _ _ same (λ o test k. c.crashed.ensures old new o test c.in_ok-rows.rows same c.in_ok-rows.ensures.rows c.in_ok-rows.ensures.stands k)

pub returns-clause-edits : goal.returns-clause-edits
returns-clause-edits g c = λ keeps edits f.
    let at : Place = f.is.place in
    record {
      journal = f.journal;
      is = record {
        place = at;
        current = ap (λ (d : Directory). current d (codes "j") (to_be_bytes w64 c.args.self.now.journal.generation)) (sym c.crash.ensures.directory) ∙ f.is.current;
        replayed = sym (c.in_ok-rows.ensures.durable at) ∙ f.is.durable;
      };
      found = f.found;
    }

pub returns-in_err-rows-clause-keeps : goal.returns-in_err-rows-clause-keeps
returns-in_err-rows-clause-keeps g c = record { names = refl; told = refl; unsettled = refl; log = refl }

pub returns-clause-keeps : goal.returns-clause-keeps
returns-clause-keeps g c = record { names = refl; told = refl; unsettled = refl; log = refl }
