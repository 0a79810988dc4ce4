use Rattle.std.proofs.Common.{List, [], ◌∷◌, ◌++◌, ◌≡◌, Some, false, refl, rules, ap, sym, ◌∙◌, subst}
use Rattle.blob_directory.specs.declared.unsettled.Unsettled.{Unsettled}
use Rattle.std.proofs.Math.Logic.{∥∥₁_elim, ∥∥₁_map}
use Rattle.blob_directory.specs.Names.{Edit, edit_of}
use Rattle.blob_directory.specs.Records.{Found, edit_found, found_in, record_of}
use Rattle.blob_journal.specs.Keeping.{told_by, told_in}
use Rattle.blob_journal.proofs.Growing.{told_prop}
use Rattle.blob_journal.proofs.Found.{on_err, done_add, refused_add, told_one_more}
use Rattle.blob_model.specs.Places.{Place}
use Rattle.blob_memory.specs.Store.{place}
use Rattle.blob_faulty.specs.Wrapper.{inside, next_write_of}
use Rattle.blob_journal.proofs.Fixed.{current_given}
use Rattle.blob_model.specs.Files.{all_logged}
use Rattle.blob_faulty.specs.Keeps.{IsFor}
use Rattle.blob_journal.specs.Draws.{entries_of_record}
use Rattle.blob_journal.proofs.Stores.{holds_written, open_written}
use Rattle.std.specs.Prelude.{OnErr, Result}
use Rattle.blob_journal.specs.declared.journaled.Journaled.{Journaled}
use Rattle.blob_journal.specs.Settling.{unsettled_of}
use Rattle.blob_journal.specs.Unchanged.{KeepsNamesAndEdits}
use Rattle.blob_journal.proofs.journaled.Journaled.add_edit.Goals as goal

pub invariant_of-self-in-Break-branch-2 : goal.invariant_of-self-in-Break-branch-2
invariant_of-self-in-Break-branch-2 g c = holds_written c.args.self.now c.add.new.store c.add.new.self _ c.add.ensures.writes (∥∥₁_map c.args.self.now.kept (λ k. refused_add c.args.self.now.store c.add.new.store c.args.self.now.journal c.add.new.self c.args.self.now.unsettled.edits.items c.reserve.new.self.edits.items
    c.reserve.ensures.items c.in_err-record.ensures.same k))

pub invariant_of-self-2 : goal.invariant_of-self-2
invariant_of-self-2 g c = holds_written c.args.self.now c.add.new.store c.add.new.self _ c.add.ensures.writes (∥∥₁_map c.args.self.now.kept (λ k. done_add c.args.self.now.store c.add.new.store c.args.self.now.journal c.add.new.self c.args.self.now.unsettled.edits.items _ c.push_reserved.new.self.edits.items _
    c.push_reserved.ensures.items c.reserve.ensures.items
    c.in_ok-record.ensures.number c.in_ok-record.ensures.offset c.in_ok-record.ensures.left c.records-2.ensures.found k))

pub returns-clause-noted : goal.returns-clause-noted
returns-clause-noted g c =
    let last : Unsettled = record {
      edit = c.args.edit;
      «record» = c.in_ok-record.record;
      offset = c.in_ok-record.offset;
      number = c.args.self.now.next_edit;
      about = c.args.about;
      is_wanted = false;
      is_seen = false;
      is_followed = c.args.is_followed;
    } in
    record {
      last = last;
      is = c.push_reserved.ensures.items ∙ ap (λ (l : List Unsettled). l ++ last ∷ []) c.reserve.ensures.items;
      edit = refl;
      about = refl;
      number = refl;
    }

pub returns-clause-marked : goal.returns-clause-marked
returns-clause-marked g c =
    let last : Unsettled = record {
      edit = c.args.edit;
      «record» = c.in_ok-record.record;
      offset = c.in_ok-record.offset;
      number = c.args.self.now.next_edit;
      about = c.args.about;
      is_wanted = false;
      is_seen = false;
      is_followed = c.args.is_followed;
    } in
    record {
      last = last;
      is = c.push_reserved.ensures.items ∙ ap (λ (l : List Unsettled). l ++ last ∷ []) c.reserve.ensures.items;
      followed = refl;
    }

pub returns-clause-ends : goal.returns-clause-ends
returns-clause-ends g c =
    let self = c.args.self.now in
    let new = c.add.new.store in
    let edit : Edit = edit_of c.args.edit in
    let at : Place = place (inside self.journal.blob) in
    let write = next_write_of self.store in
    let n = self.journal.records in
    let offset = self.journal.end in
    ∥∥₁_map self.kept (λ k. record {
      files = k.has.found.files;
      write = write;
      number = n;
      offset = offset;
      stands = subst (λ (o : Place). IsFor new (all_logged k.has.found.files o (entries_of_record c.args.rate edit write n offset))) (sym c.add.ensures.writes.place)
          (c.in_ok-record.ensures.logged (current_given self.store at self.current) k.has.found.files k.has.found.stands);
    })

pub returns-in_err-record-clause-names : goal.returns-in_err-record-clause-names
returns-in_err-record-clause-names g c = record { table = refl; log = refl; still = open_written _ _ c.add.ensures.writes }

pub returns-clause-names : goal.returns-clause-names
returns-clause-names g c = record { table = refl; log = refl; still = open_written _ _ c.add.ensures.writes }

refused_edits : {R T E : Type 0} (r : Result T E) (a b : Journaled R) → b.names ≡ a.names → told_in b ≡ told_in a → unsettled_of b ≡ unsettled_of a → b.log ≡ a.log → OnErr r (KeepsNamesAndEdits a b)
refused_edits r a b names told edits log = on_err r (KeepsNamesAndEdits a b) (record { names = names; told = told; unsettled = edits; log = log })

pub returns-in_err-record-clause-refused : goal.returns-in_err-record-clause-refused
returns-in_err-record-clause-refused g c = refused_edits _ _ _ refl (ap found_in c.in_err-record.ensures.refused) c.reserve.ensures.items refl

pub returns-clause-tells : goal.returns-clause-tells
returns-clause-tells g c =
    let self = c.args.self.now in
    let edit : Edit = edit_of c.args.edit in
    let trip : edit_found (Some (record_of edit false)) ≡ Some (edit, false) = c.records.ensures.trip edit false (c.fits.ensures (search rules)) in
    record {
      written = (c.in_ok-record.ensures.bytes, c.in_ok-record.ensures.records);
      logged = λ files for. c.in_ok-record.ensures.logged (current_given self.store (place (inside self.journal.blob)) self.current) files for;
      told = ∥∥₁_elim c.args.self.now.kept (told_prop _ _) (λ k.
          told_one_more c.records-2.ensures.found c.args.self.now.store c.add.new.store c.args.self.now.journal c.add.new.self k.records (record_of edit false) k.has (c.in_ok-record.ensures.left k.records k.has) ∙ ap (λ (f : Found). told_by c.args.self.now.journal ++ f ∷ []) trip);
    }
