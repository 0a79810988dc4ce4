use Rattle.std.proofs.Common.{◌≡◌, Bool, true, false, ap, refl, subst, sym, ◌∙◌}
use Rattle.std.specs.Prelude.{if◌then◌else◌}
use Rattle.std.proofs.Math.Logic.{∥∥₁_map}
use Rattle.blob_directory.specs.declared.table.Table.{Table}
use Rattle.blob_directory.specs.declared.log.Log.{Log}
use Rattle.blob_directory.specs.Logs.{logged}
use Rattle.blob_directory.specs.Names.{Edit, Names, Same, edit_of, edited}
use Rattle.blob_directory.specs.Tables.{HasRoomFor, bound}
use Rattle.blob_directory.proofs.Journals.{same_edited}
use Rattle.blob_directory.specs.declared.unsettled.Unsettled.{Unsettled}
use Rattle.blob_journal.proofs.Fixed.{keeps_between}
use Rattle.blob_journal.proofs.Listed.{last_is}
use Rattle.blob_journal.proofs.journaled.Journaled.make.Goals as goal

pub returns-clause-made : goal.returns-clause-made
returns-clause-made g c =
    let edit : Edit = edit_of c.args.edit in
    let before = c.args.self.now.names in
    let room = c.prepare.new.self in
    let noted = c.in_ok-add_edit.ensures.noted in
    let added : Unsettled = c.in-Some.added.now in
    let names : c.add_edit.new.self.names ≡ room = c.add_edit.ensures.names.table in
    let is : edit_of added.edit ≡ edit =
    ap (λ (u : Unsettled). edit_of u.edit) (last_is c.as_slice.result.now _ noted.last added (c.as_slice.ensures ∙ noted.is) c.in-Some.ensures.value) ∙ noted.edit in
    let has : HasRoomFor room (edit_of added.edit) = subst (HasRoomFor room) (sym is) c.in_ok-prepare.ensures.room in
    λ e.
    c.apply.ensures (subst (λ (t : Table). HasRoomFor t (edit_of added.edit)) (sym names) has) e
    ∙ ap (λ (t : Table). edited (bound t) (edit_of added.edit) e) names
    ∙ ap (λ (d : Edit). edited (bound room) d e) is
    ∙ sym (same_edited (bound before) (bound room) edit c.prepare.ensures.same e)

pub returns-clause-still : goal.returns-clause-still
returns-clause-still g c = keeps_between _ _ _ _ refl refl c.add_edit.ensures.names.still

pub returns-clause-noted : goal.returns-clause-noted
returns-clause-noted g c =
    let noted = c.in_ok-add_edit.ensures.noted in
    record {
      number = c.in_ok-add_edit.field-0;
      adds = record { last = noted.last; is = noted.is; edit = noted.edit; about = noted.about; number = noted.number };
      ends = ∥∥₁_map c.in_ok-add_edit.ensures.ends (λ k. record { files = k.files; write = k.write; number = k.number; offset = k.offset; stands = k.stands });
    }

followed_same : (follows : Bool) (a b : Names) (edit : Edit) → Same a b → Same (if follows then edited a edit else a) (if follows then edited b edit else b)
followed_same true a b edit h = same_edited a b edit h
followed_same false a b edit h = h

pub returns-clause-followed : goal.returns-clause-followed
returns-clause-followed g c =
    let edit : Edit = edit_of c.args.edit in
    let before : Log = c.args.self.now.log in
    let room : Log = c.prepare-2.new.self in
    let log : c.add_edit.new.self.log ≡ room = c.add_edit.ensures.names.log in
    let follows : Bool = c.in_ok-is_followed.is_followed in
    let noted = c.in_ok-add_edit.ensures.noted in
    let marked = c.in_ok-add_edit.ensures.marked in
    let added : Unsettled = c.in-Some.added.now in
    let is : edit_of added.edit ≡ edit =
    ap (λ (u : Unsettled). edit_of u.edit) (last_is c.as_slice.result.now _ noted.last added (c.as_slice.ensures ∙ noted.is) c.in-Some.ensures.value) ∙ noted.edit in
    let has : follows ≡ true → HasRoomFor c.add_edit.new.self.log.names (edit_of added.edit) =
    λ y. subst (λ (l : Log). HasRoomFor l.names (edit_of added.edit)) (sym log) (subst (HasRoomFor room.names) (sym is) (c.in_ok-is_followed.ensures.room y)) in
    record {
      marks = record { last = marked.last; is = marked.is; followed = marked.followed ∙ c.in_ok-is_followed.ensures.follows };
      log = λ e. c.follow.ensures has e
          ∙ ap (λ (l : Log). (if follows then edited (logged l) (edit_of added.edit) else logged l) e) log
          ∙ ap (λ (d : Edit). (if follows then edited (logged room) d else logged room) e) is
          ∙ sym (followed_same follows (logged before) (logged room) edit c.prepare-2.ensures.same e)
          ∙ ap (λ (f : Bool). (if f then edited (logged before) edit else logged before) e) c.in_ok-is_followed.ensures.follows;
    }

pub returns-clause-tells : goal.returns-clause-tells
returns-clause-tells g c = let t = c.in_ok-add_edit.ensures.tells in record { written = t.written; logged = t.logged; told = t.told }
