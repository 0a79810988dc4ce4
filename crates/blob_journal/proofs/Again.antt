-- Edits that bind names once more.
use Rattle.std.proofs.Common.{◌≡◌, ℕ, suc, ◌+◌, ◌<◌, ◌≤◌, ◌||◌, Bool, List, [], ◌∷◌, ◌++◌, None, Some, get_or, map, nat_eq, refl, sym, ◌∙◌, ap, ap₂, subst, arith, ⊎_elim, append-nil, append_assoc}
use Rattle.std.specs.Global.{Global}
use Rattle.std.specs.List.{All}
use Rattle.std.specs.Prelude.{Err, Ok, OnErr, OnOk, Option, Result, Vec, option_map}
use Rattle.std.proofs.lemmas.Bool.{cases_lt, cond-false, cond_both}
use Rattle.std.proofs.lemmas.List.{get_or_default}
use Rattle.std.proofs.lemmas.List.Elements.{All-append, All-cons, All-nil, Contains-append_left, Contains-append_right}
use Rattle.blob_directory.specs.declared.table.Table.{Table}
use Rattle.blob_faulty.specs.Keeps.{OverMemory}
use Rattle.blob_packed.specs.Records.{Record}
use Rattle.blob_directory.specs.declared.edit.Binding.{Binding}
use Rattle.blob_directory.specs.declared.edit.Edit as rust_edit
use Rattle.blob_directory.specs.declared.unsettled.Unsettled.{Unsettled}
use Rattle.blob_directory.specs.Names.{Edit, edit_of, new_name}
use Rattle.blob_directory.specs.Records.{Found, record_of}
use Rattle.blob_directory.specs.Syncs.{moved_into, of_name, unbound}
use Rattle.blob_directory.specs.Tables.{bound}
use Rattle.blob_journal.specs.declared.journal.Journal.{Journal}
use Rattle.blob_journal.specs.declared.journaled.Journaled.{Journaled}
use Rattle.blob_journal.specs.Fixed.{KeepsOpen}
use Rattle.blob_journal.specs.Found.{IsKept, told_by}
use Rattle.blob_journal.specs.Keeping.{AddsTold, KeepsTable, KeepsTold, names_in, told_in}
use Rattle.blob_journal.specs.Unchanged.{KeepsNamesAndEdits, KeepsNames, TellsEdit}
use Rattle.blob_model.specs.Rates.{Rate}
use Rattle.blob_journal.specs.Moves.{AddsName, AddsNames, BindsMovedAt, HasName, Name, NewNameIsBound, TellsAgain, binding_told, view_name}
use Rattle.blob_journal.specs.Records.{InRecords, is_listed}
use Rattle.blob_journal.specs.Settling.{KeepsUnsettled, unsettled_of}
use Rattle.blob_journal.proofs.Unsettled.{listed_by}

pub map_parts : {A B : Type 0} (f : A → B) (xs ys : List A) → map f (xs ++ ys) ≡ map f xs ++ map f ys
map_parts f [] ys = refl
map_parts f (x ∷ xs) ys = ap (λ l. f x ∷ l) (map_parts f xs ys)

-- What is told.

pub tells_none : {R : Type 0} (j j' : Journaled R) → KeepsTold j j' → TellsAgain j j'
tells_none j j' told = record { again = []; seen = All-nil (λ n. names_in j n.0 ≡ Some n.1); told = told ∙ sym (append-nil (told_in j)) }

pub tells_one : {R : Type 0} (j j' : Journaled R) (n : Name) → names_in j n.0 ≡ Some n.1 → AddsTold ((n.0, Some n.1) ∷ []) j j' → TellsAgain j j'
tells_one j j' n seen told = record { again = n ∷ []; seen = All-cons (λ n. names_in j n.0 ≡ Some n.1) n [] seen (All-nil (λ n. names_in j n.0 ≡ Some n.1)); told = told }

pub tells_twice : {R : Type 0} (a b c : Journaled R) → KeepsTable a b → TellsAgain a b → TellsAgain b c → TellsAgain a c
tells_twice a b c names x y = record {
  again = x.again ++ y.again;
  seen = All-append (λ n. names_in a n.0 ≡ Some n.1) x.again y.again x.seen (subst (λ (t : Table). All (λ n. bound t n.0 ≡ Some n.1) y.again) names y.seen);
  told = y.told ∙ ap (λ (l : List Found). l ++ map binding_told y.again) x.told
      ∙ append_assoc (told_in a) (map binding_told x.again) (map binding_told y.again)
      ∙ ap (λ (l : List Found). told_in a ++ l) (sym (map_parts binding_told x.again y.again));
}

-- What is unsettled.

pub adds_none : {R : Type 0} (j j' : Journaled R) → KeepsUnsettled j j' → AddsNames [] j j'
adds_none j j' same = record { is = same ∙ sym (append-nil (unsettled_of j)); plain = λ d. refl }

pub adds_twice : {R : Type 0} (a b c : Journaled R) (xs ys : List Unsettled) → AddsNames xs a b → AddsNames ys b c → AddsNames (xs ++ ys) a c
adds_twice a b c xs ys x y = record {
  is = y.is ∙ ap (λ (l : List Unsettled). l ++ ys) x.is ∙ append_assoc (unsettled_of a) xs ys;
  plain = λ d. map_parts (unbound d) xs ys ∙ ap₂ (λ (l m : List Unsettled). l ++ m) (x.plain d) (y.plain d);
}

pub has_left : (xs ys : List Unsettled) (i d : ℕ) (n : Name) → HasName xs i d n → HasName (xs ++ ys) i d n
has_left xs ys i d n h = record { edit = h.edit; there = Contains-append_left xs ys h.edit h.there; is = h.is; is_about = h.is_about }

pub has_right : (xs ys : List Unsettled) (i d : ℕ) (n : Name) → HasName ys i d n → HasName (xs ++ ys) i d n
has_right xs ys i d n h = record { edit = h.edit; there = Contains-append_right xs ys h.edit h.there; is = h.is; is_about = h.is_about }

pub plain_one : (d : ℕ) (e : Unsettled) (inode directory : ℕ) → e.about ≡ of_name inode directory → unbound d e ≡ e
plain_one d e inode directory is = cond-false (moved_into d e.about) (record e { about = record e.about { other_directory = None } }) e (ap (moved_into d) is)

-- A name of the code, as data.

pub no_name : (o : Option (Vec ℕ Global × Binding)) (n : Name) → o ≡ None → option_map view_name o ≡ Some n → ⊥
no_name None n e is = let no : None ≡ Some n = is in cc
no_name (Some x) n e is = let no : Some x ≡ None = e in cc

pub none_some : {A : Type 0} {x : A} → None ≡ Some x → ⊥
none_some e = cc

pub some_name : {A : Type 0} {x y : A} → Some x ≡ Some y → x ≡ y
some_name e = cc

pub the_name : (o : Option (Vec ℕ Global × Binding)) (x : Vec ℕ Global × Binding) (n : Name) → o ≡ Some x → option_map view_name o ≡ Some n → n ≡ view_name x
the_name o x n e is = some_name (sym is ∙ ap (option_map view_name) e)

-- by a result, an edit of a name is told, or none
pub tells_by : {R T E : Type 0} (r : Result T E) (j j' : Journaled R) (edit : Edit) (rate : Rate) (n : Name) → edit ≡ (n.0, Some n.1) ∷ [] → names_in j n.0 ≡ Some n.1
    → OnOk r (TellsEdit edit rate j j') → OnErr r (KeepsNamesAndEdits j j') → TellsAgain j j'
tells_by (Ok x) j j' edit rate n is seen tells keeps = tells_one j j' n seen (subst (λ (e : Edit). AddsTold e j j') is tells.told)
tells_by (Err e) j j' edit rate n is seen tells keeps = tells_none j j' keeps.told

-- by a result, the new name of this edit is added
pub binds_at : {R T E : Type 0} (r : Result T E) (j j' : Journaled R) (index directory : ℕ) (edit : Unsettled) (name : Option (Vec ℕ Global × Binding)) → edit ≡ get_or (unsettled_of j) index edit
    → option_map view_name name ≡ new_name (edit_of edit.edit) → OnOk r (AddsName (option_map view_name name) edit.about.inode directory j j') → OnOk r (BindsMovedAt index directory j j')
binds_at (Ok x) j j' index directory edit name here named added = record {
  more = added.more;
  adds = added.adds;
  bound = λ e low is moved n new seen.
      let same : e ≡ edit = is ∙ get_or_default (unsettled_of j) index e edit low ∙ sym here in
      subst (λ (u : Unsettled). HasName added.more u.about.inode directory n) (sym same)
      (added.bound n (named ∙ ap (λ (u : Unsettled). new_name (edit_of u.edit)) (sym same) ∙ new) seen);
}
binds_at (Err e) j j' index directory edit name here named added = tt

-- one more edit of the list was looked at
pub bound_more : {R : Type 0} (j mid : Journaled R) (directory index k : ℕ) (e : Unsettled) (xs ys : List Unsettled) → KeepsTable j mid → (k < index → NewNameIsBound j directory xs e)
    → (k ≡ index → NewNameIsBound mid directory ys e) → k < index + 1 → NewNameIsBound j directory (xs ++ ys) e
bound_more j mid directory index k e xs ys names below here low moved n new seen = ⊎_elim
    (λ before. has_left xs ys e.about.inode directory n (below before moved n new seen))
    (λ now. has_right xs ys e.about.inode directory n (here (omega (arith, low, now)) moved n new (ap (λ (t : Table). bound t n.0) names ∙ seen)))
    (cases_lt k index)

pub open_twice : {R : Type 0} (a b c : Journaled R) → KeepsOpen a b → KeepsOpen b c → KeepsOpen a c
open_twice a b c x y = record {
  still = λ inode file is. y.still inode file (x.still inode file is);
  fixed = λ file at byte h. y.fixed file at byte (x.fixed file at byte h);
}

pub names_twice : {R : Type 0} (a b c : Journaled R) → KeepsNames a b → KeepsNames b c → KeepsNames a c
names_twice a b c x y = record { table = y.table ∙ x.table; log = y.log ∙ x.log; still = open_twice a b c x.still y.still }

-- The list, noted.

same_edit : (d : ℕ) (e : Unsettled) → (unbound d e).edit ≡ e.edit
same_edit d e = cond_both (moved_into d e.about) (record e { about = record e.about { other_directory = None } }) e (λ (u : Unsettled). u.edit ≡ e.edit) (λ _. refl) (λ _. refl)

same_record : (d : ℕ) (e : Unsettled) → (unbound d e).record ≡ e.record
same_record d e = cond_both (moved_into d e.about) (record e { about = record e.about { other_directory = None } }) e (λ (u : Unsettled). u.record ≡ e.record) (λ _. refl) (λ _. refl)

same_offset : (d : ℕ) (e : Unsettled) → (unbound d e).offset ≡ e.offset
same_offset d e = cond_both (moved_into d e.about) (record e { about = record e.about { other_directory = None } }) e (λ (u : Unsettled). u.offset ≡ e.offset) (λ _. refl) (λ _. refl)

in_unbound : (d from : ℕ) (records : List Record) (edits : List Unsettled) → InRecords from records edits → InRecords from records (map (unbound d) edits)
in_unbound d from records [] h = tt
in_unbound d from records (e ∷ edits) h =
    let has = h.1 in (
      subst (λ (n : ℕ). from ≤ n) (sym (same_record d e)) h.0,
      record {
        before = has.before;
        after = has.after;
        settled = has.settled;
        is = has.is ∙ ap (λ (x : rust_edit.Edit). has.before ++ record_of (edit_of x) has.settled ∷ has.after) (sym (same_edit d e));
        number = same_record d e ∙ has.number;
        offset = same_offset d e ∙ has.offset;
      },
      subst (λ (n : ℕ). InRecords (suc n) records (map (unbound d) edits)) (sym (same_record d e)) (in_unbound d (suc e.record) records edits h.2),
    )

records_unbound : (d : ℕ) (edits : List Unsettled) (i : ℕ) → is_listed (map (unbound d) edits) i ≡ is_listed edits i
records_unbound d [] i = refl
records_unbound d (e ∷ edits) i = ap₂ (λ (n : ℕ) (b : Bool). nat_eq n i || b) (same_record d e) (records_unbound d edits i)

pub unbound_kept : {R : Type 0} (store : OverMemory R) (journal : Journal) (edits edits' : List Unsettled) (d : ℕ) → edits' ≡ map (unbound d) edits → IsKept store journal edits → IsKept store journal edits'
unbound_kept store journal edits edits' d is h = subst (λ (es : List Unsettled). IsKept store journal es) (sym is) (record {
  records = h.records;
  has = h.has;
  listed = in_unbound d 0 h.records edits h.listed;
  unsettled = listed_by edits (map (unbound d) edits) (λ i there. records_unbound d edits i ∙ there) 0 (told_by journal) h.unsettled;
})
