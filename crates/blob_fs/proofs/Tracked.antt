-- The files that a crash may find, through changes of names, of edits and of the map of files.
use Rattle.std.proofs.Common.{◌≡◌, ◌≤◌, ℕ, Bool, true, false, List, [], ◌∷◌, ◌++◌, length, map, take, cond, ◌⊎◌, inl, inr, ⊎_elim, Option, None, Some, refl, sym, ap, subst, append-nil, append_assoc, ◌∙◌}
use Rattle.std.proofs.Math.Logic.{∥∥₁_elim, ∥∥₁_map, ∥∥₁_prop}
use Rattle.std.specs.BTreeMap.{BTreeMap, Updates, WritesThrough, get, is_at}
use Rattle.std.specs.Map.{lookup}
use Rattle.std.specs.Coded.{Coded-set, coded_bool}
use Rattle.std.specs.Ordering.{is_eq, nat_cmp}
use Rattle.std.specs.Prelude.{Err, Ok, OnErr, OnOk, Result, is_some}
use Rattle.std.specs.Cmp.Lexicographic.{bytes_decides}
use Rattle.std.specs.List.{All}
use Rattle.std.specs.Str.{bytes_eq}
use Rattle.std.proofs.lemmas.Bool.{cases_Bool, cond-false, cond-true}
use Rattle.std.proofs.lemmas.List.Elements.{All-head, All-tail}
use Rattle.blob_directory.specs.declared.edit.Binding.{Binding}
use Rattle.blob_directory.specs.declared.profile.Keeps.{Keeps}
use Rattle.blob_directory.specs.declared.table.Table.{Table}
use Rattle.blob_directory.specs.declared.tree.Tree.{Tree}
use Rattle.blob_directory.specs.Counts.{NamedAtMost}
use Rattle.blob_directory.specs.Names.{Edit, Names, edited, entry, file, resizes}
use Rattle.blob_directory.specs.Records.{Found}
use Rattle.blob_directory.specs.Settled.{AreSettled}
use Rattle.blob_directory.specs.Rules.{any, rule_of}
use Rattle.blob_directory.specs.Tables.{bound}
use Rattle.blob_directory.specs.Trees.{HasNamedLinks, has_link}
use Rattle.blob_journal.specs.declared.journaled.Journaled.{Journaled}
use Rattle.blob_journal.specs.Bindings.{FreedIsNotNamed, FreedNow, FreedOneMore, FreedSettled, IsFreed, KeptMayName, MayName, MayNameOneMore, MayNameSettled, WithinGiven, WithinOneMore, WithinSettled}
use Rattle.blob_journal.specs.Keeping.{AddsTold, Edits, FindsTold, GivesTold, KeepsTable, KeepsTold, SameBindings, SettlesSome, names_in, told_in}
use Rattle.blob_journal.specs.Moves.{Name, TellsAgain, binding_told}
use Rattle.blob_journal.specs.Told.{names_kept}
use Rattle.blob_fs.specs.declared.file_system.File as of_fs
use Rattle.blob_fs.specs.Named.{AllNamed, links_in}
use Rattle.blob_journal.specs.Unchanged.{KeepsNamesAndEdits, TellsEdit}
use Rattle.blob_model.specs.Rates.{Rate}
use Rattle.blob_fs.specs.Tracked.{AllPresent, IsTracked, freed_in, freed_of}
use Rattle.blob_fs.proofs.Fixed.{Sets, sets_through, some_same}
use Rattle.blob_fs.proofs.Naming.{all_freed, fewer, none_some, unnamed}
use Rattle.blob_fs.proofs.Recovering.{key_is}

abbrev Tracked : {R : Type 0} → Journaled R → BTreeMap ℕ of_fs.File → Type 0
Tracked j m = ∥ IsTracked (told_in j) (names_in j) m ∥₁

-- Changes of the map.

-- each file still exists, and none has gone since
pub record KeepsFreed (m n : BTreeMap ℕ of_fs.File) : Type 0 where
  pub there : (k : ℕ) → is_some (get nat_cmp m k) ≡ true → is_some (get nat_cmp n k) ≡ true
  pub freed : (k limit : ℕ) → freed_in (get nat_cmp n k) ≡ Some limit → freed_in (get nat_cmp m k) ≡ Some limit

pub tracked_map : (told : List Found) (names : Names) (m n : BTreeMap ℕ of_fs.File) → KeepsFreed m n → IsTracked told names m → IsTracked told names n
tracked_map told names m n k t = record {
  within = t.within;
  found = λ i may. k.there i (t.found i may);
  freed = λ i limit is. t.freed i limit (k.freed i limit is);
}

pub tracked_after : {R : Type 0} (j j' : Journaled R) (m n : BTreeMap ℕ of_fs.File) → KeepsTable j j' → KeepsTold j j' → KeepsFreed m n → Tracked j m → Tracked j' n
tracked_after j j' m n names told k h = ∥∥₁_map h (λ t.
    subst (λ (l : List Found). IsTracked l (names_in j') n) (sym told)
    (subst (λ (x : Table). IsTracked (told_in j) (bound x) n) (sym names) (tracked_map (told_in j) (names_in j) m n k t)))

pub freed_self : (m : BTreeMap ℕ of_fs.File) → KeepsFreed m m
freed_self m = record { there = λ k is. is; freed = λ k limit is. is }

-- the store alone has changed
pub tracked_store : {R : Type 0} (j j' : Journaled R) (m : BTreeMap ℕ of_fs.File) → KeepsTable j j' → KeepsTold j j' → Tracked j m → Tracked j' m
tracked_store j j' m names told h = tracked_after j j' m m names told (freed_self m) h

-- the files alone
pub tracked_files : {R : Type 0} (j : Journaled R) (m n : BTreeMap ℕ of_fs.File) → KeepsFreed m n → Tracked j m → Tracked j n
tracked_files j m n k h = tracked_after j j m n refl refl k h

pub freed_same : (m n : BTreeMap ℕ of_fs.File) → n ≡ m → KeepsFreed m n
freed_same m n e = subst (λ (x : BTreeMap ℕ of_fs.File). KeepsFreed m x) (sym e) (freed_self m)

freed_entries : (m n : BTreeMap ℕ of_fs.File) → n.entries ≡ m.entries → KeepsFreed m n
freed_entries m n e = record {
  there = λ k is. ap (λ (es : List (ℕ × of_fs.File)). is_some (lookup (is_at (nat_cmp k)) es)) e ∙ is;
  freed = λ k limit is. ap (λ (es : List (ℕ × of_fs.File)). freed_in (lookup (is_at (nat_cmp k)) es)) (sym e) ∙ is;
}

-- one file has changed
freed_one : (m n : BTreeMap ℕ of_fs.File) (k : ℕ) (now : of_fs.File) → Sets m n k now → ((limit : ℕ) → freed_of now ≡ Some limit → freed_in (get nat_cmp m k) ≡ Some limit) → KeepsFreed m n
freed_one m n k now sets own = record {
  there = λ q is. ⊎_elim
      (λ y. ap is_some (sets q ∙ cond-true (is_eq (nat_cmp k q)) (Some now) (get nat_cmp m q) y))
      (λ z. ap is_some (sets q ∙ cond-false (is_eq (nat_cmp k q)) (Some now) (get nat_cmp m q) z) ∙ is)
      (cases_Bool (is_eq (nat_cmp k q)));
  freed = λ q limit is. ⊎_elim
      (λ y. ap (λ (i : ℕ). freed_in (get nat_cmp m i)) (sym (key_is k q y))
      ∙ own limit (ap freed_in (sym (sets q ∙ cond-true (is_eq (nat_cmp k q)) (Some now) (get nat_cmp m q) y)) ∙ is))
      (λ z. ap freed_in (sym (sets q ∙ cond-false (is_eq (nat_cmp k q)) (Some now) (get nat_cmp m q) z)) ∙ is)
      (cases_Bool (is_eq (nat_cmp k q)));
}

pub freed_set : (m n : BTreeMap ℕ of_fs.File) (k : ℕ) (was now : of_fs.File) → Some was ≡ get nat_cmp m k → Sets m n k now → freed_of now ≡ freed_of was → KeepsFreed m n
freed_set m n k was now at sets same = freed_one m n k now sets (λ limit is. ap freed_in (sym at) ∙ sym same ∙ is)

-- a file was written through `get_mut`
pub tracked_through : {R : Type 0} (j : Journaled R) (m n : BTreeMap ℕ of_fs.File) (k : ℕ) (was now : of_fs.File) → Some was ≡ get nat_cmp m k → WritesThrough nat_cmp (nat_cmp k) m now n
    → freed_of now ≡ freed_of was → Tracked j m → Tracked j n
tracked_through j m n k was now at w same h = tracked_files j m n (freed_set m n k was now at (sets_through m n k was now at w) same) h

-- `get_mut` found no file
pub tracked_none : {R : Type 0} (j : Journaled R) (m n : BTreeMap ℕ of_fs.File) → n ≡ m → Tracked j m → Tracked j n
tracked_none j m n e h = tracked_files j m n (freed_same m n e) h

-- a file that hasn't gone
pub freed_there : (f : of_fs.File) → f.is_gone ≡ false → freed_of f ≡ None
freed_there f there = cond-false f.is_gone (Some f.gone_at) None there

-- a file that has gone
pub freed_gone : (f : of_fs.File) → f.is_gone ≡ true → freed_of f ≡ Some f.gone_at
freed_gone f gone = cond-true f.is_gone (Some f.gone_at) None gone

-- a file was added, unless memory ran out
pub tracked_inserted : {R T E : Type 0} (r : Result T E) (j : Journaled R) (m n : BTreeMap ℕ of_fs.File) (k : ℕ) (new : of_fs.File) → OnOk r (Updates nat_cmp m n k (Some new)) → OnErr r (n.entries ≡ m.entries)
    → new.is_gone ≡ false → Tracked j m → Tracked j n
tracked_inserted (Ok x) j m n k new u same there h = tracked_files j m n (freed_one m n k new u.0 (λ limit is. absurd (none_some (sym (freed_there new there) ∙ is)))) h
tracked_inserted (Err e) j m n k new u same there h = tracked_files j m n (freed_entries m n same) h

-- a file that no crash finds was removed
without : (told : List Found) (names : Names) (m n : BTreeMap ℕ of_fs.File) (k : ℕ) → Updates nat_cmp m n k None → (MayName told k → ⊥) → IsTracked told names m → IsTracked told names n
without told names m n k u unfound t = record {
  within = t.within;
  found = λ i may. ⊎_elim
      (λ y. absurd (unfound (subst (MayName told) (sym (key_is k i y)) may)))
      (λ z. ap is_some (u.0 i ∙ cond-false (is_eq (nat_cmp k i)) None (get nat_cmp m i) z) ∙ t.found i may)
      (cases_Bool (is_eq (nat_cmp k i)));
  freed = λ i limit is. ⊎_elim
      (λ y. absurd (none_some (ap freed_in (sym (u.0 i ∙ cond-true (is_eq (nat_cmp k i)) None (get nat_cmp m i) y)) ∙ is)))
      (λ z. t.freed i limit (ap freed_in (sym (u.0 i ∙ cond-false (is_eq (nat_cmp k i)) None (get nat_cmp m i) z)) ∙ is))
      (cases_Bool (is_eq (nat_cmp k i)));
}

pub tracked_without : {R : Type 0} (j j' : Journaled R) (m n : BTreeMap ℕ of_fs.File) (k : ℕ) → Updates nat_cmp m n k None → KeepsTable j j' → KeepsTold j j' → (MayName (told_in j) k → ⊥) → Tracked j m → Tracked j' n
tracked_without j j' m n k u names told unfound h = tracked_store j j' n names told (∥∥₁_map h (λ t. without (told_in j) (names_in j) m n k u unfound t))

-- a file without a name went
went : (now : FreedNow) (told : List Found) (names : Names) (m n : BTreeMap ℕ of_fs.File) (k : ℕ) (file : of_fs.File) → Sets m n k file → freed_of file ≡ Some (length told)
    → NamedAtMost names k 0 → IsTracked told names m → IsTracked told names n
went now told names m n k file sets gone none t = record {
  within = t.within;
  found = λ i may. ⊎_elim
      (λ y. ap is_some (sets i ∙ cond-true (is_eq (nat_cmp k i)) (Some file) (get nat_cmp m i) y))
      (λ z. ap is_some (sets i ∙ cond-false (is_eq (nat_cmp k i)) (Some file) (get nat_cmp m i) z) ∙ t.found i may)
      (cases_Bool (is_eq (nat_cmp k i)));
  freed = λ i limit is. ⊎_elim
      (λ y.
      let same : length told ≡ limit = some_same (sym gone ∙ ap freed_in (sym (sets i ∙ cond-true (is_eq (nat_cmp k i)) (Some file) (get nat_cmp m i) y)) ∙ is) in
      subst (λ (q : ℕ). IsFreed limit told q) (key_is k i y) (subst (λ (l : ℕ). IsFreed l told k) same (now told names k t.within (unnamed names k 0 refl none))))
      (λ z. t.freed i limit (ap freed_in (sym (sets i ∙ cond-false (is_eq (nat_cmp k i)) (Some file) (get nat_cmp m i) z)) ∙ is))
      (cases_Bool (is_eq (nat_cmp k i)));
}

pub tracked_gone : {R : Type 0} (now : FreedNow) (j : Journaled R) (m n : BTreeMap ℕ of_fs.File) (k : ℕ) (was file : of_fs.File) → Some was ≡ get nat_cmp m k → WritesThrough nat_cmp (nat_cmp k) m file n
    → freed_of file ≡ Some (length (told_in j)) → ∥ NamedAtMost (names_in j) k 0 ∥₁ → Tracked j m → Tracked j n
tracked_gone now j m n k was file at w gone none h = ∥∥₁_elim none ∥∥₁_prop (λ own. ∥∥₁_map h (λ t. went now (told_in j) (names_in j) m n k file (sets_through m n k was file at w) gone own t))

-- Changes of the edits.

-- the file of a name exists
named_there : (names : Names) (m : BTreeMap ℕ of_fs.File) (i : ℕ) (e : List ℕ) → AllNamed names m → names e ≡ Some (file i) → is_some (get nat_cmp m i) ≡ true
named_there names m i e each is = by (get nat_cmp m i) (each i)
  where
    by : (o : Option of_fs.File) → NamedAtMost names i (links_in o) → is_some o ≡ true
    by None at = absurd (unnamed names i 0 refl at e is)
    by (Some f) at = refl

pub freed_unlinked : (o : Option of_fs.File) (limit : ℕ) → freed_in o ≡ Some limit → links_in o ≡ 0
freed_unlinked None limit is = absurd (none_some is)
freed_unlinked (Some f) limit is = ⊎_elim
    (λ (gone : f.is_gone ≡ true). cond-true f.is_gone 0 f.links gone)
    (λ (there : f.is_gone ≡ false). absurd (none_some (sym (freed_there f there) ∙ is)))
    (cases_Bool f.is_gone)

-- no name is that of a file that has gone
freed_unnamed : (names : Names) (m : BTreeMap ℕ of_fs.File) (i limit : ℕ) → AllNamed names m → freed_in (get nat_cmp m i) ≡ Some limit → (e : List ℕ) → names e ≡ Some (file i) → ⊥
freed_unnamed names m i limit each gone e is = unnamed names i (links_in (get nat_cmp m i)) (freed_unlinked (get nat_cmp m i) limit gone) (each i) e is

-- an edit was added, which binds only files with names to spare
pub record AddsOne : Type 0 where
  pub may : MayNameOneMore
  pub within : WithinOneMore
  pub freed : FreedOneMore

one_more : (laws : AddsOne) (told : List Found) (edit : Edit) (names names' : Names) (m : BTreeMap ℕ of_fs.File) → ((e : List ℕ) (to : Binding) → edited names edit e ≡ Some to → names' e ≡ Some to)
    → AllNamed (edited names edit) m → IsTracked told names m → IsTracked (told ++ Some (edit, false) ∷ []) names' m
one_more laws told edit names names' m made each t = record {
  within = laws.within told edit names names' made t.within;
  found = λ i may. ⊎_elim (t.found i) (λ h. named_there (edited names edit) m i h.0 each h.1) (laws.may told edit names i may);
  freed = λ i limit is. laws.freed limit told edit names i (freed_unnamed (edited names edit) m i limit each is) (t.freed i limit is);
}

pub tracked_made : {R T E : Type 0} (laws : AddsOne) (r : Result T E) (j j' : Journaled R) (edit : Edit) (rate : Rate) (m : BTreeMap ℕ of_fs.File) → OnOk r (Edits edit j j') → OnErr r (SameBindings j j')
    → OnOk r (TellsEdit edit rate j j') → OnErr r (KeepsTold j j') → ∥ AllNamed (edited (names_in j) edit) m ∥₁ → Tracked j m → Tracked j' m
tracked_made laws (Ok x) j j' edit rate m made refused tells untold named h = ∥∥₁_elim named ∥∥₁_prop (λ each. ∥∥₁_map h (λ t.
    subst (λ (l : List Found). IsTracked l (names_in j') m) (sym tells.told) (one_more laws (told_in j) edit (names_in j) (names_in j') m (λ e to is. made e ∙ is) each t)))
tracked_made laws (Err e) j j' edit rate m made refused tells untold named h = ∥∥₁_map h (λ t.
    subst (λ (l : List Found). IsTracked l (names_in j') m) (sym untold)
    (record { within = λ x to is. sym (refused x) ∙ t.within x to is; found = t.found; freed = t.freed }))

-- the edit of a truncation was added, which binds nothing: calls see the names of before
frees_less : (names : Names) (x e : List ℕ) (to : Binding) → edited names ((x, None) ∷ []) e ≡ Some to → names e ≡ Some to
frees_less names x e to is = by (bytes_eq x e) is
  where
    by : (b : Bool) → cond b None (names e) ≡ Some to → names e ≡ Some to
    by true h = absurd (none_some h)
    by false h = h

pub tracked_freed : {R : Type 0} (laws : AddsOne) (j j' : Journaled R) (inode : ℕ) (m n : BTreeMap ℕ of_fs.File) → KeepsTable j j' → AddsTold (resizes inode) j j' → KeepsFreed m n
    → ∥ AllNamed (names_in j) m ∥₁ → Tracked j m → Tracked j' n
tracked_freed laws j j' inode m n names told k named h =
    let edit : Edit = resizes inode in
    let e : List ℕ = entry inode [] in
    ∥∥₁_elim named ∥∥₁_prop (λ each. ∥∥₁_map h (λ t.
    subst (λ (l : List Found). IsTracked l (names_in j') n) (sym told)
    (subst (λ (x : Table). IsTracked (told_in j ++ Some (edit, false) ∷ []) (bound x) n) (sym names)
    (tracked_map (told_in j ++ Some (edit, false) ∷ []) (names_in j) m n k
    (one_more laws (told_in j) edit (names_in j) (names_in j) m (frees_less (names_in j) e) (all_freed (names_in j) (edited (names_in j) edit) m each e (λ _. refl)) t)))))

-- edits were told that bind names to what calls see there
bound_again : (names : Names) (x : List ℕ) (to : Binding) → names x ≡ Some to → (e : List ℕ) → edited names ((x, Some to) ∷ []) e ≡ names e
bound_again names x to seen e = ⊎_elim
    (λ y. cond-true (bytes_eq x e) (Some to) (names e) y ∙ sym seen ∙ ap names ((bytes_decides x e).0 y))
    (λ n. cond-false (bytes_eq x e) (Some to) (names e) n)
    (cases_Bool (bytes_eq x e))

told_again : (laws : AddsOne) (names : Names) (m : BTreeMap ℕ of_fs.File) (again : List Name) (told : List Found) → AllNamed names m → All (λ n. names n.0 ≡ Some n.1) again
    → IsTracked told names m → IsTracked (told ++ map binding_told again) names m
told_again laws names m [] told each seen t = subst (λ (l : List Found). IsTracked l names m) (sym (append-nil told)) t
told_again laws names m (n ∷ again) told each seen t =
    let edit : Edit = (n.0, Some n.1) ∷ [] in
    let same = bound_again names n.0 n.1 (All-head (λ x. names x.0 ≡ Some x.1) n again seen) in
    let named : AllNamed (edited names edit) m = λ i. fewer names (edited names edit) i _ (λ e is. sym (same e) ∙ is) (each i) in
    let one = one_more laws told edit names names m (λ e to is. sym (same e) ∙ is) named t in
    subst (λ (l : List Found). IsTracked l names m) (append_assoc told (binding_told n ∷ []) (map binding_told again))
    (told_again laws names m again (told ++ binding_told n ∷ []) each (All-tail (λ x. names x.0 ≡ Some x.1) n again seen) one)

pub tracked_again : {R : Type 0} (laws : AddsOne) (j j' : Journaled R) (m : BTreeMap ℕ of_fs.File) → KeepsTable j j' → TellsAgain j j' → ∥ AllNamed (names_in j) m ∥₁ → Tracked j m → Tracked j' m
tracked_again laws j j' m names x named h = ∥∥₁_elim named ∥∥₁_prop (λ each. ∥∥₁_map h (λ t.
    subst (λ (l : List Found). IsTracked l (names_in j') m) (sym x.told)
    (subst (λ (table : Table). IsTracked (told_in j ++ map binding_told x.again) (bound table) m) (sym names)
    (told_again laws (names_in j) m x.again (told_in j) each x.seen t))))

-- a sync settled some edits
pub record Settles : Type 0 where
  pub may : MayNameSettled
  pub within : WithinSettled
  pub freed : FreedSettled

pub tracked_settled : {R : Type 0} (laws : Settles) (j j' : Journaled R) (m : BTreeMap ℕ of_fs.File) → KeepsTable j j' → SettlesSome j j' → Tracked j m → Tracked j' m
tracked_settled laws j j' m names some h = ∥∥₁_map h (λ t.
    subst (λ (x : Table). IsTracked (told_in j') (bound x) m) (sym names) (record {
      within = laws.within (told_in j) (told_in j') (names_in j) some t.within;
      found = λ i may. t.found i (laws.may (told_in j) (told_in j') i some may);
      freed = λ i limit is. laws.freed limit (told_in j) (told_in j') i some (t.freed i limit is);
    }))

-- after a recovery a new journal settles the names, and no file has gone
pub tracked_new : {R : Type 0} (given : WithinGiven) (j : Journaled R) (m : BTreeMap ℕ of_fs.File) → GivesTold j → AllNamed (names_in j) m → AllPresent m → IsTracked (told_in j) (names_in j) m
tracked_new given j m gives each present = record {
  within = given (told_in j) (names_in j) gives.names;
  found = λ i may. named_there (names_in j) m i may.entry each (sym (gives.names any may.chosen may.entry) ∙ may.is);
  freed = λ i limit is. absurd (none_some (sym (present i) ∙ is));
}

-- The journal was begun anew, or it stays; the names are the same.

tracked_names : {R : Type 0} (j j' : Journaled R) (m : BTreeMap ℕ of_fs.File) → SameBindings j j' → KeepsTold j j' → Tracked j m → Tracked j' m
tracked_names j j' m same told h = ∥∥₁_map h (λ t.
    subst (λ (l : List Found). IsTracked l (names_in j') m) (sym told) (record { within = λ x to is. sym (same x) ∙ t.within x to is; found = t.found; freed = t.freed }))

tracked_anew : {R : Type 0} (given : WithinGiven) (j : Journaled R) (m : BTreeMap ℕ of_fs.File) → GivesTold j → AllNamed (names_in j) m → IsTracked (told_in j) (names_in j) m
tracked_anew given j m gives each = record {
  within = given (told_in j) (names_in j) gives.names;
  found = λ i may. named_there (names_in j) m i may.entry each (sym (gives.names any may.chosen may.entry) ∙ may.is);
  freed = λ i limit is chosen e below named. freed_unnamed (names_in j) m i limit each is e (sym (gives.names any chosen e) ∙ named);
}

pub tracked_begun : {R T E : Type 0} (given : WithinGiven) (r : Result T E) (j j' : Journaled R) (m : BTreeMap ℕ of_fs.File) → SameBindings j j' → OnOk r (KeepsTold j j' ⊎ GivesTold j') → OnErr r (KeepsTold j j')
    → ∥ AllNamed (names_in j') m ∥₁ → Tracked j m → Tracked j' m
tracked_begun given (Ok x) j j' m same (inl told) untold named h = tracked_names j j' m same told h
tracked_begun given (Ok x) j j' m same (inr gives) untold named h = ∥∥₁_map named (λ each. tracked_anew given j' m gives each)
tracked_begun given (Err e) j j' m same told untold named h = tracked_names j j' m same untold h

-- What is known of a file.

-- a file that doesn't exist isn't found
pub none_found : {R : Type 0} (j : Journaled R) (m : BTreeMap ℕ of_fs.File) (k : ℕ) → get nat_cmp m k ≡ None → Tracked j m → MayName (told_in j) k → ⊥
none_found j m k none h may = ∥∥₁_elim h (λ a b. absurd (a)) (λ t. false_true (ap is_some (sym none) ∙ t.found k may))
  where
    false_true : false ≡ true → ⊥
    false_true e = cc

-- no crash finds a file that went while the journal had at most so many edits, once these are settled
pub gone_found : {R : Type 0} (law : FreedIsNotNamed) (j : Journaled R) (m : BTreeMap ℕ of_fs.File) (k limit n : ℕ) → freed_in (get nat_cmp m k) ≡ Some limit → limit ≤ n → AreSettled (take n (told_in j))
    → Tracked j m → MayName (told_in j) k → ⊥
gone_found law j m k limit n gone less settled h may = ∥∥₁_elim h (λ a b. absurd (a)) (λ t. law limit n (told_in j) k less settled (t.freed k limit gone) may)

-- No file that a recovery opens has gone.

pub present_more : (m n : BTreeMap ℕ of_fs.File) (k : ℕ) (new : of_fs.File) → Updates nat_cmp m n k (Some new) → new.is_gone ≡ false → AllPresent m → AllPresent n
present_more m n k new u there h i = ⊎_elim
    (λ y. ap freed_in (u.0 i ∙ cond-true (is_eq (nat_cmp k i)) (Some new) (get nat_cmp m i) y) ∙ freed_there new there)
    (λ z. ap freed_in (u.0 i ∙ cond-false (is_eq (nat_cmp k i)) (Some new) (get nat_cmp m i) z) ∙ h i)
    (cases_Bool (is_eq (nat_cmp k i)))

-- a recovery finds names only of files that exist
pub links_known : {R : Type 0} (law : KeptMayName) (j : Journaled R) (m : BTreeMap ℕ of_fs.File) (keeps : Keeps) (tree : Tree) → FindsTold j keeps (bound tree.names) → HasNamedLinks tree → Tracked j m
    → (inode : ℕ) → has_link tree inode ≡ true → is_some (get nat_cmp m inode) ≡ true
links_known law j m keeps tree told named h inode linked =
    ∥∥₁_elim h (Coded-set coded_bool (is_some (get nat_cmp m inode)) true) (λ t.
    let name = named inode linked in
    t.found inode (law (rule_of keeps j.unsettled.edits.items) told.chosen (told_in j) name.0 inode (told.finds.within name.0 (file inode) name.1).0))

-- a journal that gives its names still does after a call that keeps both
pub gives_told_after : {R : Type 0} {j j' : Journaled R} → KeepsNamesAndEdits j j' → GivesTold j → GivesTold j'
gives_told_after kept h = record {
  settled = subst AreSettled (sym kept.told) h.settled;
  names = λ keeps chosen e. ap (λ (l : List Found). names_kept keeps chosen l e) kept.told ∙ h.names keeps chosen e ∙ sym (ap (λ (t : Table). bound t e) kept.names);
}
