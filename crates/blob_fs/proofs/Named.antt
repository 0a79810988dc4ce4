-- Files that names are bound to, through changes of names and of the map of files.
use Rattle.std.proofs.Common.{◌≡◌, ◌≢◌, ◌≤◌, ◌-◌, ℕ, suc, Bool, true, false, List, [], ◌∷◌, cond, pred, ⊎_elim, Option, None, Some, refl, sym, ap, subst, ◌∙◌, arith}
use Rattle.std.proofs.Math.Logic.{∥∥₁_elim, ∥∥₁_map, ∥∥₁_prop}
use Rattle.std.specs.BTreeMap.{BTreeMap, Updates, WritesThrough, get, is_at}
use Rattle.std.specs.Map.{lookup}
use Rattle.std.specs.Ordering.{is_eq, nat_cmp}
use Rattle.std.specs.Coded.{Coded-set, coded_bool}
use Rattle.std.specs.Prelude.{Err, Ok, OnErr, OnOk, Result, is_some, option_and_then}
use Rattle.std.proofs.lemmas.Bool.{cases_Bool, cond-false, cond-true}
use Rattle.blob_directory.specs.declared.edit.Binding.{Binding}
use Rattle.blob_directory.specs.declared.table.Table.{Table}
use Rattle.blob_directory.specs.Counts.{NamedAtMost}
use Rattle.blob_directory.specs.Names.{Edit, Names, Same, directory_at, edited, exchanges, file, moves}
use Rattle.blob_directory.specs.Tables.{bound}
use Rattle.blob_fs.specs.declared.file_system.File as of_fs
use Rattle.blob_journal.specs.declared.journaled.Journaled.{Journaled}
use Rattle.blob_journal.specs.Keeping.{Edits, KeepsTable, SameBindings, names_in}
use Rattle.blob_fs.specs.declared.file_system.FileSystem.{FileSystem}
use Rattle.blob_fs.specs.Bytes.{file_in}
use Rattle.blob_fs.specs.Files.{file_of, names_of, shown}
use Rattle.blob_fs.specs.Named.{AllNamed, links_in, links_of}
use Rattle.blob_fs.proofs.Fixed.{Sets, sets_through, some_same}
use Rattle.blob_fs.proofs.Recovering.{key_is}
use Rattle.blob_fs.proofs.Naming.{fewer, at_more, all_freed, all_bound, all_linked, all_moved, all_exchanged, less_freed, less_replaced, unnamed, none_some}

-- Changes of the map.

-- no file has fewer links
abbrev pub KeepsLinks : BTreeMap ℕ of_fs.File → BTreeMap ℕ of_fs.File → Type 0
KeepsLinks m n = (k : ℕ) → links_in (get nat_cmp m k) ≤ links_in (get nat_cmp n k)

pub at_most_self : (n : ℕ) → n ≤ n
at_most_self n = omega arith

pub same_at_most : {a b : ℕ} → a ≡ b → a ≤ b
same_at_most {a} {b} e = omega (arith, e)

pub named_after : {R : Type 0} (j j' : Journaled R) (m n : BTreeMap ℕ of_fs.File) → KeepsTable j j' → KeepsLinks m n → ∥ AllNamed (names_in j) m ∥₁ → ∥ AllNamed (names_in j') n ∥₁
named_after j j' m n same links h = ∥∥₁_map h (λ each i.
    subst (λ (x : Table). NamedAtMost (bound x) i (links_in (get nat_cmp n i))) (sym same) (at_more (names_in j) i _ _ (links i) (each i)))

-- the store alone has changed
pub named_store : {R : Type 0} (j j' : Journaled R) (m : BTreeMap ℕ of_fs.File) → KeepsTable j j' → ∥ AllNamed (names_in j) m ∥₁ → ∥ AllNamed (names_in j') m ∥₁
named_store j j' m same h = named_after j j' m m same (λ k. at_most_self _) h

-- the files alone
pub named_files : {R : Type 0} (j : Journaled R) (m n : BTreeMap ℕ of_fs.File) → KeepsLinks m n → ∥ AllNamed (names_in j) m ∥₁ → ∥ AllNamed (names_in j) n ∥₁
named_files j m n links h = named_after j j m n refl links h

pub links_same : (m n : BTreeMap ℕ of_fs.File) → n ≡ m → KeepsLinks m n
links_same m n e k = same_at_most (ap (λ (x : BTreeMap ℕ of_fs.File). links_in (get nat_cmp x k)) (sym e))

pub links_entries : (m n : BTreeMap ℕ of_fs.File) → n.entries ≡ m.entries → KeepsLinks m n
links_entries m n e k = same_at_most (ap (λ (es : List (ℕ × of_fs.File)). links_in (lookup (is_at (nat_cmp k)) es)) (sym e))

pub links_set : (m n : BTreeMap ℕ of_fs.File) (k : ℕ) (was now : of_fs.File) → Some was ≡ get nat_cmp m k → Sets m n k now → links_of was ≤ links_of now → KeepsLinks m n
links_set m n k was now at sets more q = by (is_eq (nat_cmp k q)) refl
  where
    by : (b : Bool) → is_eq (nat_cmp k q) ≡ b → links_in (get nat_cmp m q) ≤ links_in (get nat_cmp n q)
    by true y =
        let before : links_in (get nat_cmp m q) ≡ links_of was = ap (λ (i : ℕ). links_in (get nat_cmp m i)) (sym (key_is k q y)) ∙ ap links_in (sym at) in
        let after : links_in (get nat_cmp n q) ≡ links_of now = ap links_in (sets q ∙ cond-true (is_eq (nat_cmp k q)) (Some now) (get nat_cmp m q) y) in
        omega (arith, before, after, more)
    by false z = same_at_most (ap links_in (sym (sets q ∙ cond-false (is_eq (nat_cmp k q)) (Some now) (get nat_cmp m q) z)))

-- a file was written through `get_mut`
pub named_through : {R : Type 0} (j : Journaled R) (m n : BTreeMap ℕ of_fs.File) (k : ℕ) (was now : of_fs.File) → Some was ≡ get nat_cmp m k → WritesThrough nat_cmp (nat_cmp k) m now n
    → links_of was ≤ links_of now → ∥ AllNamed (names_in j) m ∥₁ → ∥ AllNamed (names_in j) n ∥₁
named_through j m n k was now at w more h = named_files j m n (links_set m n k was now at (sets_through m n k was now at w) more) h

-- `get_mut` found no file
pub named_none : {R : Type 0} (j : Journaled R) (m n : BTreeMap ℕ of_fs.File) → n ≡ m → ∥ AllNamed (names_in j) m ∥₁ → ∥ AllNamed (names_in j) n ∥₁
named_none j m n e h = named_files j m n (links_same m n e) h

-- one file has changed, and this is the most names that it has
pub named_set : {R : Type 0} (j : Journaled R) (m n : BTreeMap ℕ of_fs.File) (k : ℕ) (now : Option of_fs.File) → ((q : ℕ) → get nat_cmp n q ≡ cond (is_eq (nat_cmp k q)) now (get nat_cmp m q))
    → ∥ NamedAtMost (names_in j) k (links_in now) ∥₁ → ∥ AllNamed (names_in j) m ∥₁ → ∥ AllNamed (names_in j) n ∥₁
named_set j m n k now sets own h = ∥∥₁_elim own ∥∥₁_prop (λ at. ∥∥₁_map h (λ each q. ⊎_elim
    (λ y. subst (λ (c : ℕ). NamedAtMost (names_in j) q c) (ap links_in (sym (sets q ∙ cond-true (is_eq (nat_cmp k q)) now (get nat_cmp m q) y)))
    (subst (λ (i : ℕ). NamedAtMost (names_in j) i (links_in now)) (key_is k q y) at))
    (λ z. subst (λ (c : ℕ). NamedAtMost (names_in j) q c) (ap links_in (sym (sets q ∙ cond-false (is_eq (nat_cmp k q)) now (get nat_cmp m q) z))) (each q))
    (cases_Bool (is_eq (nat_cmp k q)))))

-- a file was added, unless memory ran out
pub named_inserted : {R T E : Type 0} (r : Result T E) (j : Journaled R) (m n : BTreeMap ℕ of_fs.File) (k : ℕ) (new : of_fs.File) → OnOk r (Updates nat_cmp m n k (Some new)) → OnErr r (n.entries ≡ m.entries)
    → ∥ NamedAtMost (names_in j) k (links_of new) ∥₁ → ∥ AllNamed (names_in j) m ∥₁ → ∥ AllNamed (names_in j) n ∥₁
named_inserted (Ok x) j m n k new u same own h = named_set j m n k (Some new) u.0 own h
named_inserted (Err e) j m n k new u same own h = named_files j m n (links_entries m n same) h

-- a file with at most as many names as before has at most more
pub most_more : (names : Names) (i n k : ℕ) → n ≤ k → ∥ NamedAtMost names i n ∥₁ → ∥ NamedAtMost names i k ∥₁
most_more names i n k more h = ∥∥₁_map h (λ at. at_more names i n k more at)

-- the names are the same by entry
pub named_names : (a b : Names) (m : BTreeMap ℕ of_fs.File) → Same b a → ∥ AllNamed a m ∥₁ → ∥ AllNamed b m ∥₁
named_names a b m same h = ∥∥₁_map h (λ each i. fewer a b i _ (λ e is. sym (same e) ∙ is) (each i))

-- a file that isn't gone
pub links_there : (f : of_fs.File) → f.is_gone ≡ false → links_of f ≡ f.links
links_there f there = cond-false f.is_gone 0 f.links there

-- one link less
pub links_less : (f : of_fs.File) (n : ℕ) → n ≡ f.links - 1 → links_of (record f { links = n }) ≡ pred (links_of f)
links_less f n less = by f.is_gone
  where
    by : (gone : Bool) → cond gone 0 n ≡ pred (cond gone 0 f.links)
    by true = refl
    by false = omega (arith, less)

pub no_links : (f : of_fs.File) → f.links ≡ 0 → links_of f ≤ 0
no_links f none = by f.is_gone
  where
    by : (gone : Bool) → cond gone 0 f.links ≤ 0
    by true = omega arith
    by false = omega (arith, none)

pub none_left : (f : of_fs.File) → f.links ≡ 0 → links_of f ≡ 0
none_left f none = let most = no_links f none in omega (arith, most)

-- a file gets this many links; if it's gone, none count
pub set_named : (names : Names) (k : ℕ) (was : of_fs.File) (n : ℕ) (files : BTreeMap ℕ of_fs.File) → Some was ≡ get nat_cmp files k → ∥ AllNamed names files ∥₁ → ∥ NamedAtMost names k n ∥₁ → ∥ NamedAtMost names k (links_of (record was { links = n })) ∥₁
set_named names k was n files at each own = by was.is_gone refl
  where
    by : (gone : Bool) → was.is_gone ≡ gone → ∥ NamedAtMost names k (cond gone 0 n) ∥₁
    by true is = ∥∥₁_map each (λ h. subst (λ (c : ℕ). NamedAtMost names k c) (ap links_in (sym at) ∙ cond-true was.is_gone 0 was.links is) (h k))
    by false is = own

-- a file that has no name was removed
pub named_without : {R : Type 0} (j j' : Journaled R) (m n : BTreeMap ℕ of_fs.File) (k : ℕ) → Updates nat_cmp m n k None → KeepsTable j j' → ∥ NamedAtMost (names_in j) k 0 ∥₁
    → ∥ AllNamed (names_in j) m ∥₁ → ∥ AllNamed (names_in j') n ∥₁
named_without j j' m n k u same none h = named_store j j' n same (named_set j m n k None u.0 none h)

-- an edit was made, or nothing has changed
pub named_made : {R T E : Type 0} (r : Result T E) (j j' : Journaled R) (edit : Edit) (m : BTreeMap ℕ of_fs.File) → OnOk r (Edits edit j j') → OnErr r (SameBindings j j')
    → ∥ AllNamed (edited (names_in j) edit) m ∥₁ → ∥ AllNamed (names_in j) m ∥₁ → ∥ AllNamed (names_in j') m ∥₁
named_made (Ok x) j j' edit m made refused after before = named_names (edited (names_in j) edit) (names_in j') m made after
named_made (Err e) j j' edit m made refused after before = named_names (names_in j) (names_in j') m (λ e. sym (refused e)) before

-- The same of what an invariant knows.

pub edit_is : (names : Names) (a b : Edit) → a ≡ b → Same (edited names a) (edited names b)
edit_is names a b e x = ap (λ (edit : Edit). edited names edit x) e

-- a file that doesn't exist has no name
pub none_named : (names : Names) (m : BTreeMap ℕ of_fs.File) (k : ℕ) → links_in (get nat_cmp m k) ≡ 0 → ∥ AllNamed names m ∥₁ → ∥ NamedAtMost names k 0 ∥₁
none_named names m k none h = ∥∥₁_map h (λ each. subst (λ (n : ℕ). NamedAtMost names k n) none (each k))

-- it has no more by names that are the same
pub most_same : (a b : Names) (k n : ℕ) → Same a b → ∥ NamedAtMost a k n ∥₁ → ∥ NamedAtMost b k n ∥₁
most_same a b k n same h = ∥∥₁_map h (λ at. fewer a b k n (λ e is. same e ∙ is) at)

pub most_table : (t t' : Table) (k n : ℕ) → t' ≡ t → ∥ NamedAtMost (bound t) k n ∥₁ → ∥ NamedAtMost (bound t') k n ∥₁
most_table t t' k n same h = most_same (bound t) (bound t') k n (λ e. ap (λ (x : Table). bound x e) (sym same)) h

pub freed : (names after : Names) (m : BTreeMap ℕ of_fs.File) (e : List ℕ) → Same after (edited names ((e, None) ∷ [])) → ∥ AllNamed names m ∥₁ → ∥ AllNamed after m ∥₁
freed names after m e made h = ∥∥₁_map h (λ each. all_freed names after m each e made)

pub placed : (names after : Names) (m : BTreeMap ℕ of_fs.File) (e : List ℕ) (d : ℕ) → Same after (edited names ((e, Some (directory_at d)) ∷ [])) → ∥ AllNamed names m ∥₁ → ∥ AllNamed after m ∥₁
placed names after m e d made h = ∥∥₁_map h (λ each. all_bound names after m each e d made)

pub linked : (names after : Names) (m : BTreeMap ℕ of_fs.File) (e : List ℕ) (k n : ℕ) → ∥ NamedAtMost names k n ∥₁ → suc n ≤ links_in (get nat_cmp m k)
    → Same after (edited names ((e, Some (file k)) ∷ [])) → ∥ AllNamed names m ∥₁ → ∥ AllNamed after m ∥₁
linked names after m e k n own spare made h = ∥∥₁_elim own ∥∥₁_prop (λ at. ∥∥₁_map h (λ each. all_linked names after m each e k n at spare made))

pub moved_on : (names after : Names) (m : BTreeMap ℕ of_fs.File) (old new : List ℕ) (moved : Binding) → names old ≡ Some moved → Same after (edited names (moves old new moved))
    → ∥ AllNamed names m ∥₁ → ∥ AllNamed after m ∥₁
moved_on names after m old new moved was made h = ∥∥₁_map h (λ each. all_moved names after m each old new moved was made)

pub exchanged : (names after : Names) (m : BTreeMap ℕ of_fs.File) (old new : List ℕ) (moved was : Binding) → names old ≡ Some moved → names new ≡ Some was → was ≢ moved
    → Same after (edited names (exchanges old new moved was)) → ∥ AllNamed names m ∥₁ → ∥ AllNamed after m ∥₁
exchanged names after m old new moved was one two differ made h = ∥∥₁_map h (λ each. all_exchanged names after m each old new moved was one two differ made)

-- one name of a file is gone
pub one_freed : (names after : Names) (m : BTreeMap ℕ of_fs.File) (e : List ℕ) (k : ℕ) → names e ≡ Some (file k) → Same after (edited names ((e, None) ∷ []))
    → ∥ AllNamed names m ∥₁ → ∥ NamedAtMost after k (pred (links_in (get nat_cmp m k))) ∥₁
one_freed names after m e k was made h = ∥∥₁_map h (λ each. less_freed names after m each e k was made)

pub one_replaced : (names after : Names) (m : BTreeMap ℕ of_fs.File) (old new : List ℕ) (moved : Binding) (k : ℕ) → names new ≡ Some (file k) → file k ≢ moved
    → Same after (edited names (moves old new moved)) → ∥ AllNamed names m ∥₁ → ∥ NamedAtMost after k (pred (links_in (get nat_cmp m k))) ∥₁
one_replaced names after m old new moved k was differ made h = ∥∥₁_map h (λ each. less_replaced names after m each old new moved k was differ made)

-- the links of a file that wasn't deleted
shown_links : (o : Option of_fs.File) (f : of_fs.File) → option_and_then shown o ≡ Some f → links_in o ≡ f.links
shown_links None f e = absurd (none_some e)
shown_links (Some x) f e = by x.is_gone refl e
  where
    by : (gone : Bool) → x.is_gone ≡ gone → cond gone None (Some x) ≡ Some f → links_of x ≡ f.links
    by true is h = absurd (none_some h)
    by false is h = links_there x is ∙ ap (λ (y : of_fs.File). y.links) (some_same h)

pub file_links : {R : Type 0} (fs : FileSystem R) (k : ℕ) (f : of_fs.File) → file_of fs k ≡ Some f → links_in (file_in fs k) ≡ f.links
file_links fs k f is = shown_links (file_in fs k) f is

links_equal : (m n : BTreeMap ℕ of_fs.File) (k : ℕ) (was now : of_fs.File) → Some was ≡ get nat_cmp m k → Sets m n k now → links_of now ≡ links_of was → (q : ℕ) → links_in (get nat_cmp n q) ≡ links_in (get nat_cmp m q)
links_equal m n k was now at sets same q = ⊎_elim
    (λ y. ap links_in (sets q ∙ cond-true (is_eq (nat_cmp k q)) (Some now) (get nat_cmp m q) y) ∙ same ∙ ap links_in at ∙ ap (λ (i : ℕ). links_in (get nat_cmp m i)) (key_is k q y))
    (λ z. ap links_in (sets q ∙ cond-false (is_eq (nat_cmp k q)) (Some now) (get nat_cmp m q) z))
    (cases_Bool (is_eq (nat_cmp k q)))

-- the same through `get_mut`
pub links_through : (m n : BTreeMap ℕ of_fs.File) (k : ℕ) (was now : of_fs.File) → Some was ≡ get nat_cmp m k → WritesThrough nat_cmp (nat_cmp k) m now n → links_of now ≡ links_of was
    → (q : ℕ) → links_in (get nat_cmp n q) ≡ links_in (get nat_cmp m q)
links_through m n k was now at w same q = links_equal m n k was now at (sets_through m n k was now at w) same q

pub links_kept : (m n : BTreeMap ℕ of_fs.File) → n ≡ m → (q : ℕ) → links_in (get nat_cmp n q) ≡ links_in (get nat_cmp m q)
links_kept m n e q = ap (λ (x : BTreeMap ℕ of_fs.File). links_in (get nat_cmp x q)) e

pub linked_most : {R : Type 0} (fs : FileSystem R) (k : ℕ) (f : of_fs.File) → file_of fs k ≡ Some f → ∥ NamedAtMost (names_of fs) k f.links ∥₁
linked_most fs k f is = ∥∥₁_map fs.named (λ each. subst (λ (n : ℕ). NamedAtMost (names_of fs) k n) (file_links fs k f is) (each k))

-- The file of a name.

some_is : (o : Option of_fs.File) → 0 ≢ links_in o → is_some (option_and_then shown o) ≡ true
some_is None n = absurd (n refl)
some_is (Some f) n = by f.is_gone n
  where
    by : (gone : Bool) → 0 ≢ cond gone 0 f.links → is_some (cond gone None (Some f)) ≡ true
    by true n = absurd (n refl)
    by false n = refl

pub named_there : {R : Type 0} (fs : FileSystem R) (name : List ℕ) (inode : ℕ) → names_of fs name ≡ Some (file inode) → is_some (file_of fs inode) ≡ true
named_there fs name inode is = ∥∥₁_elim fs.named (Coded-set coded_bool _ true)
    (λ each. some_is (file_in fs inode) (λ none. unnamed (names_of fs) inode _ (sym none) (each inode) name is))
