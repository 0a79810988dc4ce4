-- Open files and their fixed bytes, through changes of the map of files and of the store.
use Rattle.std.proofs.Common.{◌≡◌, ◌≢◌, ◌<◌, ◌≤◌, ◌⊎◌, ◌^◌, ℕ, zero, suc, true, false, List, [], ◌∷◌, ◌++◌, cond, inl, inr, ⊎_elim, Option, None, Some, refl, sym, ap, subst, ◌∙◌, arith}
use Rattle.std.proofs.Math.Logic.{∥∥₁_elim, ∥∥₁_map, ∥∥₁_prop}
use Rattle.std.specs.Prelude.{All, Err, IsSome, Ok, OnErr, OnOk, Result}
use Rattle.std.proofs.lemmas.List.Elements.{All-append}
use Rattle.std.specs.Map.{lookup}
use Rattle.std.specs.BTreeMap.{BTreeMap, Updates, WritesThrough, get, is_at}
use Rattle.std.specs.Coded.{Coded-set, coded_bool}
use Rattle.std.specs.Ordering.{is_eq, nat_cmp}
use Rattle.std.proofs.lemmas.Bool.{cases_Bool, cond-false, cond-true, false≢true}
use Rattle.blob_journal.specs.declared.journaled.Journaled.{Journaled}
use Rattle.blob_journal.specs.declared.store.FileBlob.{FileBlob}
use Rattle.blob_journal.specs.Fixed.{ChangesOpen, HasFixed, IsOpen, KeepsOpen, KeepsOpenBut}
use Rattle.blob_fs.specs.declared.file_system.Descriptor.{Descriptor}
use Rattle.blob_fs.specs.declared.file_system.File.{File}
use Rattle.blob_fs.specs.declared.file_system.FileSystem.{FileSystem}
use Rattle.blob_fs.specs.Bytes.{file_in}
use Rattle.blob_fs.specs.Files.{fresh_inode, inode_opened, journaled_of}
use Rattle.blob_fs.specs.Fixed.{IsFixed, IsSyncedAt, KeepsFixed, KeepsFixedBut, KeepsSpared}
use Rattle.blob_fs.specs.declared.truncation.Truncation.{Truncation}
use Rattle.blob_fs.specs.Open.{AllOpen, KeepsCutsOf, SameContent, SameCuts}
use Rattle.blob_fs.proofs.Recovering.{key_is, key_self}

pub some_same : {A : Type 0} {x y : A} → Some x ≡ Some y → x ≡ y
some_same e = cc

none_some : {A : Type 0} {x : A} → ◌≡◌ {A = Option A} None (Some x) → ⊥
none_some e = cc

-- Maps whose files have the same contents.

-- each file of the second one is one of the first one, with the same content
abbrev pub SameContents : BTreeMap ℕ File → BTreeMap ℕ File → Type 0
SameContents m n = (k : ℕ) (now : File) → get nat_cmp n k ≡ Some now → (was : File) × (get nat_cmp m k ≡ Some was) × SameContent was now

-- a position that was synced in a file is in one of the same synced size and truncations
pub synced_kept : (at : ℕ) (was now : File) → now.synced ≡ was.synced → now.truncations.items ≡ was.truncations.items → IsSyncedAt was at → IsSyncedAt now at
synced_kept at was now synced truncations is = record {
  below = subst (λ (n : ℕ). at < n) (sym synced) is.below;
  uncut = subst (λ (ts : List Truncation). All (λ t. at < t.length) ts) (sym truncations) is.uncut;
}

pub synced_same : (at : ℕ) (was now : File) → SameContent was now → IsSyncedAt was at → IsSyncedAt now at
synced_same at was now same is = synced_kept at was now same.synced same.truncations is

pub contents_self : (m : BTreeMap ℕ File) → SameContents m m
contents_self m k now at = (now, at, record { blob = refl; synced = refl; truncations = refl })

pub contents_same : (m n : BTreeMap ℕ File) → n ≡ m → SameContents m n
contents_same m n e = subst (λ x. SameContents m x) (sym e) (contents_self m)

pub contents_entries : (m n : BTreeMap ℕ File) → n.entries ≡ m.entries → SameContents m n
contents_entries m n e k now at = (now, ap (λ (es : List (ℕ × File)). lookup (is_at (nat_cmp k)) es) (sym e) ∙ at, record { blob = refl; synced = refl; truncations = refl })

pub contents_twice : (a b c : BTreeMap ℕ File) → SameContents a b → SameContents b c → SameContents a c
contents_twice a b c f g k now at =
    let one = g k now at in
    let two = f k one.0 one.1 in
    (two.0, two.1, record { blob = one.2.blob ∙ two.2.blob; synced = one.2.synced ∙ two.2.synced; truncations = one.2.truncations ∙ two.2.truncations })

-- one file has changed
abbrev pub Sets : BTreeMap ℕ File → BTreeMap ℕ File → ℕ → File → Type 0
Sets m n k now = (q : ℕ) → get nat_cmp n q ≡ cond (is_eq (nat_cmp k q)) (Some now) (get nat_cmp m q)

-- what `get_mut` lent was written
pub sets_through : (m n : BTreeMap ℕ File) (k : ℕ) (was now : File) → Some was ≡ get nat_cmp m k → WritesThrough nat_cmp (nat_cmp k) m now n → Sets m n k now
sets_through m n k was now at w = (w.3 (subst (λ (o : Option File). IsSome o) at refl)).0

pub contents_set : (m n : BTreeMap ℕ File) (k : ℕ) (was now : File) → Some was ≡ get nat_cmp m k → Sets m n k now → SameContent was now → SameContents m n
contents_set m n k was now at sets same q x there = ⊎_elim
    (λ y. let e : k ≡ q = key_is k q y in
    let is : now ≡ x = some_same (sym (sets q ∙ cond-true (is_eq (nat_cmp k q)) (Some now) (get nat_cmp m q) y) ∙ there) in
    (was, subst (λ (i : ℕ). get nat_cmp m i ≡ Some was) e (sym at), subst (λ (f : File). SameContent was f) is same))
    (λ n'. (x, sym (sets q ∙ cond-false (is_eq (nat_cmp k q)) (Some now) (get nat_cmp m q) n') ∙ there, record { blob = refl; synced = refl; truncations = refl }))
    (cases_Bool (is_eq (nat_cmp k q)))

-- through `get_mut`
pub contents_through : (m n : BTreeMap ℕ File) (k : ℕ) (was now : File) → Some was ≡ get nat_cmp m k → WritesThrough nat_cmp (nat_cmp k) m now n → SameContent was now → SameContents m n
contents_through m n k was now at w same = contents_set m n k was now at (sets_through m n k was now at w) same

-- The same of truncations and synced sizes alone.

pub cuts_of : (m n : BTreeMap ℕ File) → SameContents m n → KeepsCutsOf m n
cuts_of m n f k now at = let one = f k now at in (one.0, one.1, record { synced = one.2.synced; truncations = one.2.truncations })

pub cuts_same : (m n : BTreeMap ℕ File) → n ≡ m → KeepsCutsOf m n
cuts_same m n e = cuts_of m n (contents_same m n e)

pub cuts_set : (m n : BTreeMap ℕ File) (k : ℕ) (was now : File) → Some was ≡ get nat_cmp m k → Sets m n k now → SameCuts was now → KeepsCutsOf m n
cuts_set m n k was now at sets same q x there = ⊎_elim
    (λ y. let e : k ≡ q = key_is k q y in
    let is : now ≡ x = some_same (sym (sets q ∙ cond-true (is_eq (nat_cmp k q)) (Some now) (get nat_cmp m q) y) ∙ there) in
    (was, subst (λ (i : ℕ). get nat_cmp m i ≡ Some was) e (sym at), subst (λ (f : File). SameCuts was f) is same))
    (λ n'. (x, sym (sets q ∙ cond-false (is_eq (nat_cmp k q)) (Some now) (get nat_cmp m q) n') ∙ there, record { synced = refl; truncations = refl }))
    (cases_Bool (is_eq (nat_cmp k q)))

pub cuts_from : (l m n : BTreeMap ℕ File) → m ≡ l → KeepsCutsOf m n → KeepsCutsOf l n
cuts_from l m n e f = subst (λ (x : BTreeMap ℕ File). KeepsCutsOf x n) e f

-- a file was removed
pub contents_without : (m n : BTreeMap ℕ File) (k : ℕ) → Updates nat_cmp m n k None → SameContents m n
contents_without m n k u q x there = ⊎_elim
    (λ y. absurd (none_some (sym (u.0 q ∙ cond-true (is_eq (nat_cmp k q)) None (get nat_cmp m q) y) ∙ there)))
    (λ n'. (x, sym (u.0 q ∙ cond-false (is_eq (nat_cmp k q)) None (get nat_cmp m q) n') ∙ there, record { blob = refl; synced = refl; truncations = refl }))
    (cases_Bool (is_eq (nat_cmp k q)))

-- Stores that keep open files.

pub still_self : {R : Type 0} (j : Journaled R) → KeepsOpen j j
still_self j = record { still = λ inode file h. h; fixed = λ file at byte h. h }

pub still_same : {R : Type 0} (j j' : Journaled R) → j' ≡ j → KeepsOpen j j'
still_same j j' e = subst (λ x. KeepsOpen j x) (sym e) (still_self j)

pub still_twice : {R : Type 0} (a b c : Journaled R) → KeepsOpen a b → KeepsOpen b c → KeepsOpen a c
still_twice a b c f g = record { still = λ inode file h. g.still inode file (f.still inode file h); fixed = λ file at byte h. g.fixed file at byte (f.fixed file at byte h) }

-- a call on an open file, after one that keeps open files
pub changes_after : {R : Type 0} (spares : ℕ → Type 0) (a b c : Journaled R) (file file' : FileBlob) → KeepsOpen a b → ChangesOpen spares b file c file' → ChangesOpen spares a file c file'
changes_after spares a b c file file' keeps changes = record {
  still = λ inode h. changes.still inode (keeps.still inode file h);
  fixed = λ at byte spared h. changes.fixed at byte spared (keeps.fixed file at byte h);
  others = λ inode below h.
      let but = changes.others inode below (keeps.still inode file h) in
      record {
        still = λ other f low apart o. but.still other f low apart (keeps.still other f o);
        fixed = λ other f at byte low apart o has. but.fixed other f at byte low apart (keeps.still other f o) (keeps.fixed f at byte has);
      };
}

-- and before one
pub changes_before : {R : Type 0} (spares : ℕ → Type 0) (a b c : Journaled R) (file file' : FileBlob) → ChangesOpen spares a file b file' → KeepsOpen b c → ChangesOpen spares a file c file'
changes_before spares a b c file file' changes keeps = record {
  still = λ inode h. keeps.still inode file' (changes.still inode h);
  fixed = λ at byte spared h. keeps.fixed file' at byte (changes.fixed at byte spared h);
  others = λ inode below h.
      let but = changes.others inode below h in
      record {
        still = λ other f low apart o. keeps.still other f (but.still other f low apart o);
        fixed = λ other f at byte low apart o has. keeps.fixed f at byte (but.fixed other f at byte low apart o has);
      };
}

-- one that spares less
pub changes_less : {R : Type 0} (spares less : ℕ → Type 0) (a b : Journaled R) (file file' : FileBlob) → ((at : ℕ) → less at → spares at) → ChangesOpen spares a file b file' → ChangesOpen less a file b file'
changes_less spares less a b file file' within changes = record {
  still = changes.still;
  fixed = λ at byte spared h. changes.fixed at byte (within at spared) h;
  others = changes.others;
}

-- a call on the same blob
pub changes_again : {R : Type 0} (spares : ℕ → Type 0) (a b : Journaled R) (x x' y y' : FileBlob) → x ≡ y → y' ≡ x' → ChangesOpen spares a x b x' → ChangesOpen spares a y b y'
changes_again spares a b x x' y y' before after changes = subst (λ f. ChangesOpen spares a y b f) (sym after) (subst (λ f. ChangesOpen spares a f b x') before changes)

-- a cut to a length that is no less, after calls that keep each open file
pub changes_cut : {R : Type 0} (a b c : Journaled R) (length reached : ℕ) (x x' y y' : FileBlob) → length ≤ reached → KeepsOpen a b → x ≡ y → y' ≡ x' → ChangesOpen (λ at. at < reached) b x c x' → ChangesOpen (λ at. at < length) a y c y'
changes_cut a b c length reached x x' y y' within still before after changes =
    changes_again (λ at. at < length) a c x x' y y' before after
    (changes_after (λ at. at < length) a b c x x' still (changes_less (λ at. at < reached) (λ at. at < length) b c x x' (λ at low. omega (arith, low, within)) changes))

-- two calls on the same file
pub changes_twice : {R : Type 0} (one two spares : ℕ → Type 0) (a b c : Journaled R) (x y z : FileBlob) → ((at : ℕ) → spares at → one at) → ((at : ℕ) → spares at → two at)
    → ChangesOpen one a x b y → ChangesOpen two b y c z → ChangesOpen spares a x c z
changes_twice one two spares a b c x y z first second f g = record {
  still = λ inode h. g.still inode (f.still inode h);
  fixed = λ at byte spared h. g.fixed at byte (second at spared) (f.fixed at byte (first at spared) h);
  others = λ inode below h.
      let before = f.others inode below h in
      let after = g.others inode below (f.still inode h) in
      record {
        still = λ other file low apart o. after.still other file low apart (before.still other file low apart o);
        fixed = λ other file at byte low apart o has.
            after.fixed other file at byte low apart (before.still other file low apart o) (before.fixed other file at byte low apart o has);
      };
}

-- Open files.

pub opened_after : {R : Type 0} (j j' : Journaled R) (m n : BTreeMap ℕ File) → SameContents m n → KeepsOpen j j' → ∥ AllOpen j m ∥₁ → ∥ AllOpen j' n ∥₁
opened_after j j' m n same keeps h = ∥∥₁_map h (λ each inode file below at.
    let it = same inode file at in
    keeps.still inode file.blob (subst (λ (b : FileBlob). IsOpen j inode b) (sym it.2.blob) (each inode it.0 below it.1)))

-- the store alone has changed
pub opened_store : {R : Type 0} (j j' : Journaled R) (m : BTreeMap ℕ File) → KeepsOpen j j' → ∥ AllOpen j m ∥₁ → ∥ AllOpen j' m ∥₁
opened_store j j' m keeps h = opened_after j j' m m (contents_self m) keeps h

-- the files alone
pub opened_files : {R : Type 0} (j : Journaled R) (m n : BTreeMap ℕ File) → SameContents m n → ∥ AllOpen j m ∥₁ → ∥ AllOpen j n ∥₁
opened_files j m n same h = opened_after j j m n same (still_self j) h

-- fields that `get_mut` lent were written, and the same content is there
pub opened_through : {R : Type 0} (j : Journaled R) (m n : BTreeMap ℕ File) (k : ℕ) (was now : File) → Some was ≡ get nat_cmp m k → WritesThrough nat_cmp (nat_cmp k) m now n
    → SameContent was now → ∥ AllOpen j m ∥₁ → ∥ AllOpen j n ∥₁
opened_through j m n k was now at w same h = opened_files j m n (contents_through m n k was now at w same) h

-- nothing was lent
pub opened_none : {R : Type 0} (j : Journaled R) (m n : BTreeMap ℕ File) → n ≡ m → ∥ AllOpen j m ∥₁ → ∥ AllOpen j n ∥₁
opened_none j m n e h = opened_files j m n (contents_same m n e) h

-- one file has changed, by a call on its blob
pub opened_changed : {R : Type 0} (spares : ℕ → Type 0) (j j' : Journaled R) (m n : BTreeMap ℕ File) (k : ℕ) (was now : File) → k < 2 ^ 64 → Some was ≡ get nat_cmp m k → Sets m n k now
    → ChangesOpen spares j was.blob j' now.blob → ∥ AllOpen j m ∥₁ → ∥ AllOpen j' n ∥₁
opened_changed spares j j' m n k was now small at sets changes h = ∥∥₁_map h (λ each inode file below there.
    let own : IsOpen j k was.blob = each k was small (sym at) in
    ⊎_elim
    (λ y. let e : k ≡ inode = key_is k inode y in
    let is : now ≡ file = some_same (sym (sets inode ∙ cond-true (is_eq (nat_cmp k inode)) (Some now) (get nat_cmp m inode) y) ∙ there) in
    subst (λ (f : File). IsOpen j' inode f.blob) is (subst (λ (i : ℕ). IsOpen j' i now.blob) e (changes.still k own)))
    (λ n'. let before : get nat_cmp m inode ≡ Some file = sym (sets inode ∙ cond-false (is_eq (nat_cmp k inode)) (Some now) (get nat_cmp m inode) n') ∙ there in
    (changes.others k small own).still inode file.blob below (λ e. false≢true (sym n' ∙ ap (λ (i : ℕ). is_eq (nat_cmp k i)) e ∙ key_self k)) (each inode file below before))
    (cases_Bool (is_eq (nat_cmp k inode))))

-- a file was removed, with its blob
pub opened_without : {R : Type 0} (j j' : Journaled R) (m n : BTreeMap ℕ File) (k : ℕ) → Updates nat_cmp m n k None → KeepsOpenBut k j j' → ∥ AllOpen j m ∥₁ → ∥ AllOpen j' n ∥₁
opened_without j j' m n k u keeps h = ∥∥₁_map h (λ each inode file below there.
    ⊎_elim
    (λ y. absurd (none_some (sym (u.0 inode ∙ cond-true (is_eq (nat_cmp k inode)) None (get nat_cmp m inode) y) ∙ there)))
    (λ n'. let before : get nat_cmp m inode ≡ Some file = sym (u.0 inode ∙ cond-false (is_eq (nat_cmp k inode)) None (get nat_cmp m inode) n') ∙ there in
    keeps.still inode file.blob below (λ e. false≢true (sym n' ∙ ap (λ (i : ℕ). is_eq (nat_cmp k i)) e ∙ key_self k)) (each inode file below before))
    (cases_Bool (is_eq (nat_cmp k inode))))

-- a new file was added
pub opened_added : {R : Type 0} (j : Journaled R) (m n : BTreeMap ℕ File) (k : ℕ) (new : File) → Updates nat_cmp m n k (Some new) → IsOpen j k new.blob → ∥ AllOpen j m ∥₁ → ∥ AllOpen j n ∥₁
opened_added j m n k new u is h = ∥∥₁_map h (λ each inode file below there.
    ⊎_elim
    (λ y. let same : new ≡ file = some_same (sym (u.0 inode ∙ cond-true (is_eq (nat_cmp k inode)) (Some new) (get nat_cmp m inode) y) ∙ there) in
    subst (λ (f : File). IsOpen j inode f.blob) same (subst (λ (i : ℕ). IsOpen j i new.blob) (key_is k inode y) is))
    (λ n'. each inode file below (sym (u.0 inode ∙ cond-false (is_eq (nat_cmp k inode)) (Some new) (get nat_cmp m inode) n') ∙ there))
    (cases_Bool (is_eq (nat_cmp k inode))))

-- a new file was added, unless memory ran out
pub opened_inserted : {R T E : Type 0} (r : Result T E) (j : Journaled R) (m n : BTreeMap ℕ File) (k : ℕ) (new : File) → OnOk r (Updates nat_cmp m n k (Some new)) → OnErr r (n.entries ≡ m.entries)
    → IsOpen j k new.blob → ∥ AllOpen j m ∥₁ → ∥ AllOpen j n ∥₁
opened_inserted (Ok x) j m n k new u same is h = opened_added j m n k new u is h
opened_inserted (Err e) j m n k new u same is h = opened_files j m n (contents_entries m n same) h

-- Fixed bytes.

-- a fact about a fixed byte that needs open files
pub fixed_by : {A R : Type 0} {j : Journaled R} {file : FileBlob} {at byte : ℕ} → ∥ A ∥₁ → (A → HasFixed j file at byte) → HasFixed j file at byte
fixed_by h f = record { seen = ∥∥₁_elim h (Coded-set coded_bool _ true) (λ a. (f a).seen); found = ∥∥₁_elim h ∥∥₁_prop (λ a. (f a).found) }

module _ {R : Type 0} (fs fs' : FileSystem R) (more : fresh_inode fs ≤ fresh_inode fs') where
  -- the same contents, in a store that keeps open files
  pub fixed_after : SameContents fs.files fs'.files → KeepsOpen (journaled_of fs) (journaled_of fs') → KeepsFixed fs fs'
  fixed_after same keeps inode at byte below f = record {
    numbered = omega (arith, more, f.numbered);
    synced = λ now there. let it = same inode now there in synced_same at it.0 now it.2 (f.synced it.0 it.1);
    fixed = λ now there. let it = same inode now there in
        subst (λ (b : FileBlob). HasFixed (journaled_of fs') b at byte) (sym it.2.blob) (keeps.fixed it.0.blob at byte (f.fixed it.0 it.1));
  }

  -- one file has changed, by a call on its blob
  module _ (spares : ℕ → Type 0) (k : ℕ) (was now : File) (small : k < 2 ^ 64) (here : Some was ≡ file_in fs k) (sets : Sets fs.files fs'.files k now)
      (changes : ChangesOpen spares (journaled_of fs) was.blob (journaled_of fs') now.blob) (opened : ∥ AllOpen (journaled_of fs) fs.files ∥₁) where
    -- its fixed bytes that the call spares
    own : (at byte : ℕ) → (spares at → IsSyncedAt was at → HasFixed (journaled_of fs') now.blob at byte → IsSyncedAt now at) → spares at → IsFixed fs k at byte → IsFixed fs' k at byte
    own at byte synced spared f =
        let fixed : HasFixed (journaled_of fs') now.blob at byte = changes.fixed at byte spared (f.fixed was (sym here)) in
        let long : IsSyncedAt now at = synced spared (f.synced was (sym here)) fixed in
        let is : (x : File) → file_in fs' k ≡ Some x → now ≡ x = λ x there. some_same (sym (sets k ∙ cond-true (is_eq (nat_cmp k k)) (Some now) (file_in fs k) (key_self k)) ∙ there) in
        record {
          numbered = omega (arith, more, f.numbered);
          synced = λ x there. subst (λ (y : File). IsSyncedAt y at) (is x there) long;
          fixed = λ x there. subst (λ (y : File). HasFixed (journaled_of fs') y.blob at byte) (is x there) fixed;
        }

    -- those of other files
    other : (inode at byte : ℕ) → inode < 2 ^ 64 → is_eq (nat_cmp k inode) ≡ false → IsFixed fs inode at byte → IsFixed fs' inode at byte
    other inode at byte below apart f =
        let before : (x : File) → file_in fs' inode ≡ Some x → file_in fs inode ≡ Some x = λ x there.
        sym (sets inode ∙ cond-false (is_eq (nat_cmp k inode)) (Some now) (file_in fs inode) apart) ∙ there in
        record {
          numbered = omega (arith, more, f.numbered);
          synced = λ x there. f.synced x (before x there);
          fixed = λ x there. fixed_by opened (λ each.
              (changes.others k small (each k was small (sym here))).fixed inode x.blob at byte below
              (λ e. false≢true (sym apart ∙ ap (λ (i : ℕ). is_eq (nat_cmp k i)) e ∙ key_self k))
              (each inode x below (before x there)) (f.fixed x (before x there)));
        }

    pub fixed_changed : (inode at byte : ℕ) → inode < 2 ^ 64 → (inode ≢ k) ⊎ spares at → (spares at → IsSyncedAt was at → HasFixed (journaled_of fs') now.blob at byte → IsSyncedAt now at)
        → IsFixed fs inode at byte → IsFixed fs' inode at byte
    fixed_changed inode at byte below spared synced f = ⊎_elim
        (λ y. let e : k ≡ inode = key_is k inode y in
        subst (λ (i : ℕ). IsFixed fs' i at byte) e
        (own at byte synced (⊎_elim (λ apart. absurd (apart (sym e))) (λ s. s) spared) (subst (λ (i : ℕ). IsFixed fs i at byte) (sym e) f)))
        (λ n. other inode at byte below n f)
        (cases_Bool (is_eq (nat_cmp k inode)))

  -- a file was removed, with its blob
  pub fixed_without : (k : ℕ) → Updates nat_cmp fs.files fs'.files k None → KeepsOpenBut k (journaled_of fs) (journaled_of fs') → ∥ AllOpen (journaled_of fs) fs.files ∥₁ → KeepsFixed fs fs'
  fixed_without k u keeps opened inode at byte below f =
      let apart : (x : File) → file_in fs' inode ≡ Some x → is_eq (nat_cmp k inode) ≡ false = λ x there. ⊎_elim
      (λ y. absurd (none_some (sym (u.0 inode ∙ cond-true (is_eq (nat_cmp k inode)) None (file_in fs inode) y) ∙ there)))
      (λ n. n)
      (cases_Bool (is_eq (nat_cmp k inode))) in
      let before : (x : File) → file_in fs' inode ≡ Some x → file_in fs inode ≡ Some x = λ x there.
      sym (u.0 inode ∙ cond-false (is_eq (nat_cmp k inode)) None (file_in fs inode) (apart x there)) ∙ there in
      record {
        numbered = omega (arith, more, f.numbered);
        synced = λ x there. f.synced x (before x there);
        fixed = λ x there. fixed_by opened (λ each.
            keeps.fixed inode x.blob at byte below
            (λ e. false≢true (sym (apart x there) ∙ ap (λ (i : ℕ). is_eq (nat_cmp k i)) e ∙ key_self k))
            (each inode x below (before x there)) (f.fixed x (before x there)));
      }

  -- a file of a number was added or replaced
  pub fixed_added : (k : ℕ) (new : Option File) → Updates nat_cmp fs.files fs'.files k new → KeepsOpen (journaled_of fs) (journaled_of fs') → KeepsFixedBut k fs fs'
  fixed_added k new u keeps inode at byte below apart f =
      let other : is_eq (nat_cmp k inode) ≡ false = ⊎_elim (λ y. absurd (apart (sym (key_is k inode y)))) (λ n. n) (cases_Bool (is_eq (nat_cmp k inode))) in
      let before : (x : File) → file_in fs' inode ≡ Some x → file_in fs inode ≡ Some x = λ x there.
      sym (u.0 inode ∙ cond-false (is_eq (nat_cmp k inode)) new (file_in fs inode) other) ∙ there in
      record {
        numbered = omega (arith, more, f.numbered);
        synced = λ x there. f.synced x (before x there);
        fixed = λ x there. keeps.fixed x.blob at byte (f.fixed x (before x there));
      }

-- one call after another
pub fixed_twice : {R : Type 0} (a b c : FileSystem R) → KeepsFixed a b → KeepsFixed b c → KeepsFixed a c
fixed_twice a b c f g inode at byte below h = g inode at byte below (f inode at byte below h)

pub fixed_same : {R : Type 0} (a b : FileSystem R) → b ≡ a → KeepsFixed a b
fixed_same a b e inode at byte below h = subst (λ x. IsFixed x inode at byte) (sym e) h

-- A call on a descriptor that changes one file, after one that keeps fixed bytes, and the counting after it.
pub keeps_spared : {R : Type 0} (fs one fs' : FileSystem R) (descriptor : Descriptor) (spares : ℕ → Type 0) (j : Journaled R) (n : BTreeMap ℕ File) (k : ℕ) (was now : File)
    → inode_opened fs descriptor ≡ Some k → KeepsFixed fs one → fresh_inode fs' ≡ fresh_inode one → fs'.files ≡ n → journaled_of fs' ≡ j → k < 2 ^ 64 → Some was ≡ file_in one k → Sets one.files n k now
    → ChangesOpen spares (journaled_of one) was.blob j now.blob → ((at : ℕ) → spares at → IsSyncedAt was at → IsSyncedAt now at) → ∥ AllOpen (journaled_of one) one.files ∥₁ → KeepsSpared descriptor spares fs fs'
keeps_spared {R} fs one fs' descriptor spares j n k was now of keeps same files store small here sets changes synced opened inode at byte below spared f =
    let more : fresh_inode one ≤ fresh_inode fs' = omega (arith, same) in
    fixed_changed one fs' more spares k was now small here (subst (λ (m : BTreeMap ℕ File). Sets one.files m k now) (sym files) sets)
    (subst (λ (s : Journaled R). ChangesOpen spares (journaled_of one) was.blob s now.blob) (sym store) changes) opened inode at byte below
    (⊎_elim (λ apart. inl (λ e. apart (of ∙ ap (λ (i : ℕ). let o : Option ℕ = Some i in o) (sym e)))) (λ s. inr s) spared)
    (λ s long has. synced at s long) (keeps inode at byte below f)

pub all_none : {X : Type 0} (P : X → Type 0) → All P []
all_none P k d less = absurd (omega (arith, less))

all_one : {X : Type 0} (P : X → Type 0) (x : X) → P x → All P (x ∷ [])
all_one P x p zero d less = p
all_one P x p (suc k) d less = absurd (omega (arith, less))

-- a position below one more truncation
pub synced_more : (at : ℕ) (was now : File) (t : Truncation) → now.synced ≡ was.synced → now.truncations.items ≡ was.truncations.items ++ t ∷ [] → at < t.length → IsSyncedAt was at → IsSyncedAt now at
synced_more at was now t synced more short is = record {
  below = subst (λ (n : ℕ). at < n) (sym synced) is.below;
  uncut = subst (λ (ts : List Truncation). All (λ t. at < t.length) ts) (sym more) (All-append (λ t. at < t.length) was.truncations.items (t ∷ []) is.uncut (all_one (λ t. at < t.length) t short));
}
