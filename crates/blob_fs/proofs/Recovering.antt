-- The files that a recovery opens again, one after another.
use Rattle.std.proofs.Common.{◌≡◌, ◌≢◌, ◌<◌, ◌⊎◌, ◌^◌, ℕ, Bool, true, false, List, [], ◌∷◌, cond, inl, inr, ⊎_elim, Option, None, Some, Vec, if◌then◌else◌, refl, sym, ap, ap₂, subst, ◌∙◌}
use Rattle.std.specs.Global.{Global}
use Rattle.std.specs.Prelude.{is_some, option_and_then, option_map, unwrap_or}
use Rattle.std.specs.BTreeMap.{BTreeMap, Updates, get, is_at}
use Rattle.std.specs.Cmp.{Equal-is, nat_cmp_is}
use Rattle.std.specs.List.{AllByRecursion}
use Rattle.std.specs.List.Sorted.{IsStrictlySortedBy}
use Rattle.std.specs.Map.{keys_of, lookup}
use Rattle.std.specs.Ordering.{is_eq, nat_cmp}
use Rattle.std.specs.declared.cmp.Ordering.TheVariants.{Equal, Less}
use Rattle.std.proofs.lemmas.Bool.{cases_Bool, cond-false, cond-true, false≢true}
use Rattle.std.proofs.lemmas.Map.Lookups.{exact_unsigned}
use Rattle.blob_directory.specs.declared.tree.Tree.{Tree}
use Rattle.blob_directory.specs.Names.{file}
use Rattle.blob_directory.specs.Tables.{bound}
use Rattle.blob_directory.specs.Trees.{HasNamedLinks, has_link}
use Rattle.blob_journal.specs.declared.journaled.Journaled.{Journaled}
use Rattle.blob_journal.specs.Blobs.{CurrentStays, DurableIsFound, DurableStays, ReadsSeen, SameFile, SameFilesBut, SameTwice, bytes_of}
use Rattle.blob_fs.specs.declared.truncation.Kept.{Kept}
use Rattle.blob_fs.specs.declared.truncations.Loss.{Loss}
use Rattle.blob_fs.specs.declared.file_system.File.{File}
use Rattle.blob_fs.specs.declared.file_system.FileSystem.{FileSystem}
use Rattle.blob_fs.specs.Files.{file_of, journaled_of, names_of, shown}
use Rattle.blob_fs.specs.Bytes.{HasBytes, HasNoOrphan, HasOnlyKnown, HasOnlyLinked, IsLeft, Reopens, ReopensAll, ReopensIn, bytes_read, left_after}

-- Keys of a map.

pub key_is : (i k : ℕ) → is_eq (nat_cmp i k) ≡ true → i ≡ k
key_is i k y = exact_unsigned i k ((Equal-is (nat_cmp i k)).0 y)

pub key_self : (k : ℕ) → is_eq (nat_cmp k k) ≡ true
key_self k = ap is_eq (sym (nat_cmp_is k k Equal refl))

pub key_apart : (i k : ℕ) → is_eq (nat_cmp i k) ≡ false → is_eq (nat_cmp k i) ≡ false
key_apart i k n = ⊎_elim
    (λ y. absurd (let e : k ≡ i = key_is k i y in false≢true (sym n ∙ sym (ap₂ (λ a b. is_eq (nat_cmp a b)) e (sym e)) ∙ y)))
    (λ m. m)
    (cases_Bool (is_eq (nat_cmp k i)))

apart_keys : (i k : ℕ) → is_eq (nat_cmp i k) ≡ false → i ≢ k
apart_keys i k n e = false≢true (sym n ∙ ap (λ a. is_eq (nat_cmp a k)) e ∙ key_self k)

pub none_after : (k : ℕ) (rest : List (ℕ × ℕ)) → AllByRecursion (λ y. nat_cmp k y ≡ Less) (keys_of rest) → lookup (is_at (nat_cmp k)) rest ≡ None
none_after k [] a = refl
none_after k (e ∷ rest) a = cond-false (is_eq (nat_cmp k e.0)) (Some e.1) (lookup (is_at (nat_cmp k)) rest) (ap is_eq a.0) ∙ none_after k rest a.1

-- whether a number is among those that are left
abbrev pub is_left : List (ℕ × ℕ) → ℕ → Bool
is_left rest i = is_some (lookup (is_at (nat_cmp i)) rest)

-- the first one, and another
left_first : (i k links : ℕ) (rest : List (ℕ × ℕ)) → is_eq (nat_cmp i k) ≡ true → is_left ((k, links) ∷ rest) i ≡ true
left_first i k links rest y = ap is_some (cond-true (is_eq (nat_cmp i k)) (Some links) (lookup (is_at (nat_cmp i)) rest) y)

left_later : (i k links : ℕ) (rest : List (ℕ × ℕ)) → is_eq (nat_cmp i k) ≡ false → is_left ((k, links) ∷ rest) i ≡ is_left rest i
left_later i k links rest n = ap is_some (cond-false (is_eq (nat_cmp i k)) (Some links) (lookup (is_at (nat_cmp i)) rest) n)

-- the keys that are left ascend
abbrev pub Ascend : List (ℕ × ℕ) → Type 0
Ascend rest = IsStrictlySortedBy nat_cmp (keys_of rest)

pub ascend_parts : (e : ℕ × ℕ) (rest : List (ℕ × ℕ)) → Ascend (e ∷ rest) → AllByRecursion (λ y. nat_cmp e.0 y ≡ Less) (keys_of rest) × Ascend rest
unfolding IsStrictlySortedBy
ascend_parts e rest h = h

pub ascend_rest : (rest rest' : List (ℕ × ℕ)) (e : ℕ × ℕ) → rest ≡ e ∷ rest' → Ascend rest → Ascend rest'
ascend_rest rest rest' e is h = (ascend_parts e rest' (subst Ascend is h)).1

-- the tree counts those that are left
abbrev pub AreLinked : Tree → List (ℕ × ℕ) → Type 0
AreLinked tree rest = (i : ℕ) → is_left rest i ≡ true → has_link tree i ≡ true

pub linked_first : (tree : Tree) (k links : ℕ) (rest : List (ℕ × ℕ)) → AreLinked tree ((k, links) ∷ rest) → has_link tree k ≡ true
linked_first tree k links rest h = h k (left_first k k links rest (key_self k))

pub linked_rest : (tree : Tree) (k links : ℕ) (rest : List (ℕ × ℕ)) → AreLinked tree ((k, links) ∷ rest) → AreLinked tree rest
linked_rest tree k links rest h i there = h i (⊎_elim
    (λ y. left_first i k links rest y)
    (λ n. left_later i k links rest n ∙ there)
    (cases_Bool (is_eq (nat_cmp i k))))

-- The turns of the loop.

module _ {R : Type 0} (j : Journaled R) (old : BTreeMap ℕ File) (tree : Tree) (kept : Kept) (loss : Loss) where
  -- each file that the tree counts is among those that are left, with the same blob, or was opened again
  abbrev pub Stands : List (ℕ × ℕ) → Journaled R → BTreeMap ℕ File → Type 0
  Stands rest j' files = (i : ℕ) → i < 2 ^ 64 → has_link tree i ≡ true
      → ((is_left rest i ≡ true) × SameFile i j j') ⊎ ((is_left rest i ≡ false) × ReopensIn j i old kept loss j' files)

  pub begins : (files : BTreeMap ℕ File) → Stands tree.links.entries j files
  begins files i below linked = inl (linked, record { file = refl; durable = λ o x y. refl })

  pub ends : (j' : Journaled R) (files : BTreeMap ℕ File) → Stands [] j' files → ReopensAll j old tree kept loss j' files
  ends j' files stands i below linked = ⊎_elim (λ w. absurd (false≢true w.0)) (λ d. d.1) (stands i below linked)

  module _ (current : CurrentStays R) (stays : DurableStays R) (twice : SameTwice R) (k links : ℕ) (rest : List (ℕ × ℕ)) (a b : Journaled R) (before after : BTreeMap ℕ File) (file : File) (sorted : Ascend ((k, links) ∷ rest))
      (added : (q : ℕ) → get nat_cmp after q ≡ cond (is_eq (nat_cmp k q)) (Some file) (get nat_cmp before q)) (others : SameFilesBut k a b) (left : Reopens a k old kept loss b file) where
    here : get nat_cmp after k ≡ Some file
    here = added k ∙ cond-true (is_eq (nat_cmp k k)) (Some file) (get nat_cmp before k) (key_self k)

    -- the file that is opened now
    now : SameFile k j a → ReopensIn j k old kept loss b after
    now same = record {
      bytes = left.bytes;
      is = λ bytes is. left.is bytes (current j a k same ∙ is);
      left = record { file = file; at = here; left = left.left };
    }

    -- one that was opened before
    still : (i : ℕ) → i < 2 ^ 64 → is_eq (nat_cmp i k) ≡ false → ReopensIn j i old kept loss a before → ReopensIn j i old kept loss b after
    still i below n d =
        let l = d.left in
        record {
          bytes = d.bytes;
          is = d.is;
          left = record {
            file = l.file;
            at = added i ∙ cond-false (is_eq (nat_cmp k i)) (Some file) (get nat_cmp before i) (key_apart i k n) ∙ l.at;
            left = record {
              has = stays a b i l.file.blob (left_after kept loss i (get nat_cmp old i) d.bytes) (others i below (apart_keys i k n)) l.left.has;
              synced = l.left.synced;
              size = l.left.size;
              there = l.left.there;
              shown = l.left.shown;
            };
          };
        }

    pub takes : Stands ((k, links) ∷ rest) a before → Stands rest b after
    takes stands i below linked = ⊎_elim
        (λ y. let e : i ≡ k = key_is i k y in
        inr (
          ap (λ x. is_left rest x) e ∙ ap is_some (none_after k rest (ascend_parts (k, links) rest sorted).0),
          ⊎_elim
              (λ w. subst (λ x. ReopensIn j x old kept loss b after) (sym e) (now (subst (λ x. SameFile x j a) e w.1)))
              (λ d. absurd (false≢true (sym d.0 ∙ left_first i k links rest y)))
              (stands i below linked),
        ))
        (λ n. ⊎_elim
        (λ w. inl (sym (left_later i k links rest n) ∙ w.0, twice j a b i w.1 (others i below (apart_keys i k n))))
        (λ d. inr (sym (left_later i k links rest n) ∙ d.0, still i below n d.1))
        (stands i below linked))
        (cases_Bool (is_eq (nat_cmp i k)))

-- one more file of a map, which the tree counts
pub only_more : (tree : Tree) (before after : BTreeMap ℕ File) (k : ℕ) (new : File) → Updates nat_cmp before after k (Some new) → has_link tree k ≡ true → HasOnlyLinked tree before → HasOnlyLinked tree after
only_more tree before after k new u linked h i there = ⊎_elim
    (λ y. subst (λ x. has_link tree x ≡ true) (key_is k i y) linked)
    (λ n. h i (ap is_some (sym (u.2 i n)) ∙ there))
    (cases_Bool (is_at (nat_cmp k) i))

-- and one that an earlier map has
pub known_more : (old before after : BTreeMap ℕ File) (k : ℕ) (new : File) → Updates nat_cmp before after k (Some new) → is_some (get nat_cmp old k) ≡ true → HasOnlyKnown old before → HasOnlyKnown old after
known_more old before after k new u known h i there = ⊎_elim
    (λ y. subst (λ x. is_some (get nat_cmp old x) ≡ true) (key_is k i y) known)
    (λ n. h i (ap is_some (sym (u.2 i n)) ∙ there))
    (cases_Bool (is_at (nat_cmp k) i))

-- The files after the recovery.

none_shown : (o : Option File) → is_some o ≡ false → option_and_then shown o ≡ None
none_shown None e = refl
none_shown (Some x) e = absurd (false≢true (sym e))

-- a file that the tree doesn't count is gone
pub no_orphan : {R : Type 0} (fs : FileSystem R) (tree : Tree) → ((name : List ℕ) → names_of fs name ≡ bound tree.names name) → HasNamedLinks tree → HasOnlyLinked tree fs.files → HasNoOrphan fs
no_orphan fs tree same named only inode none = ⊎_elim
    (λ y. let e = named inode (only inode y) in absurd (none e.0 (same e.0 ∙ e.1)))
    (λ n. none_shown (get nat_cmp fs.files inode) n)
    (cases_Bool (is_some (get nat_cmp fs.files inode)))

there_is : (file : File) → file.is_gone ≡ false → shown file ≡ Some file
there_is file e = ap (λ (b : Bool). if b then None else Some file) e

pub read_is : (file : File) (bytes : List ℕ) → file.shown ≡ None → bytes_of file.blob ≡ bytes → bytes_read file ≡ bytes
read_is file bytes none is = ap (λ (s : Option (Vec ℕ Global)). elim s [ None ↦ bytes_of file.blob | Some v ↦ v.items ]) none ∙ is

pub has_bytes : {R : Type 0} → DurableIsFound R → ReadsSeen → (fs : FileSystem R) (inode : ℕ) (found bytes : List ℕ) (file : File) → get nat_cmp fs.files inode ≡ Some file
    → IsLeft (journaled_of fs) inode file found bytes → HasBytes fs inode found bytes
has_bytes law reads fs inode found bytes file at left =
    let one : file_of fs inode ≡ Some file = ap (λ (x : Option File). option_and_then shown x) at ∙ there_is file left.there in
    record {
      durable = law (journaled_of fs) inode file.blob bytes left.has;
      read = ap (λ (x : Option File). option_map bytes_read x) one ∙ ap Some (read_is file bytes left.shown (reads file.blob bytes left.has.seen));
      synced = ap (λ (x : Option File). unwrap_or (option_map (λ (f : File). f.synced) x) 0) one ∙ left.synced;
      size = ap (λ (x : Option File). unwrap_or (option_map (λ (f : File). f.found) x) 0) one ∙ left.size;
    }

-- a file while its blob is the same
pub left_stays : {R : Type 0} → DurableStays R → (a b : Journaled R) (inode : ℕ) (file : File) (found bytes : List ℕ) → SameFile inode a b → IsLeft a inode file found bytes → IsLeft b inode file found bytes
left_stays stays a b inode file found bytes same left = record {
  has = stays a b inode file.blob bytes same left.has;
  synced = left.synced;
  size = left.size;
  there = left.there;
  shown = left.shown;
}
