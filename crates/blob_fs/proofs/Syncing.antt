-- Fixed bytes of files through syncs, and through a file that is opened again.
use Rattle.std.proofs.Common.{◌≡◌, ◌<◌, ◌≤◌, ◌^◌, ◌+◌, ◌⊎◌, ℕ, List, [], Bool, true, false, cond, length, get_or, Option, None, Some, refl, sym, ap, subst, ◌∙◌, ⊎_elim, inl, inr, arith}
use Rattle.std.proofs.Math.Logic.{∥∥₁_map}
use Rattle.std.specs.Prelude.{All, Contains, option_and_then}
use Rattle.std.specs.BTreeMap.{BTreeMap, get, is_at}
use Rattle.std.specs.Map.{lookup}
use Rattle.std.specs.Ordering.{is_eq, nat_cmp}
use Rattle.std.proofs.lemmas.Bool.{cases_Bool, cases_lt, cond-false, cond-true}
use Rattle.std.proofs.lemmas.List.{get_or_default}
use Rattle.blob_faulty.specs.Wrapper.{size_of}
use Rattle.blob_journal.specs.declared.journaled.Journaled.{Journaled}
use Rattle.blob_journal.specs.declared.store.FileBlob.{FileBlob}
use Rattle.blob_journal.specs.Blobs.{bytes_of}
use Rattle.blob_journal.specs.Fixed.{FixesOpen, HasFixed, IsOpen, KeepsOpen, ReopensFile, has_byte}
use Rattle.blob_journal.proofs.Fixed.{seen_parts}
use Rattle.blob_fs.specs.declared.file_system.File.{File}
use Rattle.blob_fs.specs.declared.file_system.FileSystem.{FileSystem}
use Rattle.blob_fs.specs.Bytes.{file_in}
use Rattle.blob_fs.specs.Files.{file_of, fresh_inode, journaled_of, shown}
use Rattle.blob_fs.specs.declared.truncation.Truncation.{Truncation}
use Rattle.blob_fs.specs.Fixed.{FixesAll, FixesInode, HasSeen, IsFixed, IsSyncedAt, KeepsFixed, KeepsSeen, ListsFiles}
use Rattle.blob_fs.specs.Open.{AllOpen}
use Rattle.blob_fs.proofs.Fixed.{Sets, all_none, fixed_by}
use Rattle.blob_fs.proofs.Recovering.{key_is, key_self}

some_same : {A : Type 0} {x y : A} → Some x ≡ Some y → x ≡ y
some_same e = cc

none_some : {A : Type 0} {x : A} → ◌≡◌ {A = Option A} None (Some x) → ⊥
none_some e = cc

cases_less : (k n : ℕ) → k < n + 1 → (k < n) ⊎ (k ≡ n)
cases_less k n h = ⊎_elim inl (λ e. inr (omega arith)) (cases_lt k n)

-- what is at the key that was set
pub set_here : (m n : BTreeMap ℕ File) (k : ℕ) (now x : File) → Sets m n k now → get nat_cmp n k ≡ Some x → now ≡ x
set_here m n k now x sets there = some_same (sym (sets k ∙ cond-true (is_eq (nat_cmp k k)) (Some now) (get nat_cmp m k) (key_self k)) ∙ there)

-- what is at another key
set_beside : (m n : BTreeMap ℕ File) (k q : ℕ) (now x : File) → Sets m n k now → is_eq (nat_cmp k q) ≡ false → get nat_cmp n q ≡ Some x → get nat_cmp m q ≡ Some x
set_beside m n k q now x sets apart there = sym (sets q ∙ cond-false (is_eq (nat_cmp k q)) (Some now) (get nat_cmp m q) apart) ∙ there

-- A sync.

-- a byte that calls see is below the size of the blob
pub seen_below : (file : FileBlob) (at byte : ℕ) → has_byte at byte (bytes_of file) ≡ true → at < size_of file.blob
seen_below file at byte seen = (seen_parts at byte (size_of file.blob) _ seen).0

-- a file whose synced size is that of its blob, and that wasn't truncated since, is synced up to there
pub synced_whole : (at : ℕ) (now : File) → now.synced ≡ size_of now.blob.blob → now.truncations.items ≡ [] → at < size_of now.blob.blob → IsSyncedAt now at
synced_whole at now size uncut below = record {
  below = subst (λ (n : ℕ). at < n) (sym size) below;
  uncut = subst (λ (ts : List Truncation). All (λ t. at < t.length) ts) (sym uncut) (all_none (λ t. at < t.length));
}

-- All bytes of a file that calls see are fixed, if its new synced size is that of its blob.
pub fixes_synced : {R : Type 0} (fs fs' : FileSystem R) (k : ℕ) (was now : File) → k < fresh_inode fs' → Some was ≡ file_in fs k → Sets fs.files fs'.files k now
    → FixesOpen (journaled_of fs) was.blob (journaled_of fs') now.blob → now.synced ≡ size_of now.blob.blob → now.truncations.items ≡ [] → ∥ AllOpen (journaled_of fs) fs.files ∥₁ → FixesInode k fs fs'
fixes_synced fs fs' k was now numbered here sets fixes size uncut opened = record {
  was = was;
  there = sym here;
  fixed = λ at byte below has.
      let is : HasFixed (journaled_of fs') now.blob at byte = fixed_by opened (λ each. fixes k (each k was below (sym here)) at byte has) in
      let long : IsSyncedAt now at = synced_whole at now size uncut (seen_below now.blob at byte is.seen) in
      record {
        numbered = numbered;
        synced = λ x there. subst (λ (y : File). IsSyncedAt y at) (set_here fs.files fs'.files k now x sets there) long;
        fixed = λ x there. subst (λ (y : File). HasFixed (journaled_of fs') y.blob at byte) (set_here fs.files fs'.files k now x sets there) is;
      };
}

-- later calls keep what is fixed
pub fixes_after : {R : Type 0} (k : ℕ) (a b c : FileSystem R) → FixesInode k a b → KeepsFixed b c → FixesInode k a c
fixes_after k a b c f keeps = record { was = f.was; there = f.there; fixed = λ at byte below has. keeps k at byte below (f.fixed at byte below has) }

-- the files were the same before
pub fixes_before : {R : Type 0} (k : ℕ) (a b c : FileSystem R) → b.files ≡ a.files → FixesInode k b c → FixesInode k a c
fixes_before k a b c same f = record { was = f.was; there = subst (λ (m : BTreeMap ℕ File). get nat_cmp m k ≡ Some f.was) same f.there; fixed = f.fixed }

-- A file that is opened again.

-- by a store that kept open files before
pub reopens_after : {R : Type 0} (a b c : Journaled R) (k : ℕ) (new : FileBlob) → KeepsOpen a b → ReopensFile b k c new → ReopensFile a k c new
reopens_after a b c k new keeps f = record {
  still = f.still;
  fixed = λ file at byte own has. f.fixed file at byte (keeps.still k file own) (keeps.fixed file at byte has);
}

-- every file is open
pub opened_again : {R : Type 0} (j j' : Journaled R) (m n : BTreeMap ℕ File) (k : ℕ) (now : File) → Sets m n k now → KeepsOpen j j' → ReopensFile j k j' now.blob
    → ∥ AllOpen j m ∥₁ → ∥ AllOpen j' n ∥₁
opened_again j j' m n k now sets keeps again h = ∥∥₁_map h (λ each inode file below there.
    ⊎_elim
    (λ y. let e : k ≡ inode = key_is k inode y in
    let is : now ≡ file = set_here m n k now file sets (subst (λ (i : ℕ). get nat_cmp n i ≡ Some file) (sym e) there) in
    subst (λ (f : File). IsOpen j' inode f.blob) is (subst (λ (i : ℕ). IsOpen j' i now.blob) e again.still))
    (λ n'. keeps.still inode file.blob (each inode file below (set_beside m n k inode now file sets n' there)))
    (cases_Bool (is_eq (nat_cmp k inode))))

-- what was fixed is
pub fixed_again : {R : Type 0} (fs fs' : FileSystem R) → fresh_inode fs ≤ fresh_inode fs' → (k : ℕ) (was now : File) → Some was ≡ file_in fs k → Sets fs.files fs'.files k now
    → ((at : ℕ) → IsSyncedAt was at → IsSyncedAt now at) → KeepsOpen (journaled_of fs) (journaled_of fs') → ReopensFile (journaled_of fs) k (journaled_of fs') now.blob
    → ∥ AllOpen (journaled_of fs) fs.files ∥₁ → KeepsFixed fs fs'
fixed_again fs fs' more k was now here sets size keeps again opened inode at byte below f = ⊎_elim
    (λ y. let e : k ≡ inode = key_is k inode y in
    let there : file_in fs inode ≡ Some was = subst (λ (i : ℕ). file_in fs i ≡ Some was) e (sym here) in
    let is : (x : File) → file_in fs' inode ≡ Some x → now ≡ x = λ x at_x. set_here fs.files fs'.files k now x sets (subst (λ (i : ℕ). file_in fs' i ≡ Some x) (sym e) at_x) in
    let long : IsSyncedAt now at = size at (f.synced was there) in
    let fixed : HasFixed (journaled_of fs') now.blob at byte = fixed_by opened (λ each.
    again.fixed was.blob at byte (subst (λ (i : ℕ). IsOpen (journaled_of fs) i was.blob) (sym e) (each inode was below there)) (f.fixed was there)) in
    record {
      numbered = omega (arith, more, f.numbered);
      synced = λ x at_x. subst (λ (z : File). IsSyncedAt z at) (is x at_x) long;
      fixed = λ x at_x. subst (λ (z : File). HasFixed (journaled_of fs') z.blob at byte) (is x at_x) fixed;
    })
    (λ n. let before : (x : File) → file_in fs' inode ≡ Some x → file_in fs inode ≡ Some x = λ x at_x. set_beside fs.files fs'.files k inode now x sets n at_x in
    record {
      numbered = omega (arith, more, f.numbered);
      synced = λ x at_x. f.synced x (before x at_x);
      fixed = λ x at_x. keeps.fixed x.blob at byte (f.fixed x (before x at_x));
    })
    (cases_Bool (is_eq (nat_cmp k inode)))

-- Bytes that stay as calls see them.

pub seen_twice : {R : Type 0} (a b c : FileSystem R) → KeepsSeen a b → KeepsSeen b c → KeepsSeen a c
seen_twice a b c f g inode at byte below h = g inode at byte below (f inode at byte below h)

-- the files are the same
pub seen_same : {R : Type 0} (fs fs' : FileSystem R) → fs'.files ≡ fs.files → KeepsSeen fs fs'
seen_same fs fs' e inode at byte below h = record { now = h.now; there = subst (λ (m : BTreeMap ℕ File). get nat_cmp m inode ≡ Some h.now) (sym e) h.there; has = h.has }

-- one file has changed, and its bytes stay
pub seen_set : {R : Type 0} (fs fs' : FileSystem R) (k : ℕ) (was now : File) → Some was ≡ file_in fs k → Sets fs.files fs'.files k now
    → ((at byte : ℕ) → k < 2 ^ 64 → has_byte at byte (bytes_of was.blob) ≡ true → has_byte at byte (bytes_of now.blob) ≡ true) → KeepsSeen fs fs'
seen_set fs fs' k was now here sets stays inode at byte below h = ⊎_elim
    (λ y. let e : k ≡ inode = key_is k inode y in
    let is : was ≡ h.now = some_same (here ∙ subst (λ (i : ℕ). file_in fs i ≡ Some h.now) (sym e) h.there) in
    record {
      now = now;
      there = sets inode ∙ cond-true (is_eq (nat_cmp k inode)) (Some now) (file_in fs inode) y;
      has = stays at byte (subst (λ (i : ℕ). i < 2 ^ 64) (sym e) below) (subst (λ (f : File). has_byte at byte (bytes_of f.blob) ≡ true) (sym is) h.has);
    })
    (λ n. record { now = h.now; there = sets inode ∙ cond-false (is_eq (nat_cmp k inode)) (Some now) (file_in fs inode) n ∙ h.there; has = h.has })
    (cases_Bool (is_eq (nat_cmp k inode)))

-- a sync of a file keeps its bytes
pub seen_synced : {R : Type 0} (fs fs' : FileSystem R) (k : ℕ) (was now : File) → Some was ≡ file_in fs k → Sets fs.files fs'.files k now
    → FixesOpen (journaled_of fs) was.blob (journaled_of fs') now.blob → ∥ AllOpen (journaled_of fs) fs.files ∥₁ → KeepsSeen fs fs'
seen_synced fs fs' k was now here sets fixes opened = seen_set fs fs' k was now here sets (λ at byte below has.
    let is : HasFixed (journaled_of fs') now.blob at byte = fixed_by opened (λ each. fixes k (each k was below (sym here)) at byte has) in
    is.seen)

-- Syncs of all files.

-- a file that isn't gone is in the map
there_in : {R : Type 0} (fs : FileSystem R) (inode : ℕ) (was : File) → file_of fs inode ≡ Some was → (file_in fs inode ≡ Some was) × (was.is_gone ≡ false)
there_in fs inode was h = there_at (file_in fs inode) was h
  where
    there_one : (f was : File) (gone : Bool) → f.is_gone ≡ gone → cond gone None (Some f) ≡ Some was → (Some f ≡ Some was) × (was.is_gone ≡ false)
    there_one f was true g e = absurd (none_some e)
    there_one f was false g e = (e, subst (λ (x : File). x.is_gone ≡ false) (some_same e) g)

    there_at : (o : Option File) (was : File) → option_and_then shown o ≡ Some was → (o ≡ Some was) × (was.is_gone ≡ false)
    there_at None was e = absurd (none_some e)
    there_at (Some f) was e = there_one f was f.is_gone refl e

-- each file of a map that isn't gone is among those that are left, or listed
abbrev pub Lists : BTreeMap ℕ File → List (ℕ × File) → List ℕ → Type 0
Lists files rest inodes = (i : ℕ) (f : File) → get nat_cmp files i ≡ Some f → f.is_gone ≡ false → (lookup (is_at (nat_cmp i)) rest ≡ Some f) ⊎ Contains inodes i

-- the bytes of a file are fixed
abbrev pub IsDone : {R : Type 0} → FileSystem R → FileSystem R → ℕ → Type 0
IsDone fs fs' inode = (at byte : ℕ) → inode < 2 ^ 64 → HasSeen fs inode at byte → IsFixed fs' inode at byte

-- so are those of the first ones of a list
abbrev pub AreDone : {R : Type 0} → FileSystem R → FileSystem R → List ℕ → ℕ → Type 0
AreDone fs fs' inodes n = (k : ℕ) → k < n → IsDone fs fs' (get_or inodes k 0)

pub done_after : {R : Type 0} (a b c : FileSystem R) (inodes : List ℕ) (n : ℕ) → KeepsFixed b c → AreDone a b inodes n → AreDone a c inodes n
done_after a b c inodes n keeps done k less at byte below h = keeps (get_or inodes k 0) at byte below (done k less at byte below h)

-- one more
pub done_more : {R : Type 0} (a b c : FileSystem R) (inodes : List ℕ) (n inode : ℕ) → inode ≡ get_or inodes n 0 → KeepsSeen a b → KeepsFixed b c → FixesInode inode b c
    → AreDone a b inodes n → AreDone a c inodes (n + 1)
done_more a b c inodes n inode is seen keeps fixes done k less = ⊎_elim
    (λ before. done_after a b c inodes n keeps done k before)
    (λ e. subst (λ (i : ℕ). IsDone a c i) (is ∙ sym (ap (λ (j : ℕ). get_or inodes j 0) e)) now)
    (cases_less k n less)
  where
    now : IsDone a c inode
    now at byte below h =
        let s = seen inode at byte below h in
        let same : s.now ≡ fixes.was = some_same (sym s.there ∙ fixes.there) in
        fixes.fixed at byte below (subst (λ (f : File). has_byte at byte (bytes_of f.blob) ≡ true) same s.has)

-- all that are listed
pub done_all : {R : Type 0} (fs a b : FileSystem R) (inodes : List ℕ) (n : ℕ) → a.files ≡ fs.files → ListsFiles a inodes → length inodes ≤ n → AreDone fs b inodes n → FixesAll fs b
done_all fs a b inodes n same lists all done inode was at byte below there has =
    let it = there_in fs inode was there in
    let at_a : file_of a inode ≡ Some was = subst (λ (m : BTreeMap ℕ File). option_and_then shown (get nat_cmp m inode) ≡ Some was) (sym same) there in
    let c = lists inode was at_a in
    let within : c.0 < length inodes = c.1 in
    let is : get_or inodes c.0 0 ≡ inode = get_or_default inodes c.0 0 inode within ∙ c.2 in
    let less : c.0 < n = omega (arith, within, all) in
    let d : IsDone fs b inode = subst (λ (i : ℕ). IsDone fs b i) is (done c.0 less) in
    d at byte below (record { now = was; there = it.0; has = has })
