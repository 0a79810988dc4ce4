-- Files all of whose bytes a recovery fixes.
use Rattle.std.proofs.Common.{◌≡◌, ◌≢◌, ℕ, Bool, true, false, List, [], cond, ⊎_elim, Option, None, Some, refl, sym, ap, subst, ◌∙◌, arith}
use Rattle.std.proofs.lemmas.Bool.{cases_Bool, cond-false, cond-true, false≢true}
use Rattle.std.specs.Prelude.{is_some, option_and_then, option_map}
use Rattle.std.specs.BTreeMap.{BTreeMap, get}
use Rattle.std.specs.Ordering.{is_eq, nat_cmp}
use Rattle.blob_faulty.specs.Wrapper.{size_of}
use Rattle.blob_journal.specs.declared.journaled.Journaled.{Journaled}
use Rattle.blob_journal.specs.declared.store.FileBlob.{FileBlob}
use Rattle.blob_journal.specs.Blobs.{ReadsSeen, SyncsFile, bytes_of}
use Rattle.blob_journal.specs.Fixed.{ChangesOpen, FixesOpen, HasFixed, IsOpen, KeepsOpen, KeepsOpenBut, has_byte}
use Rattle.blob_fs.specs.declared.file_system.File.{File}
use Rattle.blob_fs.specs.declared.file_system.FileSystem.{FileSystem}
use Rattle.blob_fs.specs.Bytes.{bytes_read, file_in}
use Rattle.blob_fs.specs.Files.{fresh_inode, journaled_of, shown}
use Rattle.blob_fs.specs.Fixed.{AllFixed, AreWhole, FixesFound, IsSyncedAt, IsWhole}
use Rattle.blob_fs.specs.Open.{AllOpen, MayChange}
use Rattle.blob_fs.proofs.Fixed.{changes_twice}
use Rattle.blob_fs.proofs.Recovering.{key_is, key_self, read_is}
use Rattle.blob_fs.proofs.Syncing.{seen_below, synced_whole}

some_same : {A : Type 0} {x y : A} → Some x ≡ Some y → x ≡ y
some_same e = cc

none_some : {A : Type 0} {x : A} → ◌≡◌ {A = Option A} None (Some x) → ⊥
none_some e = cc

-- Calls on a file.

pub but_twice : {R : Type 0} (inode : ℕ) (a b c : Journaled R) → KeepsOpenBut inode a b → KeepsOpenBut inode b c → KeepsOpenBut inode a c
but_twice inode a b c f g = record {
  still = λ other file low apart o. g.still other file low apart (f.still other file low apart o);
  fixed = λ other file at byte low apart o has. g.fixed other file at byte low apart (f.still other file low apart o) (f.fixed other file at byte low apart o has);
}

-- a call that keeps open files, with what it keeps of all but one
pub but_keeps : {R : Type 0} (inode : ℕ) (a b : Journaled R) → KeepsOpen a b → KeepsOpenBut inode a b
but_keeps inode a b keeps = record {
  still = λ other file low apart o. keeps.still other file o;
  fixed = λ other file at byte low apart o has. keeps.fixed file at byte has;
}

-- or of one
pub may_keep : {R : Type 0} (a b : Journaled R) (file : FileBlob) → KeepsOpen a b → MayChange a file b file
may_keep a b file keeps = record {
  still = λ inode h. keeps.still inode file h;
  fixed = λ at byte spared h. keeps.fixed file at byte h;
  others = λ inode below h. but_keeps inode a b keeps;
}

-- two calls on the same file
pub may_twice : {R : Type 0} (one two : ℕ → Type 0) (a b c : Journaled R) (x y z : FileBlob) → ChangesOpen one a x b y → ChangesOpen two b y c z → MayChange a x c z
may_twice one two a b c x y z f g = changes_twice one two (λ at. ⊥) a b c x y z (λ at no. absurd no) (λ at no. absurd no) f g

-- A file that is opened again.

-- a sync fixes all that calls see after it
pub all_fixed : {R : Type 0} → ReadsSeen → (j j' : Journaled R) (inode : ℕ) (blob blob' : FileBlob) → IsOpen j inode blob → SyncsFile j blob j' blob' → FixesOpen j blob j' blob' → AllFixed j' blob'
all_fixed reads j j' inode blob blob' own syncs fixes at byte has =
    fixes inode own at byte (subst (λ (l : List ℕ). has_byte at byte l ≡ true) (reads blob' (bytes_of blob) (syncs inode own).seen) has)

-- a file with such a blob
pub is_whole : {R : Type 0} (j : Journaled R) (file : File) → AllFixed j file.blob → file.synced ≡ size_of file.blob.blob → file.truncations.items ≡ [] → file.shown ≡ None → IsWhole j file
is_whole j file fixed size uncut none at byte has =
    let seen : has_byte at byte (bytes_of file.blob) ≡ true = subst (λ (l : List ℕ). has_byte at byte l ≡ true) (read_is file (bytes_of file.blob) none refl) has in
    (synced_whole at file size uncut (seen_below file.blob at byte seen), fixed at byte seen)

-- The files of a map.

pub whole_after : {R : Type 0} (a b : Journaled R) (files : BTreeMap ℕ File) → KeepsOpen a b → AreWhole a files → AreWhole b files
whole_after a b files keeps whole inode file below there at byte has =
    let w = whole inode file below there at byte has in
    (w.0, keeps.fixed file.blob at byte w.1)

-- through a call on a file that isn't among them
pub whole_beside : {R : Type 0} (a b : Journaled R) (files : BTreeMap ℕ File) (k : ℕ) → is_some (get nat_cmp files k) ≡ false → KeepsOpenBut k a b → AllOpen a files → AreWhole a files → AreWhole b files
whole_beside a b files k none keeps each whole inode file below there at byte has =
    let w = whole inode file below there at byte has in
    let apart : inode ≢ k = λ e. false≢true (sym none ∙ ap (λ (i : ℕ). is_some (get nat_cmp files i)) (sym e) ∙ ap is_some there) in
    (w.0, keeps.fixed inode file.blob at byte below apart (each inode file below there) w.1)

-- one more file
module _ {R : Type 0} (a b : Journaled R) (before after : BTreeMap ℕ File) (k : ℕ) (file : File) (added : (q : ℕ) → get nat_cmp after q ≡ cond (is_eq (nat_cmp k q)) (Some file) (get nat_cmp before q))
    (keeps : KeepsOpenBut k a b) (each : AllOpen a before) where
  here : (inode : ℕ) (x : File) → is_eq (nat_cmp k inode) ≡ true → get nat_cmp after inode ≡ Some x → file ≡ x
  here inode x y there = some_same (sym (added inode ∙ cond-true (is_eq (nat_cmp k inode)) (Some file) (get nat_cmp before inode) y) ∙ there)

  other : (inode : ℕ) (x : File) → is_eq (nat_cmp k inode) ≡ false → get nat_cmp after inode ≡ Some x → get nat_cmp before inode ≡ Some x
  other inode x n there = sym (added inode ∙ cond-false (is_eq (nat_cmp k inode)) (Some file) (get nat_cmp before inode) n) ∙ there

  apart : (inode : ℕ) → is_eq (nat_cmp k inode) ≡ false → inode ≢ k
  apart inode n e = false≢true (sym n ∙ ap (λ (i : ℕ). is_eq (nat_cmp k i)) e ∙ key_self k)

  pub open_more : IsOpen b k file.blob → AllOpen b after
  open_more own inode x below there = ⊎_elim
      (λ y. subst (λ (f : File). IsOpen b inode f.blob) (here inode x y there) (subst (λ (i : ℕ). IsOpen b i file.blob) (key_is k inode y) own))
      (λ n. keeps.still inode x.blob below (apart inode n) (each inode x below (other inode x n there)))
      (cases_Bool (is_eq (nat_cmp k inode)))

  pub whole_more : AreWhole a before → IsWhole b file → AreWhole b after
  whole_more whole own inode x below there at byte has = ⊎_elim
      (λ y. subst (λ (f : File). IsWhole b f) (here inode x y there) own at byte has)
      (λ n. let was = other inode x n there in
      let w = whole inode x below was at byte has in
      (w.0, keeps.fixed inode x.blob at byte below (apart inode n) (each inode x below was) w.1))
      (cases_Bool (is_eq (nat_cmp k inode)))

-- After the recovery.

read_one : (f : File) (bytes : List ℕ) (gone : Bool) → option_map bytes_read (cond gone None (Some f)) ≡ Some bytes → bytes_read f ≡ bytes
read_one f bytes true e = absurd (none_some e)
read_one f bytes false e = some_same e

read_at : (o : Option File) (bytes : List ℕ) → option_map bytes_read (option_and_then shown o) ≡ Some bytes → (now : File) × (o ≡ Some now) × (bytes_read now ≡ bytes)
read_at None bytes e = absurd (none_some e)
read_at (Some f) bytes e = (f, refl, read_one f bytes f.is_gone e)

-- what is found is fixed
pub fixes_found : {R : Type 0} (fs fs' : FileSystem R) (files : BTreeMap ℕ File) → fresh_inode fs' ≡ fresh_inode fs → fs'.files ≡ files → AreWhole (journaled_of fs') files → FixesFound fs fs'
fixes_found fs fs' files same is whole inode at byte below numbered f =
    let r = read_at (file_in fs' inode) f.bytes f.read in
    let there : get nat_cmp files inode ≡ Some r.0 = subst (λ (m : BTreeMap ℕ File). get nat_cmp m inode ≡ Some r.0) is r.1 in
    let w = whole inode r.0 below there at byte (subst (λ (l : List ℕ). has_byte at byte l ≡ true) (sym r.2) f.has) in
    record {
      numbered = omega (arith, same, numbered);
      synced = λ x at_x. subst (λ (y : File). IsSyncedAt y at) (some_same (sym r.1 ∙ at_x)) w.0;
      fixed = λ x at_x. subst (λ (y : File). HasFixed (journaled_of fs') y.blob at byte) (some_same (sym r.1 ∙ at_x)) w.1;
    }
