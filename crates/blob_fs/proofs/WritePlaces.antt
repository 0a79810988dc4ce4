-- The places of pending writes: which file a number is of, and which write.
use Rattle.std.proofs.Common.{◌≡◌, ◌⊎◌, ◌∙◌, ℕ, Bool, true, cond, inl, inr, ⊎_elim, List, [], ◌∷◌, map, Option, Some, None, is_some, Vec, refl, sym, ap, subst}
use Rattle.std.proofs.Math.Logic.{∥∥₁_elim}
use Rattle.std.specs.BTreeMap.{BTreeMap, get, is_at}
use Rattle.std.specs.Coded.{Coded-set, coded_bool, coded_ℕ}
use Rattle.std.specs.Global.{Global}
use Rattle.std.specs.List.{AllByRecursion, AllZip}
use Rattle.std.specs.Map.{lookup}
use Rattle.std.specs.Ordering.{is_eq, nat_cmp}
use Rattle.std.specs.Prelude.{unwrap_or}
use Rattle.std.proofs.lemmas.Bool.{cases_Bool, cond_both, cond-false, cond-true, false≢true}
use Rattle.blob_model.specs.Files.{Files, log_of}
use Rattle.blob_model.specs.Log.{Need, Write, needs}
use Rattle.blob_model.specs.Order.{In}
use Rattle.blob_model.specs.Pending.{waiting}
use Rattle.blob_model.specs.Places.{Place as Origin, same_place}
use Rattle.blob_model.specs.SamePlace.{same_place_exact, same_self}
use Rattle.blob_memory.specs.Store.{durable}
use Rattle.blob_faulty.specs.Keeps.{IsFor, OverMemory}
use Rattle.blob_faulty.specs.Wrapper.{inner_of}
use Rattle.blob_journal.specs.Currents.{pending_at}
use Rattle.blob_journal.specs.Journals.{store_of}
use Rattle.blob_fs.specs.declared.crash.Place.{Place}
use Rattle.blob_fs.specs.declared.file_system.File.{File}
use Rattle.blob_fs.specs.declared.file_system.FileSystem.{FileSystem}
use Rattle.blob_fs.specs.Bytes.{file_in}
use Rattle.blob_fs.specs.Files.{journaled_of}
use Rattle.blob_fs.specs.PlaceMaps.{AreInodes, noted, place_of_row}
use Rattle.blob_fs.specs.Places.{IsInodeOf, IsPending, IsPlaceOf, number_of}
use Rattle.blob_fs.proofs.CrashWrites.{needs_here}
use Rattle.blob_fs.proofs.PlaceMaps.{noted_of}
use Rattle.blob_fs.proofs.WriteNumbers.{one_write}
use Rattle.blob_fs.proofs.Recovering.{key_is, key_self}

some_same : {A : Type 0} {x y : A} → Some x ≡ Some y → x ≡ y
some_same e = cc

none_some : {A : Type 0} {x : A} → ◌≡◌ {A = Option A} None (Some x) → ⊥
none_some e = cc

-- The files that the store represents.

-- a test holds, if it does by any of them
pub kept_true : {R : Type 0} (fs : FileSystem R) (b : Bool) → ((files : Files) → IsFor (store_of (journaled_of fs)) files → b ≡ true) → b ≡ true
kept_true fs b f = ∥∥₁_elim fs.store.kept (Coded-set coded_bool b true) (λ k. f k.has.found.files k.has.found.stands)

kept_same : {R : Type 0} (fs : FileSystem R) (m n : ℕ) → ((files : Files) → IsFor (store_of (journaled_of fs)) files → m ≡ n) → m ≡ n
kept_same fs m n f = ∥∥₁_elim fs.store.kept (Coded-set coded_ℕ m n) (λ k. f k.has.found.files k.has.found.stands)

pub needs_at : {R : Type 0} (store : OverMemory R) (files : Files) (o : Origin) → IsFor store files → waiting (pending_at store o) ≡ needs (log_of files.log o)
needs_at store files o s = needs_here (durable (inner_of store) o) (pending_at store o) (files.base o) (log_of files.log o) (s.at o)

-- two pending writes with one number are of one incarnation, at one offset
pending_one : {R : Type 0} (fs : FileSystem R) (a b : Origin) (v w : Write) → IsPending fs a v → IsPending fs b w → v.number ≡ w.number → (a ≡ b) × (v.offset ≡ w.offset)
pending_one fs a b v w p q same = (
  same_place_exact a b (kept_true fs (same_place a b) (λ files s. ap (λ (o : Origin). same_place a o) (sym (one files s).0) ∙ same_self a)),
  kept_same fs v.offset w.offset (λ files s. ap (λ (x : Write). x.offset) (sym p.is ∙ (one files s).1 ∙ q.is)),
)
  where
    one : (files : Files) → IsFor (store_of (journaled_of fs)) files → (a ≡ b) × (p.need.write ≡ q.need.write)
    one files s = one_write 0 files.log files.next_write a b p.need q.need s.rising
        (subst (λ (ws : List Need). In p.need ws) (needs_at (store_of (journaled_of fs)) files a s) p.waits)
        (subst (λ (ws : List Need). In q.need ws) (needs_at (store_of (journaled_of fs)) files b s) q.waits)
        (ap (λ (x : Write). x.number) p.is ∙ same ∙ sym (ap (λ (x : Write). x.number) q.is))

-- The files by the numbers of their blobs.

-- those that the pass has seen have their numbers in the map, and no others
pub record HasInodes {R : Type 0} (fs : FileSystem R) (rest : List (ℕ × File)) (inodes : BTreeMap ℕ ℕ) : Type 0 where
  pub found : (number inode : ℕ) → get nat_cmp inodes number ≡ Some inode → IsInodeOf fs number (Some inode)
  pub each : (inode : ℕ) (file : File) → file_in fs inode ≡ Some file → (lookup (is_at (nat_cmp inode)) rest ≡ Some file) ⊎ (is_some (get nat_cmp inodes (number_of file)) ≡ true)

pub inodes_more : {R : Type 0} (fs : FileSystem R) (now rest : List (ℕ × File)) (before after : BTreeMap ℕ ℕ) (k : ℕ) (file : File) (number : ℕ) → now ≡ (k, file) ∷ rest → file_in fs k ≡ Some file → number ≡ number_of file
    → ((q : ℕ) → get nat_cmp after q ≡ cond (is_eq (nat_cmp number q)) (Some k) (get nat_cmp before q)) → HasInodes fs now before → HasInodes fs rest after
inodes_more fs now rest before after k file number is there numbered added has = record {
  found = λ q inode at. ⊎_elim
      (λ y. let e : k ≡ inode = some_same (sym (cond-true (is_eq (nat_cmp number q)) (Some k) (get nat_cmp before q) y) ∙ sym (added q) ∙ at) in
      (file, ap (λ (i : ℕ). file_in fs i) (sym e) ∙ there, sym numbered ∙ key_is number q y))
      (λ n. has.found q inode (sym (cond-false (is_eq (nat_cmp number q)) (Some k) (get nat_cmp before q) n) ∙ sym (added q) ∙ at))
      (cases_Bool (is_eq (nat_cmp number q)));
  each = λ inode one at. ⊎_elim
      (λ ahead. ⊎_elim
      (λ y. let e : inode ≡ k = key_is inode k y in
      let same : file ≡ one = some_same (sym there ∙ ap (λ (i : ℕ). file_in fs i) (sym e) ∙ at) in
      inr (subst (λ (f : File). is_some (get nat_cmp after (number_of f)) ≡ true) same
      (ap is_some (added (number_of file) ∙ cond-true (is_eq (nat_cmp number (number_of file))) (Some k) (get nat_cmp before (number_of file))
      (ap (λ (q : ℕ). is_eq (nat_cmp number q)) (sym numbered) ∙ key_self number)))))
      (λ n. inl (sym (ap (λ (l : List (ℕ × File)). lookup (is_at (nat_cmp inode)) l) is ∙ cond-false (is_eq (nat_cmp inode k)) (Some file) (lookup (is_at (nat_cmp inode)) rest) n) ∙ ahead))
      (cases_Bool (is_eq (nat_cmp inode k))))
      (λ done. inr (ap is_some (added (number_of one))
      ∙ cond_both (is_eq (nat_cmp number (number_of one))) (Some k) (get nat_cmp before (number_of one)) (λ o. is_some o ≡ true) (λ _. refl) (λ _. done)))
      (has.each inode one at);
}

-- the map after the last file
pub inodes_all : {R : Type 0} (fs : FileSystem R) (rest : List (ℕ × File)) (inodes : BTreeMap ℕ ℕ) → rest ≡ [] → HasInodes fs rest inodes → AreInodes fs inodes
inodes_all fs rest inodes none has number = go (get nat_cmp inodes number) refl
  where
    go : (o : Option ℕ) → get nat_cmp inodes number ≡ o → IsInodeOf fs number o
    go (Some inode) at = has.found number inode at
    go None at = λ inode file there same. ⊎_elim
        (λ ahead. none_some (sym (ap (λ (l : List (ℕ × File)). lookup (is_at (nat_cmp inode)) l) none) ∙ ahead))
        (λ done. false≢true (sym (ap is_some (ap (λ (q : ℕ). get nat_cmp inodes q) same ∙ at)) ∙ done))
        (has.each inode file there)

-- The places of the lists.

-- what is noted of a list of an incarnation are places of pending writes
pub noted_place : {R : Type 0} (fs : FileSystem R) (origin : Origin) (inode : Option ℕ) (ws : List Need) (number : ℕ) (before : Option Place) (place : Place)
    → waiting (pending_at (store_of (journaled_of fs)) origin) ≡ ws → IsInodeOf fs origin.number inode
    → (before ≡ Some place → IsPlaceOf fs number place) → noted inode ws number before ≡ Some place → IsPlaceOf fs number place
noted_place fs origin inode ws number before place lists of early at = ⊎_elim early
    (λ late. let own : IsPending fs origin late.0.write = record { need = late.0; waits = subst (λ (l : List Need). In late.0 l) (sym lists) late.1; is = refl } in
    record {
      origin = origin;
      write = late.0.write;
      pending = own;
      numbered = late.2;
      only = λ o w p same. pending_one fs o origin w late.0.write p own (same ∙ sym late.2);
      inode = subst (λ (p : Place). IsInodeOf fs origin.number p.inode) (sym late.3) of;
      offset = ap (λ (p : Place). p.offset) late.3;
    })
    (noted_of inode ws number before place at)

-- The places of the rows.

-- each row has the number of a write that a crash needs
pub numbers_each : (P : ℕ → Type 0) (ns : List Need) (rows : List (ℕ × Vec Bool Global)) → map (λ (row : ℕ × Vec Bool Global). row.0) rows ≡ map (λ (n : Need). n.write.number) ns
    → ((w : Need) → In w ns → P w.write.number) → AllByRecursion (λ (row : ℕ × Vec Bool Global). P row.0) rows
numbers_each P ns [] e each = tt
numbers_each P [] (row ∷ rows) e each = absurd (let apart : ⊥ = cc in apart)
numbers_each P (n ∷ ns) (row ∷ rows) e each =
    let head : n.write.number ≡ row.0 = cc in
    let tail : map (λ (row : ℕ × Vec Bool Global). row.0) rows ≡ map (λ (n : Need). n.write.number) ns = cc in
    (subst P head (each n (inl refl)), numbers_each P ns rows tail (λ w i. each w (inr i)))

-- a number that is in the map has its place there
place_at : {R : Type 0} (fs : FileSystem R) (places : BTreeMap ℕ Place) → ((number : ℕ) (place : Place) → get nat_cmp places number ≡ Some place → IsPlaceOf fs number place)
    → (row : ℕ × Vec Bool Global) → is_some (get nat_cmp places row.0) ≡ true → IsPlaceOf fs row.0 (place_of_row places row)
place_at fs places found row there = go (get nat_cmp places row.0) refl there
  where
    go : (o : Option Place) → get nat_cmp places row.0 ≡ o → is_some o ≡ true → IsPlaceOf fs row.0 (unwrap_or o (record { inode = None; offset = 0 }))
    go None at none = absurd (false≢true none)
    go (Some place) at there = found row.0 place at

pub places_each : {R : Type 0} (fs : FileSystem R) (places : BTreeMap ℕ Place) → ((number : ℕ) (place : Place) → get nat_cmp places number ≡ Some place → IsPlaceOf fs number place)
    → (rows : List (ℕ × Vec Bool Global)) → AllByRecursion (λ (row : ℕ × Vec Bool Global). is_some (get nat_cmp places row.0) ≡ true) rows
    → AllZip (λ (row : ℕ × Vec Bool Global) (place : Place). IsPlaceOf fs row.0 place) rows (map (place_of_row places) rows)
places_each fs places found [] there = tt
places_each fs places found (row ∷ rows) there = (place_at fs places found row there.0, places_each fs places found rows there.1)
