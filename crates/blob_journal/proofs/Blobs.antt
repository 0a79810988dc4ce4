-- The blobs of names through the calls of a store.
use Rattle.std.proofs.Common.{◌≡◌, ◌≢◌, ◌&&◌, ◌==◌, ◌<◌, ◌^◌, ◌++◌, ℕ, List, [], Bool, true, false, cond, ⊎_elim, ext_get_or, length, take, unwrap_or, Option, Some, None, Result, Ok, Err, refl, sym, ap, ap₂, ◌∙◌, arith, if◌then◌else◌}
use Rattle.std.specs.Prelude.{OnOk, codes, option_and_then}
use Rattle.std.specs.Int.{w64, from_le_bytes}
use Rattle.std.specs.Str.{bytes_eq}
use Rattle.std.specs.Cmp.Lexicographic.{bytes_decides}
use Rattle.std.proofs.lemmas.Bool.{cases_Bool, cond-false, cond-true, false≢true}
use Rattle.std.proofs.lemmas.List.{get_or-take, length-take-le, take_all}
use Rattle.std.proofs.lemmas.Nat.{from_le_bytes-to_le_bytes_8}
use Rattle.blob_header.specs.declared.layout.Layout.{Layout}
use Rattle.blob_header.specs.declared.version.BlobVersion.{BlobVersion}
use Rattle.blob_header.specs.Header.{region}
use Rattle.blob_header.specs.Parse.{Failure}
use Rattle.blob_header.specs.declared.error.Error.{Error}
use Rattle.blob_header.specs.Refusals.{Refusal, error_of}
use Rattle.blob_header.specs.Versions.{is_in_range}
use Rattle.blob_model.specs.Bytes.{resize}
use Rattle.blob_model.specs.Directory.{Directory, File, Incarnation, Raw, current, directory_without, place_in}
use Rattle.blob_model.specs.Durable.{Durable, durable_without, is_under}
use Rattle.blob_model.specs.Files.{raw_again}
use Rattle.blob_model.specs.Opening.{Begun, Continued, Continues, Declines, IsOpened, opening, opening_raw, place_of}
use Rattle.blob_model.specs.Log.{Choices}
use Rattle.blob_model.specs.Pending.{Pending}
use Rattle.blob_model.specs.Places.{Place, same_place}
use Rattle.blob_model.specs.Stands.{replayed_at}
use Rattle.blob_model.proofs.Bytes.{at_resized, length-resized}
use Rattle.blob_memory.specs.Listing.{logical_blob_of, logical_found, raw_only}
use Rattle.blob_memory.specs.Store.{directory, durable, live, place}
use Rattle.blob_memory.proofs.Copies.{behind_region}
use Rattle.blob_faulty.specs.Keeps.{OverMemory}
use Rattle.blob_faulty.specs.Wrapper.{inner_of, inside}
use Rattle.blob_journal.specs.declared.journaled.Journaled.{Journaled}
use Rattle.blob_journal.specs.declared.store.FileBlob.{FileBlob}
use Rattle.blob_journal.specs.Blobs.{CurrentStays, DurableIsFound, DurableStays, IsFileOf, ReadsSeen, ResizeShortens, SameTwice, file_name}
use Rattle.blob_journal.specs.Incarnations.{ChangesOnly, IsIncarnation, KeepsOtherBlobs, KeepsPartition, SameBlob}
use Rattle.blob_journal.specs.Journals.{store_of}

-- another name

either : {X : Type 0} (b c : Bool) (x y : X) → (b && c) ≡ false → cond b (cond c x y) y ≡ y
either true true x y e = absurd (false≢true (sym e))
either true false x y e = refl
either false c x y e = refl

one_apart : (b c d : Bool) → (b && c) ≡ false → (b && (c && d)) ≡ false
one_apart true true d e = absurd (false≢true (sym e))
one_apart true false d e = refl
one_apart false c d e = refl

-- places of different names differ
pub places_apart : (a b : Place) → (bytes_eq a.partition b.partition && bytes_eq a.name b.name) ≡ false → same_place a b ≡ false
places_apart a b e = one_apart (bytes_eq a.partition b.partition) (bytes_eq a.name b.name) (a.number == b.number && a.start == b.start) e

pub named_apart : (p n q m : List ℕ) (a o : Place) → a.partition ≡ p → a.name ≡ n → o.partition ≡ q → o.name ≡ m → (bytes_eq p q && bytes_eq n m) ≡ false → same_place a o ≡ false
named_apart p n q m a o one two three four other = places_apart a o
    (ap₂ (λ x y. bytes_eq x o.partition && bytes_eq y o.name) one two ∙ ap₂ (λ x y. bytes_eq p x && bytes_eq n y) three four ∙ other)

-- a step that changes neither the directory nor durable bytes
pub blob_same : {R : Type 0} (p n : List ℕ) (before after : OverMemory R) → directory (inner_of after) ≡ directory (inner_of before) → durable (inner_of after) ≡ durable (inner_of before) → SameBlob p n before after
blob_same p n before after names bytes = record { file = ap (λ (d : Directory). d.file p n) names; durable = λ o a b. ap (λ (f : Durable). f o) bytes }

-- nor the durable bytes of any incarnation but one, of another name
pub blob_beside : {R : Type 0} (p n : List ℕ) (before after : OverMemory R) (a : Place) → directory (inner_of after) ≡ directory (inner_of before)
    → ((o : Place) → o.partition ≡ p → o.name ≡ n → same_place a o ≡ false) → ChangesOnly a before after → SameBlob p n before after
blob_beside p n before after a names apart only = record { file = ap (λ (d : Directory). d.file p n) names; durable = λ o x y. only o (apart o x y) }

-- two steps
pub blob_twice : {R : Type 0} (p n : List ℕ) (a b c : OverMemory R) → SameBlob p n a b → SameBlob p n b c → SameBlob p n a c
blob_twice p n a b c f g = record { file = g.file ∙ f.file; durable = λ o x y. g.durable o x y ∙ f.durable o x y }

-- an accepted open
pub opened_others : {R : Type 0} (before after : OverMemory R) (p n : List ℕ) (first last : ℕ) (o : Place) (live : List ℕ) (version : ℕ)
    → IsOpened (directory (inner_of before)) (durable (inner_of before)) (directory (inner_of after)) (durable (inner_of after)) p n first last o live version → KeepsOtherBlobs p n before after
opened_others before after p n first last o live version (Continued number layout found is here same unchanged) = λ q m other. blob_same q m before after same unchanged
opened_others before after p n first last o live version (Begun layout found is made unchanged) = λ q m other. record {
  file = ap (λ (d : Directory). d.file q m) made
      ∙ either (bytes_eq p q) (bytes_eq n m) (Some (Incarnation (directory (inner_of before)).next layout version)) ((directory (inner_of before)).file q m) other;
  durable = λ a x y.
      ap (λ (f : Durable). f a) unchanged
      ∙ cond-false (same_place o a) (Some live) (durable (inner_of before) a)
      (named_apart p n q m o a (ap (λ (z : Place). z.partition) is) (ap (λ (z : Place). z.name) is) x y other);
}

-- a removal
pub removed_others : {R : Type 0} (before after : OverMemory R) (p n : List ℕ) → directory (inner_of after) ≡ directory_without (directory (inner_of before)) p (Some n)
    → durable (inner_of after) ≡ durable_without (durable (inner_of before)) p (Some n) → KeepsOtherBlobs p n before after
removed_others before after p n names bytes = λ q m other. record {
  file = ap (λ (d : Directory). d.file q m) names ∙ either (bytes_eq p q) (bytes_eq n m) None ((directory (inner_of before)).file q m) other;
  durable = λ a x y.
      ap (λ (f : Durable). f a) bytes
      ∙ cond-false (is_under p (Some n) a) None (durable (inner_of before) a) (ap₂ (λ u v. bytes_eq p u && bytes_eq n v) x y ∙ other);
}

-- the incarnation that an open of version 0 finds or begins

raw_continues : (p n raw : List ℕ) (r : Result (Option (ℕ × BlobVersion × ℕ)) Failure) (number : ℕ) (layout : Layout) (version : ℕ) → opening_raw p n raw 0 r ≡ Continues number layout version → ⊥
raw_continues p n raw (Ok None) number layout version e = cc
raw_continues p n raw (Ok (Some found)) number layout version e = cc
raw_continues p n raw (Err failure) number layout version e = cc

ranged_continues : (b : Bool) (k v : ℕ) (l : Layout) (r : Refusal) (number : ℕ) (layout : Layout) (version : ℕ)
    → (if b then Continues k l v else Declines r) ≡ Continues number layout version → Some (Incarnation k l v) ≡ Some (Incarnation number layout version)
ranged_continues true k v l r number layout version e = cc
ranged_continues false k v l r number layout version e = absurd (cc)

file_continues : (p n : List ℕ) (file : Option File) (number : ℕ) (layout : Layout) (version : ℕ) → opening p n file 0 0 ≡ Continues number layout version → file ≡ Some (Incarnation number layout version)
file_continues p n None number layout version e = absurd (cc)
file_continues p n (Some (Raw raw)) number layout version e = absurd (raw_continues p n raw _ number layout version e)
file_continues p n (Some (Incarnation k l v)) number layout version e = ranged_continues (is_in_range 0 0 v) k v l (Refusal.BlobVersionMismatch 0 0 v) number layout version e

pub opened_incarnation : {R : Type 0} (before after : OverMemory R) (p n : List ℕ) (o : Place) (live : List ℕ)
    → IsOpened (directory (inner_of before)) (durable (inner_of before)) (directory (inner_of after)) (durable (inner_of after)) p n 0 0 o live 0 → IsIncarnation after p n o
opened_incarnation before after p n o live (Continued number layout found is here same unchanged) = record {
  number = number;
  layout = layout;
  file = ap (λ (d : Directory). d.file p n) same ∙ file_continues p n ((directory (inner_of before)).file p n) number layout 0 found;
  is = is;
}
opened_incarnation before after p n o live (Begun layout found is made unchanged) = record {
  number = (directory (inner_of before)).next;
  layout = layout;
  file = ap (λ (d : Directory). d.file p n) made ∙ cond-true (bytes_eq p p) _ _ ((bytes_decides p p).1 refl) ∙ cond-true (bytes_eq n n) _ _ ((bytes_decides n n).1 refl);
  is = is;
}

-- Files by their numbers.

-- the names of two numbers differ
pub file_names_apart : (a b : ℕ) → a < 2 ^ 64 → b < 2 ^ 64 → b ≢ a → bytes_eq (file_name a) (file_name b) ≡ false
file_names_apart a b s t apart = ⊎_elim
    (λ y. absurd (apart (sym (sym (from_le_bytes-to_le_bytes_8 a s) ∙ ap (λ l. from_le_bytes w64 l) ((bytes_decides (file_name a) (file_name b)).0 y) ∙ from_le_bytes-to_le_bytes_8 b t))))
    (λ n. n)
    (cases_Bool (bytes_eq (file_name a) (file_name b)))

-- calls on other names keep the file
pub file_beside : {R : Type 0} (before after : OverMemory R) (a b : ℕ) → a < 2 ^ 64 → b < 2 ^ 64 → b ≢ a → KeepsOtherBlobs (codes "f") (file_name a) before after → SameBlob (codes "f") (file_name b) before after
file_beside before after a b s t apart keeps = keeps (codes "f") (file_name b) (file_names_apart a b s t apart)

-- so do those on journals
pub partition_beside : {R : Type 0} (before after : OverMemory R) (n : List ℕ) → KeepsOtherBlobs (codes "j") n before after → KeepsPartition (codes "f") before after
partition_beside before after n keeps = λ m. keeps (codes "f") m refl

-- a file's bytes while its blob is the same

same_current : {R : Type 0} (p n : List ℕ) (before after : OverMemory R) (f : Option File) → (directory (inner_of before)).file p n ≡ f → SameBlob p n before after
    → option_and_then (durable (inner_of after)) (place_in p n f) ≡ option_and_then (durable (inner_of before)) (place_in p n f)
same_current p n before after None e same = refl
same_current p n before after (Some (Raw raw)) e same = refl
same_current p n before after (Some (Incarnation number layout version)) e same = same.durable (place_of p n number layout) refl refl

pub current_stays : (R : Type 0) → CurrentStays R
current_stays R j j' inode same =
    let p = codes "f" in
    let n = file_name inode in
    ap (λ (f : Option File). option_and_then (durable (inner_of (store_of j'))) (place_in p n f)) same.file
    ∙ same_current p n (store_of j) (store_of j') _ refl same

pub is_file_stays : {R : Type 0} (j j' : Journaled R) (inode : ℕ) (file : FileBlob) (bytes : List ℕ) → SameBlob (codes "f") (file_name inode) (store_of j) (store_of j') → IsFileOf j inode file bytes → IsFileOf j' inode file bytes
is_file_stays j j' inode file bytes same is = record {
  current = record { number = is.current.number; layout = is.current.layout; file = same.file ∙ is.current.file; is = is.current.is };
  durable = same.durable (place (inside file.blob)) (ap (λ (o : Place). o.partition) is.current.is) (ap (λ (o : Place). o.name) is.current.is) ∙ is.durable;
}

pub durable_stays : (R : Type 0) → DurableStays R
durable_stays R j j' inode file bytes same h = record { is = is_file_stays j j' inode file bytes same h.is; seen = h.seen }

pub same_twice : (R : Type 0) → SameTwice R
same_twice R a b c inode f g = blob_twice (codes "f") (file_name inode) (store_of a) (store_of b) (store_of c) f g

-- the logical bytes of an incarnation of version 0
logical_is : (d : Directory) (b : Durable) (p n : List ℕ) (number : ℕ) (layout : Layout) (bytes : List ℕ) → d.file p n ≡ Some (Incarnation number layout 0) → b (place_of p n number layout) ≡ Some bytes
    → logical_blob_of d b p n ≡ Some bytes
logical_is d b p n number layout bytes named there =
    ap (λ (f : Option File). option_and_then logical_found (raw_only (raw_again (λ o. unwrap_or (b o) []) p n f))) named
    ∙ ap (λ (x : Option (List ℕ)). logical_found (region layout 0 ++ unwrap_or x [])) there
    ∙ behind_region layout 0 bytes (omega arith)

pub durable_is_found : (R : Type 0) → DurableIsFound R
durable_is_found R j inode file bytes h =
    let k = h.is.current in
    logical_is (directory (inner_of (store_of j))) (durable (inner_of (store_of j))) (codes "f") (file_name inode) k.number k.layout bytes k.file
    (ap (λ (o : Place). durable (inner_of (store_of j)) o) (sym k.is) ∙ h.is.durable)

pub reads_seen : ReadsSeen
reads_seen file bytes s = ap₂ (λ (n : ℕ) (l : List ℕ). take n l) s.size s.live ∙ take_all (length bytes) bytes (omega arith)

some_same : {A : Type 0} {x y : A} → Some x ≡ Some y → x ≡ y
some_same e = cc

-- the current file is found by its place
pub current_is : {R : Type 0} (store : OverMemory R) (p n : List ℕ) (bytes found : List ℕ) → ((o : Place) → current (directory (inner_of store)) p n ≡ Some o → durable (inner_of store) o ≡ Some bytes)
    → option_and_then (durable (inner_of store)) (current (directory (inner_of store)) p n) ≡ Some found → found ≡ bytes
current_is store p n bytes found each e = pick (current (directory (inner_of store)) p n) each e
  where
    pick : (x : Option Place) → ((o : Place) → x ≡ Some o → durable (inner_of store) o ≡ Some bytes) → option_and_then (durable (inner_of store)) x ≡ Some found → found ≡ bytes
    pick None each e = absurd (cc)
    pick (Some o) each e = let h : durable (inner_of store) o ≡ Some bytes = each o refl in some_same (sym e ∙ h)

-- the same for each place of a name
pub each_current : (f g : Place → Option (List ℕ)) (x : Option Place) → ((o : Place) → f o ≡ g o) → option_and_then f x ≡ option_and_then g x
each_current f g None same = refl
each_current f g (Some o) same = same o

-- a file that is made shorter
pub taken : ResizeShortens
taken x n low = ext_get_or 0 (resize x n) (take n x) (length-resized x n ∙ sym (length-take-le n x low))
    (λ i h. let below : i < n = omega (arith, h, length-resized x n) in at_resized x n i below ∙ sym (get_or-take n x i 0 below))

-- facts about a call that returned Ok
pub on_ok : {T E : Type 0} (r : Result T E) (Q : Type 0) → Q → OnOk r Q
on_ok (Ok x) Q q = q
on_ok (Err e) Q q = tt

pub on_both : {T E A B C : Type 0} (r : Result T E) → OnOk r A → OnOk r B → (A → B → C) → OnOk r C
on_both (Ok x) a b f = f a b
on_both (Err e) a b f = tt

pub by_ok : {T A B C : Type 0} (r : Result T Error) → OnOk r A → (error_of r ≡ None → B) → (A → B → C) → OnOk r C
by_ok (Ok x) a b f = f a (b refl)
by_ok (Err e) a b f = tt

-- the blob of a journal isn't that of a file
pub journal_apart : (a o : Place) → a.partition ≡ codes "j" → o.partition ≡ codes "f" → same_place a o ≡ false
journal_apart a o j f = ap₂ (λ (p q : List ℕ). bytes_eq p q && (bytes_eq a.name o.name && (a.number == o.number && a.start == o.start))) j f

-- what a crash leaves of a blob of which nothing is pending
pub crashed_is : (d : Directory) (b : Durable) (lists : Place → List Pending) (t : Choices) (p n : List ℕ) (number : ℕ) (layout : Layout) (bytes : List ℕ)
    → d.file p n ≡ Some (Incarnation number layout 0) → b (place_of p n number layout) ≡ Some bytes → lists (place_of p n number layout) ≡ []
    → option_and_then (λ o. replayed_at t (lists o) (b o)) (current d p n) ≡ Some bytes
crashed_is d b lists t p n number layout bytes named there none =
    ap (λ (f : Option File). option_and_then (λ o. replayed_at t (lists o) (b o)) (place_in p n f)) named
    ∙ ap₂ (λ (q : List Pending) (x : Option (List ℕ)). replayed_at t q x) none there
