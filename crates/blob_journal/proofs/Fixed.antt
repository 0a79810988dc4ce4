-- Open files, and the bytes of them that no crash changes, through the calls of a store.
use Rattle.std.proofs.Common.{◌≡◌, ◌&&◌, ◌<◌, ◌≤◌, ◌^◌, ◌⊎◌, ◌+◌, ◌-◌, ⊎_elim, inl, inr, min, ℕ, List, Bool, true, false, length, get_or, take, Option, Some, None, is_some, refl, sym, ap, ap₂, subst, ◌∙◌, arith}
use Rattle.std.proofs.Math.Logic.{∥∥₁_elim, ∥∥₁_map}
use Rattle.std.specs.Coded.{Coded-set, coded_bool}
use Rattle.std.specs.Prelude.{codes, nat_eq, nat_lt, option_and_then, option_map}
use Rattle.std.specs.Str.{bytes_eq}
use Rattle.std.specs.Cmp.Lexicographic.{bytes_decides}
use Rattle.std.proofs.lemmas.Bool.{and_from, and_parts, eq-eqb, eqb-true, false≢true, lt-ltb, ltb-true}
use Rattle.std.proofs.lemmas.List.{get_or-take, length-take, take_all}
use Rattle.blob_header.specs.declared.layout.Layout.{Layout}
use Rattle.blob_header.specs.Refusals.{Refusal}
use Rattle.blob_header.specs.Versions.{is_in_range}
use Rattle.blob_model.specs.Bytes.{lies, overlay_by, resize}
use Rattle.blob_model.specs.Directory.{Directory, File, Incarnation, current, is_current, place_in}
use Rattle.blob_model.specs.Opening.{Begins, Begun, Continued, IsOpened, opening}
use Rattle.blob_model.specs.Persistence.{HasByte}
use Rattle.blob_model.specs.Places.{Place, same_place}
use Rattle.blob_model.proofs.Bytes.{at_other, at_resized, length-overlay_by, length-resized, lies_below, lies_past}
use Rattle.blob_model.proofs.FileSteps.{durable_is}
use Rattle.blob_memory.specs.Laws.{current_below_next, currents}
use Rattle.blob_memory.specs.Store.{directory, durable, live, place}
use Rattle.blob_memory.specs.declared.storage.Storage as memory
use Rattle.blob_faulty.specs.Keeps.{OverMemory}
use Rattle.blob_faulty.specs.Leaves.{Test}
use Rattle.blob_faulty.specs.Wrapper.{inner_of, inside, size_of}
use Rattle.blob_journal.specs.declared.journaled.Journaled.{Journaled}
use Rattle.blob_journal.specs.declared.store.FileBlob.{FileBlob}
use Rattle.blob_journal.specs.Blobs.{DurableIsOpen, IsCurrent, IsOpen, OpenIsFound, OpenIsSeen, bytes_of, file_name}
use Rattle.blob_journal.specs.Currents.{FindsNoMore, FindsNoMoreBeside, FindsNoMoreBut, FindsOnly, IsGiven, Represents}
use Rattle.blob_journal.specs.Fixed.{ChangesOpen, FixedIsFound, FixesOpen, HasFixed, IsBeside, KeepsHandles, KeepsOpen, KeepsOpenBut, ReopensFile, has_byte}
use Rattle.blob_journal.specs.Incarnations.{IsIncarnation, KeepsIncarnations, KeepsOtherBlobs, SameBlob}
use Rattle.blob_journal.specs.Journals.{store_of}
use Rattle.blob_journal.proofs.Blobs.{file_beside, file_names_apart, named_apart}
use Rattle.blob_journal.proofs.Currents.{decided, named_current, other_file}

some_same : {T : Type 0} {a b : T} → Some a ≡ Some b → a ≡ b
some_same e = cc

-- Incarnations.

-- the same directory has the same ones
pub incarnations_same : {R : Type 0} (before after : OverMemory R) → directory (inner_of after) ≡ directory (inner_of before) → KeepsIncarnations before after
incarnations_same before after same = λ p n o is. record { number = is.number; layout = is.layout; file = ap (λ (d : Directory). d.file p n) same ∙ is.file; is = is.is }

pub incarnations_twice : {R : Type 0} (a b c : OverMemory R) → KeepsIncarnations a b → KeepsIncarnations b c → KeepsIncarnations a c
incarnations_twice a b c f g = λ p n o is. g p n o (f p n o is)

-- a name whose blob is the same
pub incarnation_stays : {R : Type 0} (p n : List ℕ) (before after : OverMemory R) (o : Place) → SameBlob p n before after → IsIncarnation before p n o → IsIncarnation after p n o
incarnation_stays p n before after o same is = record { number = is.number; layout = is.layout; file = same.file ∙ is.file; is = is.is }

-- an open begins no incarnation of a name that has one of version 0
begun_alone : (p n : List ℕ) (file : Option File) (layout : Layout) (version : ℕ) (live : List ℕ) (k : ℕ) (l : Layout) → opening p n file 0 0 ≡ Begins layout version live → file ≡ Some (Incarnation k l 0) → ⊥
begun_alone p n file layout version live k l e same =
    decided (is_in_range 0 0 0) k l 0 (Refusal.BlobVersionMismatch 0 0 0) layout version live (ap (λ (f : Option File). opening p n f 0 0) (sym same) ∙ e)

-- so it keeps each
pub opened_incarnations : {R : Type 0} (before after : OverMemory R) (p n : List ℕ) (o : Place) (live : List ℕ) (version : ℕ)
    → IsOpened (directory (inner_of before)) (durable (inner_of before)) (directory (inner_of after)) (durable (inner_of after)) p n 0 0 o live version → KeepsIncarnations before after
opened_incarnations before after p n o live version (Continued number layout found is here same unchanged) = incarnations_same before after same
opened_incarnations before after p n o live version (Begun layout found is made unchanged) = λ q m a there.
    let d = directory (inner_of before) in
    let apart : bytes_eq p q ≡ true → bytes_eq n m ≡ true → ⊥ = λ y z.
    begun_alone p n (d.file p n) layout version live there.number there.layout found
    (ap₂ (λ x w. d.file x w) ((bytes_decides p q).0 y) ((bytes_decides n m).0 z) ∙ there.file) in
    record {
      number = there.number;
      layout = there.layout;
      file = ap (λ (x : Directory). x.file q m) made ∙ other_file d.file p n q m (Some (Incarnation d.next layout version)) apart ∙ there.file;
      is = there.is;
    }

-- the incarnation of a name is current
pub current_of : {R : Type 0} (store : OverMemory R) (p n : List ℕ) (o : Place) → IsIncarnation store p n o → current (directory (inner_of store)) p n ≡ Some o
current_of store p n o is = ap (λ (f : Option File). place_in p n f) is.file ∙ ap (λ (a : Place). let x : Option Place = Some a in x) (sym is.is)

pub incarnation_here : {R : Type 0} (store : OverMemory R) (p n : List ℕ) (o : Place) → IsIncarnation store p n o → is_current (directory (inner_of store)) o ≡ true
incarnation_here store p n o is = named_current (directory (inner_of store)) p n o (current_of store p n o is)

-- a name has one
incarnation_one : {R : Type 0} (store : OverMemory R) (p n : List ℕ) (a b : Place) → IsIncarnation store p n a → IsIncarnation store p n b → a ≡ b
incarnation_one store p n a b one two = some_same (sym (current_of store p n a one) ∙ current_of store p n b two)

-- its number was given
pub current_given : {R : Type 0} (store : OverMemory R) (o : Place) → is_current (directory (inner_of store)) o ≡ true → IsGiven store o
current_given store o now = current_below_next (inner_of store).contents o now

-- and it has durable bytes
some_of : (x : Option (List ℕ)) → is_some x ≡ true → (bytes : List ℕ) × (x ≡ Some bytes)
some_of None e = absurd (false≢true e)
some_of (Some bytes) e = (bytes, refl)

has_durable : (s : memory.Storage) (o : Place) → is_current (directory s) o ≡ true → (bytes : List ℕ) × (durable s o ≡ Some bytes)
has_durable s o now = some_of (durable s o) (currents s.contents o ∙ now)

-- Open files.

pub is_open : {R : Type 0} (j : Journaled R) (inode : ℕ) (file : FileBlob) → IsCurrent j inode file → size_of file.blob ≡ length (live (inside file.blob)) → IsOpen j inode file
is_open j inode file is tracked =
    let o = place (inside file.blob) in
    let found = has_durable (inner_of (store_of j)) o (incarnation_here (store_of j) (codes "f") (file_name inode) o is) in
    record { durable = found.0; is = record { current = is; durable = found.1 }; tracked = tracked }

pub open_is_seen : (R : Type 0) → OpenIsSeen R
open_is_seen R j inode file is =
    let x = live (inside file.blob) in
    let all : bytes_of file ≡ x = ap (λ (n : ℕ). take n x) is.tracked ∙ take_all (length x) x (omega arith) in
    record { live = sym all; size = is.tracked ∙ ap (λ (l : List ℕ). length l) (sym all) }

pub durable_is_open : (R : Type 0) → DurableIsOpen R
durable_is_open R j inode file bytes h = record { durable = bytes; is = h.is; tracked = h.seen.size ∙ ap (λ (l : List ℕ). length l) (sym h.seen.live) }

-- a call that keeps incarnations, and of the blobs of files finds no more
pub keeps_open : {R : Type 0} (j j' : Journaled R) → ((n : List ℕ) (o : Place) → IsIncarnation (store_of j) (codes "f") n o → IsIncarnation (store_of j') (codes "f") n o)
    → ((o : Place) (test : Test) → o.partition ≡ codes "f" → FindsOnly (store_of j) o test → FindsOnly (store_of j') o test) → KeepsOpen j j'
keeps_open j j' names finds = record {
  still = λ inode file is. is_open j' inode file (names (file_name inode) (place (inside file.blob)) is.is.current) is.tracked;
  fixed = λ file at byte h. record { seen = h.seen; found = ∥∥₁_map h.found (λ k. finds (place (inside file.blob)) (has_byte at byte) file.partition k) };
}

-- what is open, by the store alone
open_over : {R : Type 0} (j j' : Journaled R) (inode : ℕ) (file : FileBlob) → store_of j' ≡ store_of j → IsOpen j inode file → IsOpen j' inode file
open_over {R} j j' inode file same is = is_open j' inode file
    (subst (λ (s : OverMemory R). IsIncarnation s (codes "f") (file_name inode) (place (inside file.blob))) (sym same) is.is.current) is.tracked

fixed_over : {R : Type 0} (j j' : Journaled R) (file : FileBlob) (at byte : ℕ) → store_of j' ≡ store_of j → HasFixed j file at byte → HasFixed j' file at byte
fixed_over {R} j j' file at byte same h = record {
  seen = h.seen;
  found = ∥∥₁_map h.found (λ k. subst (λ (s : OverMemory R). FindsOnly s (place (inside file.blob)) (has_byte at byte)) (sym same) k);
}

-- a call, and others before it and after it that leave the store as it is
pub keeps_between : {R : Type 0} (a b c d : Journaled R) → store_of b ≡ store_of a → store_of d ≡ store_of c → KeepsOpen b c → KeepsOpen a d
keeps_between a b c d before after keeps = record {
  still = λ inode file is. open_over c d inode file after (keeps.still inode file (open_over a b inode file before is));
  fixed = λ file at byte h. fixed_over c d file at byte after (keeps.fixed file at byte (fixed_over a b file at byte before h));
}

pub same_open : {R : Type 0} (j : Journaled R) → KeepsOpen j j
same_open j = record { still = λ inode file is. is; fixed = λ file at byte h. h }

-- a call that leaves the directory as it is
pub same_handles : {R : Type 0} (j j' : Journaled R) → directory (inner_of (store_of j')) ≡ directory (inner_of (store_of j)) → KeepsHandles j j'
same_handles j j' same inode file is = is_open j' inode file (incarnations_same (store_of j) (store_of j') same (codes "f") (file_name inode) (place (inside file.blob)) is.is.current) is.tracked

-- a call on the blob of a name
pub keeps_beside : {R : Type 0} (j j' : Journaled R) (inode : ℕ) → inode < 2 ^ 64 → KeepsOtherBlobs (codes "f") (file_name inode) (store_of j) (store_of j')
    → FindsNoMoreBeside (codes "f") (file_name inode) (store_of j) (store_of j') → KeepsOpenBut inode j j'
keeps_beside j j' inode below others finds = record {
  still = λ other file low apart is.
      let o = place (inside file.blob) in
      let same : SameBlob (codes "f") (file_name other) (store_of j) (store_of j') = file_beside (store_of j) (store_of j') inode other below low apart others in
      is_open j' other file (incarnation_stays (codes "f") (file_name other) (store_of j) (store_of j') o same is.is.current) is.tracked;
  fixed = λ other file at byte low apart is h.
      let o = place (inside file.blob) in
      let there = is.is.current.is in
      let beside : (bytes_eq (codes "f") o.partition && bytes_eq (file_name inode) o.name) ≡ false =
      ap₂ (λ p n. bytes_eq (codes "f") p && bytes_eq (file_name inode) n) (ap (λ (x : Place). x.partition) there) (ap (λ (x : Place). x.name) there) ∙ file_names_apart inode other below low apart in
      record { seen = h.seen; found = ∥∥₁_map h.found (λ k. finds o (has_byte at byte) beside k) };
}

-- a call on an open file
pub others_open : {R : Type 0} (j j' : Journaled R) (inode : ℕ) (file : FileBlob) → inode < 2 ^ 64 → IsOpen j inode file → KeepsIncarnations (store_of j) (store_of j')
    → ((o : Place) (test : Test) → same_place (place (inside file.blob)) o ≡ false → FindsOnly (store_of j) o test → FindsOnly (store_of j') o test) → KeepsOpenBut inode j j'
others_open j j' inode file below is names finds = record {
  still = λ other f low apart is'. is_open j' other f (names (codes "f") (file_name other) (place (inside f.blob)) is'.is.current) is'.tracked;
  fixed = λ other f at byte low apart is' h.
      let a = is.is.current.is in
      let o = is'.is.current.is in
      let beside : same_place (place (inside file.blob)) (place (inside f.blob)) ≡ false =
      named_apart (codes "f") (file_name inode) (codes "f") (file_name other) (place (inside file.blob)) (place (inside f.blob))
      (ap (λ (x : Place). x.partition) a) (ap (λ (x : Place). x.name) a) (ap (λ (x : Place). x.partition) o) (ap (λ (x : Place). x.name) o)
      (file_names_apart inode other below low apart) in
      record { seen = h.seen; found = ∥∥₁_map h.found (λ k. finds (place (inside f.blob)) (has_byte at byte) beside k) };
}

-- one call after another on a blob
pub beside_more : {R : Type 0} (a b c : OverMemory R) (o o' : Place) → o' ≡ o → directory (inner_of b) ≡ directory (inner_of a) → FindsNoMoreBut o a b → FindsNoMoreBut o' b c → FindsNoMoreBut o a c
beside_more a b c o o' same named one two = λ given x test other k.
    let then : IsGiven b o = subst (λ (d : Directory). o.number < d.next) (sym named) given in
    two (subst (λ (p : Place). IsGiven b p) (sym same) then) x test (ap (λ (p : Place). same_place p x) same ∙ other) (one given x test other k)

-- A byte of a file.

pub has_from : (at byte : ℕ) (x : List ℕ) → HasByte at byte x → has_byte at byte x ≡ true
has_from at byte x h = and_from (nat_lt at (length x)) (nat_eq (get_or x at 0) byte) (lt-ltb at (length x) h.0) (eq-eqb (get_or x at 0) byte h.1)

pub has_parts : (at byte : ℕ) (x : List ℕ) → has_byte at byte x ≡ true → HasByte at byte x
has_parts at byte x h =
    let both = and_parts (nat_lt at (length x)) (nat_eq (get_or x at 0) byte) h in
    (ltb-true at (length x) both.0, eqb-true (get_or x at 0) byte both.1)

-- by the size of the handle
pub seen_from : (at byte size : ℕ) (x : List ℕ) → at < size → HasByte at byte x → has_byte at byte (take size x) ≡ true
seen_from at byte size x low h = has_from at byte (take size x) (omega (arith, length-take size x, low, h.0), get_or-take size x at 0 low ∙ h.1)

pub seen_parts : (at byte size : ℕ) (x : List ℕ) → has_byte at byte (take size x) ≡ true → (at < size) × HasByte at byte x
seen_parts at byte size x h =
    let t = has_parts at byte (take size x) h in
    let low : at < size = omega (arith, length-take size x, t.0) in
    (low, (omega (arith, length-take size x, t.0), sym (get_or-take size x at 0 low) ∙ t.1))

pub beside_lies : (at offset count : ℕ) → IsBeside offset count at → lies offset count at ≡ false
beside_lies at offset count h = ⊎_elim (λ low. lies_below offset count at low) (λ past. lies_past offset count at past) h

-- some bytes of a write over others
pub overlaid_has : (at byte offset : ℕ) (bytes x : List ℕ) (chosen : ℕ → Bool) → IsBeside offset (length bytes) at → has_byte at byte x ≡ true → has_byte at byte (overlay_by x offset bytes chosen) ≡ true
overlaid_has at byte offset bytes x chosen beside h =
    let t = has_parts at byte x h in
    let out : offset ≤ at → at < offset + length bytes → chosen (at - offset) ≡ false = λ low high. ⊎_elim (λ (b : at < offset). absurd (omega (arith, b, low))) (λ (b : offset + length bytes ≤ at). absurd (omega (arith, b, high))) beside in
    has_from at byte (overlay_by x offset bytes chosen) (omega (arith, length-overlay_by x offset bytes chosen, t.0), at_other x offset bytes chosen at out ∙ t.1)

-- a cut or an extension
pub resized_has : (at byte n : ℕ) (x : List ℕ) → at < n → has_byte at byte x ≡ true → has_byte at byte (resize x n) ≡ true
resized_has at byte n x low h =
    let t = has_parts at byte x h in
    has_from at byte (resize x n) (omega (arith, length-resized x n, low), at_resized x n at low ∙ t.1)

-- each length that a resize may leave is past the position
pub reached_past : (at m n len : ℕ) → at < n → at < len → (m ≡ len) ⊎ (min n len < m) → at < m
reached_past at m n len counts low (inl e) = omega (arith, e, low)
reached_past at m n len counts low (inr l) = omega (arith, l, low, counts)

-- durable bytes pass each test that all of a blob passes
pub found_passes : {R : Type 0} (store : OverMemory R) (o : Place) (bytes : List ℕ) (test : Test) → durable (inner_of store) o ≡ Some bytes → FindsOnly store o test → test bytes ≡ true
found_passes store o bytes test is k = ap test (durable_is _ _ _ _ _ k.files o bytes is k.stands) ∙ k.durable

pub open_is_found : (R : Type 0) → OpenIsFound R
open_is_found R j inode file is =
    let here = current_of (store_of j) (codes "f") (file_name inode) (place (inside file.blob)) is.is.current in
    ap (λ (x : Option Place). option_and_then (durable (inner_of (store_of j))) x) here ∙ is.is.durable

pub fixed_is_found : (R : Type 0) → FixedIsFound R
fixed_is_found R j inode file at byte is h =
    let o = place (inside file.blob) in
    let found = open_is_found R j inode file is in
    let has : has_byte at byte is.durable ≡ true = ∥∥₁_elim h.found (Coded-set coded_bool (has_byte at byte is.durable) true) (λ k. found_passes (store_of j) o is.durable (has_byte at byte) is.is.durable k) in
    ap (option_map (has_byte at byte)) found ∙ ap (λ (b : Bool). let x : Option Bool = Some b in x) has

-- Calls on an open file.

-- the file is open again
pub reopens : {R : Type 0} (j : Journaled R) (inode : ℕ) (j' : Journaled R) (file' : FileBlob) → KeepsIncarnations (store_of j) (store_of j') → FindsNoMore (store_of j) (store_of j')
    → IsCurrent j' inode file' → durable (inner_of (store_of j')) (place (inside file'.blob)) ≡ Some (live (inside file'.blob)) → size_of file'.blob ≡ length (live (inside file'.blob)) → ReopensFile j inode j' file'
reopens {R} j inode j' file' names finds is found tracked =
    let now : IsOpen j' inode file' = is_open j' inode file' is tracked in
    let o' = place (inside file'.blob) in
    let x = live (inside file'.blob) in
    let seen = open_is_seen R j' inode file' now in
    record {
      still = now;
      fixed = λ file at byte was h.
          let o = place (inside file.blob) in
          let same : o ≡ o' = incarnation_one (store_of j') (codes "f") (file_name inode) o o' (names (codes "f") (file_name inode) o was.is.current) is in
          let still = ∥∥₁_map h.found (λ k. subst (λ (a : Place). FindsOnly (store_of j') a (has_byte at byte)) same (finds o (has_byte at byte) k)) in
          let has : has_byte at byte x ≡ true = ∥∥₁_elim still (Coded-set coded_bool (has_byte at byte x) true) (λ k. found_passes (store_of j') o' x (has_byte at byte) found k) in
          record { seen = ap (has_byte at byte) (sym seen.live) ∙ has; found = still };
    }

-- nothing has changed
pub same_change : {R : Type 0} (spares : ℕ → Type 0) (j : Journaled R) (file : FileBlob) → ChangesOpen spares j file j file
same_change spares j file = record {
  still = λ inode is. is;
  fixed = λ at byte spared h. h;
  others = λ inode below is. record { still = λ other f low apart is'. is'; fixed = λ other f at byte low apart is' h. h };
}

pub changes_open : {R : Type 0} (spares : ℕ → Type 0) (j : Journaled R) (file : FileBlob) (j' : Journaled R) (file' : FileBlob)
    → directory (inner_of (store_of j')) ≡ directory (inner_of (store_of j)) → place (inside file'.blob) ≡ place (inside file.blob)
    → (is_current (directory (inner_of (store_of j))) (place (inside file.blob)) ≡ true → size_of file.blob ≡ length (live (inside file.blob)) → size_of file'.blob ≡ length (live (inside file'.blob)))
    → ((at byte : ℕ) → spares at → has_byte at byte (bytes_of file) ≡ true → has_byte at byte (bytes_of file') ≡ true)
    → ((at byte : ℕ) → spares at → has_byte at byte (bytes_of file) ≡ true → FindsOnly (store_of j) (place (inside file.blob)) (has_byte at byte) → FindsOnly (store_of j') (place (inside file.blob)) (has_byte at byte))
    → ((o : Place) (test : Test) → same_place (place (inside file.blob)) o ≡ false → FindsOnly (store_of j) o test → FindsOnly (store_of j') o test) → ChangesOpen spares j file j' file'
changes_open spares j file j' file' same moved tracks sees finds beside =
    let o = place (inside file.blob) in
    let names : KeepsIncarnations (store_of j) (store_of j') = incarnations_same (store_of j) (store_of j') same in
    record {
      still = λ inode is. is_open j' inode file' (subst (λ (a : Place). IsIncarnation (store_of j') (codes "f") (file_name inode) a) (sym moved) (names (codes "f") (file_name inode) o is.is.current))
          (tracks (incarnation_here (store_of j) (codes "f") (file_name inode) o is.is.current) is.tracked);
      fixed = λ at byte spared h. record {
        seen = sees at byte spared h.seen;
        found = ∥∥₁_map h.found (λ k. subst (λ (a : Place). FindsOnly (store_of j') a (has_byte at byte)) (sym moved) (finds at byte spared h.seen k));
      };
      others = λ inode below is. others_open j j' inode file below is names beside;
    }

-- any test that all bytes pass
finds_all : {R : Type 0} (store : OverMemory R) (p n : List ℕ) (o : Place) → Represents store → IsIncarnation store p n o → FindsOnly store o (λ _. true)
finds_all store p n o r is =
    let there = is.is in
    record {
      files = r.0;
      stands = r.1;
      here = ap₂ (λ x y. current (directory (inner_of store)) x y) (ap (λ (a : Place). a.partition) there) (ap (λ (a : Place). a.name) there) ∙ current_of store p n o is;
      given = current_given store o (incarnation_here store p n o is);
      durable = refl;
      crash = λ t fits. refl;
    }

-- a sync
pub fixes_open : {R : Type 0} (j : Journaled R) (file : FileBlob) (j' : Journaled R) (file' : FileBlob) → ∥ Represents (store_of j) ∥₁ → place (inside file'.blob) ≡ place (inside file.blob)
    → live (inside file'.blob) ≡ live (inside file.blob) → size_of file'.blob ≡ size_of file.blob
    → ((next : Test) → next (live (inside file.blob)) ≡ true → FindsOnly (store_of j) (place (inside file.blob)) (λ _. true) → FindsOnly (store_of j') (place (inside file.blob)) next)
    → FixesOpen j file j' file'
fixes_open j file j' file' stands moved alive size finds = λ inode is at byte h.
    let o = place (inside file.blob) in
    let parts = seen_parts at byte (size_of file.blob) (live (inside file.blob)) h in
    record {
      seen = ap₂ (λ (n : ℕ) (l : List ℕ). has_byte at byte (take n l)) size alive ∙ h;
      found = ∥∥₁_map stands (λ r. subst (λ (a : Place). FindsOnly (store_of j') a (has_byte at byte)) (sym moved)
          (finds (has_byte at byte) (has_from at byte (live (inside file.blob)) parts.1) (finds_all (store_of j) (codes "f") (file_name inode) o r is.is.current)));
    }
