-- Copies of files, and what definitions say of a fork.
use Rattle.std.proofs.Common.{◌≡◌, ◌<◌, ℕ, Bool, true, false, List, [], ◌∷◌, length, map, Option, Some, None, Vec, Global, refl, sym, subst, ap, ap₂, ◌∙◌}
use Rattle.std.specs.List.{All}
use Rattle.std.specs.Prelude.{is_some, option_and_then, option_map, if◌then◌else◌, unwrap_or}
use Rattle.std.specs.BTreeMap.{BTreeMap, IsClone, IsUnchanged, get, is_at}
use Rattle.std.specs.Map.{lookup}
use Rattle.std.specs.Ordering.{nat_cmp, is_eq}
use Rattle.std.proofs.lemmas.Map.Entries.{lookup_clone}
use Rattle.blob_directory.specs.Copies.{AreCopies}
use Rattle.blob_directory.specs.Counts.{NamedAtMost}
use Rattle.blob_directory.specs.Names.{Names}
use Rattle.blob_directory.specs.Records.{Found}
use Rattle.blob_directory.specs.declared.edit.Kind.{Kind}
use Rattle.blob_directory.specs.declared.edit.Kind.TheVariants.{Directory}
use Rattle.blob_directory.specs.declared.edit.Kind.TheVariants as kinds
use Rattle.blob_directory.specs.declared.unsettled.Unsettled.{Unsettled}
use Rattle.blob_faulty.specs.Wrapper.{size_of}
use Rattle.blob_journal.specs.declared.journaled.Journaled.{Journaled}
use Rattle.blob_journal.specs.Blobs.{bytes_of}
use Rattle.blob_journal.specs.Fixed.{KeepsOpen}
use Rattle.blob_journal.specs.Forks as journal
use Rattle.blob_journal.specs.Journals.{FindsKept as finds_kept}
use Rattle.blob_journal.specs.Keeping.{FindsTold as finds_told}
use Rattle.blob_journal.specs.Settling.{FindsKeptEdits, unsettled_of}
use Rattle.blob_journal.specs.Writes.{SameCrashes}
use Rattle.blob_fs.specs.declared.crash.Crash.{Crash}
use Rattle.blob_fs.specs.declared.file_system.File.{File}
use Rattle.blob_fs.specs.declared.file_system.FileSystem.{FileSystem}
use Rattle.blob_fs.specs.declared.file_system.Options.{Options}
use Rattle.blob_fs.specs.declared.truncation.Kept.{Kept}
use Rattle.blob_fs.specs.declared.truncation.Truncation.{Truncation}
use Rattle.blob_fs.specs.Bytes.{FindsFile, HasBytes, bytes_found, bytes_left, bytes_read, crashed_file, cut_bytes, file_in, found_of, kept_by, left_of, lost_by}
use Rattle.blob_fs.specs.Files.{file_of, keeps_of, journaled_of, names_of, shown}
use Rattle.blob_fs.specs.Fixed.{KeepsFixed}
use Rattle.blob_fs.specs.Forks.{CrashesSame, IsCopy, IsCopyIn, IsFork, LooksSame}
use Rattle.blob_fs.specs.Named.{AllNamed, links_in, links_of}
use Rattle.blob_fs.specs.Noted.{size_in, size_read}
use Rattle.blob_fs.specs.Open.{AllOpen}
use Rattle.blob_fs.specs.Tracked.{IsTracked, freed_in, freed_of}
use Rattle.blob_fs.specs.Truncations.{cut_start, lost_of, truncated}

some_same : {T : Type 0} {a b : T} → Some a ≡ Some b → a ≡ b
some_same e = cc

-- Copies of files.

pub copied_in : (m n : BTreeMap ℕ File) → IsClone (λ x y. y ≡ x) IsCopy m n → (inode : ℕ) → IsCopyIn (get nat_cmp m inode) (get nat_cmp n inode)
copied_in m n h inode = lookup_clone (λ x y. y ≡ x) IsCopy (is_at (nat_cmp inode)) (λ x y c. ap (λ k. is_eq (nat_cmp inode k)) c) m.entries n.entries h

links_copied : (a b : Option File) → IsCopyIn a b → links_in b ≡ links_in a
links_copied None b e = ap links_in e
links_copied (Some f) None e = absurd e
links_copied (Some f) (Some g) e = ap links_of e.is

freed_copied : (a b : Option File) → IsCopyIn a b → freed_in b ≡ freed_in a
freed_copied None b e = ap freed_in e
freed_copied (Some f) None e = absurd e
freed_copied (Some f) (Some g) e = ap freed_of e.is

there_copied : (a b : Option File) → IsCopyIn a b → is_some b ≡ is_some a
there_copied None b e = ap is_some e
there_copied (Some f) None e = absurd e
there_copied (Some f) (Some g) e = refl

-- the file that one is a copy of
pub record CopyOf (a : Option File) (copy : File) : Type 0 where
  pub file : File
  pub there : a ≡ Some file
  pub is : IsCopy file copy

pub copy_from : (a b : Option File) (g : File) → IsCopyIn a b → b ≡ Some g → CopyOf a g
copy_from None b g e at = let none : None ≡ Some g = sym e ∙ at in absurd (cc)
copy_from (Some f) None g e at = absurd e
copy_from (Some f) (Some h) g e at = record { file = f; there = refl; is = subst (λ (x : File). IsCopy f x) (some_same at) e }

-- The invariants.

module _ {R : Type 0} (j fork : Journaled R) (files copies : BTreeMap ℕ File) (same : (inode : ℕ) → IsCopyIn (get nat_cmp files inode) (get nat_cmp copies inode)) where
  pub open_forked : journal.CopyIsOpen R → KeepsOpen j fork → AllOpen j files → AllOpen fork copies
  open_forked law keeps all inode copy below at =
      let of = copy_from (get nat_cmp files inode) (get nat_cmp copies inode) copy (same inode) at in
      law fork inode of.file.blob copy.blob of.is.blob (keeps.still inode of.file.blob (all inode of.file below of.there))

  pub named_forked : (names names' : Names) → names' ≡ names → AllNamed names files → AllNamed names' copies
  named_forked names names' bound all inode =
      subst (λ (n : Names). NamedAtMost n inode (links_in (get nat_cmp copies inode))) (sym bound)
      (subst (λ (k : ℕ). NamedAtMost names inode k) (sym (links_copied (get nat_cmp files inode) (get nat_cmp copies inode) (same inode))) (all inode))

  tracked_copied : (told : List Found) (names : Names) → IsTracked told names files → IsTracked told names copies
  tracked_copied told names t = record {
    within = t.within;
    found = λ inode may. there_copied (get nat_cmp files inode) (get nat_cmp copies inode) (same inode) ∙ t.found inode may;
    freed = λ inode limit at. t.freed inode limit (sym (freed_copied (get nat_cmp files inode) (get nat_cmp copies inode) (same inode)) ∙ at);
  }

  pub tracked_forked : (told told' : List Found) (names names' : Names) → told' ≡ told → names' ≡ names → IsTracked told names files → IsTracked told' names' copies
  tracked_forked told told' names names' say bound t =
      subst (λ (l : List Found). IsTracked l names' copies) (sym say) (subst (λ (n : Names). IsTracked told n copies) (sym bound) (tracked_copied told names t))

-- What calls see.

shown_alike : (p q : Bool) (f g : File) → q ≡ p → IsCopy f g → IsCopyIn (if p then None else Some f) (if q then None else Some g)
shown_alike true true f g e c = refl
shown_alike true false f g e c = absurd (cc)
shown_alike false true f g e c = absurd (cc)
shown_alike false false f g e c = c

pub shown_copied : (a b : Option File) → IsCopyIn a b → IsCopyIn (option_and_then shown a) (option_and_then shown b)
shown_copied None b e = ap (option_and_then shown) e
shown_copied (Some f) None e = absurd e
shown_copied (Some f) (Some g) e = shown_alike f.is_gone g.is_gone f g (ap (λ (x : File). x.is_gone) e.is) e

module _ (sees : journal.CopySees) where
  bytes_alike : (a b : Option (Vec ℕ Global)) (x y : List ℕ) → option_map (λ v. v.items) b ≡ option_map (λ v. v.items) a → y ≡ x
      → ◌≡◌ {A = List ℕ} (elim b [ None ↦ y | Some v ↦ v.items ]) (elim a [ None ↦ x | Some v ↦ v.items ])
  bytes_alike None None x y h e = e
  bytes_alike None (Some w) x y h e = absurd (cc)
  bytes_alike (Some v) None x y h e = absurd (cc)
  bytes_alike (Some v) (Some w) x y h e = some_same h

  pub read_copied : (f g : File) → IsCopy f g → bytes_read g ≡ bytes_read f
  read_copied f g c = bytes_alike f.shown g.shown (bytes_of f.blob) (bytes_of g.blob) c.shown (sees f.blob g.blob c.blob)

  pub read_in : (a b : Option File) → IsCopyIn a b → option_map bytes_read b ≡ option_map bytes_read a
  read_in None b e = ap (option_map bytes_read) e
  read_in (Some f) None e = absurd e
  read_in (Some f) (Some g) e = ap Some (read_copied f g e)

  -- after a crash
  pub left_copied : (cuts : Bool) (lost : List ℕ) (a b : Option File) (found : List ℕ) → IsCopyIn a b → left_of cuts lost b found ≡ left_of cuts lost a found
  left_copied cuts lost None b found e = ap (λ (x : Option File). left_of cuts lost x found) e
  left_copied cuts lost (Some f) None found e = absurd e
  left_copied cuts lost (Some f) (Some g) found e =
      ap₂ (λ (start : ℕ) (seen : List ℕ). cut_bytes cuts start seen found)
      (ap₂ (λ (synced : ℕ) (ts : List Truncation). cut_start lost synced ts) (ap (λ (x : File). x.synced) e.is) e.truncations)
      (sees f.blob g.blob e.blob)

sizes_alike : (a b : Option (Vec ℕ Global)) (x y : ℕ) → option_map (λ v. v.items) b ≡ option_map (λ v. v.items) a → y ≡ x
    → ◌≡◌ {A = ℕ} (elim b [ None ↦ y | Some v ↦ length v.items ]) (elim a [ None ↦ x | Some v ↦ length v.items ])
sizes_alike None None x y h e = e
sizes_alike None (Some w) x y h e = absurd (cc)
sizes_alike (Some v) None x y h e = absurd (cc)
sizes_alike (Some v) (Some w) x y h e = ap length (some_same h)

abbrev size_or : Option File → ℕ
size_or None = 0
size_or (Some f) = size_read f

pub size_copied : (a b : Option File) → IsCopyIn a b → size_or b ≡ size_or a
size_copied None b e = ap size_or e
size_copied (Some f) None e = absurd e
size_copied (Some f) (Some g) e = sizes_alike f.shown g.shown (size_of f.blob.blob) (size_of g.blob.blob) e.shown e.blob.size

size_seen : (a : Option File) → ◌≡◌ {A = ℕ} (elim a [ None ↦ 0 | Some f ↦ size_read f ]) (size_or a)
size_seen None = refl
size_seen (Some f) = refl

pub found_copied : (kept : Kept) (lost : List ℕ) (inode : ℕ) (a b : Option File) (left : List ℕ) → IsCopyIn a b → found_of kept lost inode b left ≡ found_of kept lost inode a left
found_copied kept lost inode None b left e = ap (λ (x : Option File). found_of kept lost inode x left) e
found_copied kept lost inode (Some f) None left e = absurd e
found_copied kept lost inode (Some f) (Some g) left e = ap (λ (ts : List Truncation). truncated kept lost inode ts left) e.truncations

kinds_copied : (a b : Option File) → IsCopyIn a b → option_map (λ (f : File). kinds.File) b ≡ option_map (λ (f : File). kinds.File) a
kinds_copied None b e = ap (option_map (λ (f : File). kinds.File)) e
kinds_copied (Some f) None e = absurd e
kinds_copied (Some f) (Some g) e = refl

-- a map with the same entries
pub got_same : {X : Type 0} (m n : BTreeMap ℕ X) → IsUnchanged m n → (k : ℕ) → get nat_cmp n k ≡ get nat_cmp m k
got_same m n same k = ap (λ es. lookup (is_at (nat_cmp k)) es) same

module _ {R : Type 0} (fs fork : FileSystem R) (h : IsFork fs fork) (sees : journal.CopySees) where
  file_copied : (inode : ℕ) → IsCopyIn (file_of fs inode) (file_of fork inode)
  file_copied inode = shown_copied (file_in fs inode) (file_in fork inode) (h.files inode)

  size_of_number : (inode : ℕ) → size_in fork inode ≡ size_in fs inode
  size_of_number inode = size_seen (file_of fork inode) ∙ size_copied (file_of fs inode) (file_of fork inode) (file_copied inode) ∙ sym (size_seen (file_of fs inode))

  pub looks_forked : LooksSame fs fork
  looks_forked = record {
    names = h.store.names;
    kinds = λ inode. ap₂ (λ (b : Bool) (k : Option Kind). if b then Some Directory else k)
        (ap is_some (got_same fs.directories fork.directories h.directories inode)) (kinds_copied (file_of fs inode) (file_of fork inode) (file_copied inode));
    links = λ inode. links_copied (file_in fs inode) (file_in fork inode) (h.files inode);
    opened = λ file. got_same fs.opens fork.opens h.opens file.number;
    sizes = λ inode. size_of_number inode;
    bytes = λ inode. read_in sees (file_of fs inode) (file_of fork inode) (file_copied inode);
  }

  pub fixed_forked : journal.CopyIsFixed R → KeepsOpen (journaled_of fs) (journaled_of fork) → KeepsFixed fs fork
  fixed_forked law keeps inode at byte below is = record {
    numbered = subst (λ (n : ℕ). inode < n) (sym h.number) is.numbered;
    synced = λ copy there.
        let of = copy_from (file_in fs inode) (file_in fork inode) copy (h.files inode) there in
        let was = is.synced of.file of.there in
        record {
          below = subst (λ (n : ℕ). at < n) (sym (ap (λ (x : File). x.synced) of.is.is)) was.below;
          uncut = subst (λ (ts : List Truncation). All (λ t. at < t.length) ts) (sym of.is.truncations) was.uncut;
        };
    fixed = λ copy there.
        let of = copy_from (file_in fs inode) (file_in fork inode) copy (h.files inode) there in
        law (journaled_of fork) of.file.blob copy.blob at byte of.is.blob (keeps.fixed of.file.blob at byte (is.fixed of.file of.there));
  }

-- What a crash leaves.

numbers_copied : (es xs : List Unsettled) → AreCopies es xs → map (λ (e : Unsettled). e.number) xs ≡ map (λ (e : Unsettled). e.number) es
numbers_copied [] [] h = refl
numbers_copied [] (x ∷ xs) h = absurd h
numbers_copied (e ∷ es) [] h = absurd h
numbers_copied (e ∷ es) (x ∷ xs) h = ap₂ (λ (n : ℕ) (ns : List ℕ). n ∷ ns) (ap (λ (u : Unsettled). u.number) h.0.1) (numbers_copied es xs h.1)

finds_file : {R : Type 0} (a b : FileSystem R) (kept kept' : Kept) (lost lost' : List ℕ) (left left' : Option (List ℕ)) (inode : ℕ) (fs' : FileSystem R) → left' ≡ left
    → ((x : List ℕ) → bytes_found b kept' lost' inode x ≡ bytes_found a kept lost inode x) → ((x : List ℕ) → bytes_left b lost' inode x ≡ bytes_left a lost inode x)
    → FindsFile a kept lost left inode fs' → FindsFile b kept' lost' left' inode fs'
finds_file a b kept kept' lost lost' left left' inode fs' same found cut f = record {
  bytes = f.bytes;
  was = same ∙ f.was;
  has = subst (λ (x : List ℕ). HasBytes fs' inode x (bytes_left b lost' inode x)) (sym (found f.bytes))
      (subst (λ (x : List ℕ). HasBytes fs' inode (bytes_found a kept lost inode f.bytes) x) (sym (cut (bytes_found a kept lost inode f.bytes))) f.has);
}

module _ {R : Type 0} (fs fork : FileSystem R) (h : IsFork fs fork) (sees : journal.CopySees) (finds : journal.FindsSame (journaled_of fs) (journaled_of fork))
    (crashes : SameCrashes (journaled_of fs) (journaled_of fork)) where
  kept_same : (crash : Crash) → kept_by fork crash ≡ kept_by fs crash
  kept_same crash = ap (λ (k : Option Kept). unwrap_or k (record { rows = crash.rows; places = crash.places })) h.kept

  lost_same : (crash : Crash) → lost_by fork crash ≡ lost_by fs crash
  lost_same crash = ap (λ (ns : List ℕ). lost_of ns crash.edits.items) (numbers_copied (unsettled_of (journaled_of fs)) (unsettled_of (journaled_of fork)) h.store.unsettled)

  found_same : (crash : Crash) (inode : ℕ) (x : List ℕ) → bytes_found fork (kept_by fork crash) (lost_by fork crash) inode x ≡ bytes_found fs (kept_by fs crash) (lost_by fs crash) inode x
  found_same crash inode x =
      ap₂ (λ (k : Kept) (l : List ℕ). found_of k l inode (file_in fork inode) x) (kept_same crash) (lost_same crash)
      ∙ found_copied (kept_by fs crash) (lost_by fs crash) inode (file_in fs inode) (file_in fork inode) x (h.files inode)

  cut_same : (crash : Crash) (inode : ℕ) (x : List ℕ) → bytes_left fork (lost_by fork crash) inode x ≡ bytes_left fs (lost_by fs crash) inode x
  cut_same crash inode x =
      ap₂ (λ (o : Options) (l : List ℕ). left_of o.profile.cuts l (file_in fork inode) x) h.options (lost_same crash)
      ∙ left_copied sees fs.options.profile.cuts (lost_by fs crash) (file_in fs inode) (file_in fork inode) x (h.files inode)

  pub crashes_forked : CrashesSame fs fork
  crashes_forked = record {
    names = λ kept fs'. (
      λ f. subst (λ (o : Options). finds_kept (journaled_of fork) kept o.profile.keeps (names_of fs')) (sym h.options) ((finds.kept kept (keeps_of fs) (names_of fs')).0 f),
      λ f. (finds.kept kept (keeps_of fs) (names_of fs')).1 (subst (λ (o : Options). finds_kept (journaled_of fork) kept o.profile.keeps (names_of fs')) h.options f),
    );
    told = λ fs'. (
      λ f. subst (λ (o : Options). finds_told (journaled_of fork) o.profile.keeps (names_of fs')) (sym h.options) ((finds.told (keeps_of fs) (names_of fs')).0 f),
      λ f. (finds.told (keeps_of fs) (names_of fs')).1 (subst (λ (o : Options). finds_told (journaled_of fork) o.profile.keeps (names_of fs')) h.options f),
    );
    edits = λ crash. (
      λ f. subst (λ (o : Options). FindsKeptEdits (journaled_of fork) crash.rows o.profile.keeps crash.edits.items) (sym h.options) ((finds.edits crash.rows (keeps_of fs) crash.edits.items).0 f),
      λ f. (finds.edits crash.rows (keeps_of fs) crash.edits.items).1 (subst (λ (o : Options). FindsKeptEdits (journaled_of fork) crash.rows o.profile.keeps crash.edits.items) h.options f),
    );
    bytes = λ crash fs'. (
      λ f name inode below bound. finds_file fs fork (kept_by fs crash) (kept_by fork crash) (lost_by fs crash) (lost_by fork crash) (crashed_file fs crash.rows inode) (crashed_file fork crash.rows inode) inode fs'
          (crashes.left inode crash.rows) (found_same crash inode) (cut_same crash inode) (f name inode below bound),
      λ f name inode below bound. finds_file fork fs (kept_by fork crash) (kept_by fs crash) (lost_by fork crash) (lost_by fs crash) (crashed_file fork crash.rows inode) (crashed_file fs crash.rows inode) inode fs'
          (sym (crashes.left inode crash.rows)) (λ x. sym (found_same crash inode x)) (λ x. sym (cut_same crash inode x)) (f name inode below bound),
    );
  }
