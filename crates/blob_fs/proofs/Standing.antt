-- What a file system's invariant says of its store and its files, through a change of one of them.
use Rattle.std.proofs.Common.{◌≡◌, ◌<◌, ◌≤◌, ◌^◌, ◌∙◌, ℕ, Some}
use Rattle.std.specs.BTreeMap.{BTreeMap, WritesThrough, get}
use Rattle.std.specs.Ordering.{nat_cmp}
use Rattle.blob_directory.specs.Names.{resizes}
use Rattle.blob_journal.specs.declared.journaled.Journaled.{Journaled}
use Rattle.blob_journal.specs.Fixed.{ChangesOpen, KeepsOpen}
use Rattle.blob_journal.specs.Keeping.{AddsTold, KeepsTable, names_in, told_in}
use Rattle.blob_journal.specs.Unchanged.{KeepsContents, KeepsNamesAndEdits}
use Rattle.blob_fs.specs.declared.file_system.File.{File}
use Rattle.blob_fs.specs.declared.file_system.FileSystem.{FileSystem}
use Rattle.blob_fs.specs.Named.{AllNamed, links_of}
use Rattle.blob_fs.specs.Open.{AllOpen, SameContent}
use Rattle.blob_fs.specs.Tracked.{IsTracked, freed_of}
use Rattle.blob_fs.proofs.Fixed.{contents_through, opened_after, opened_changed, opened_none, opened_store, opened_through, sets_through}
use Rattle.blob_fs.proofs.Named.{links_set, named_after, named_none, named_store, named_through}
use Rattle.blob_fs.proofs.Tracked.{AddsOne, freed_set, tracked_after, tracked_freed, tracked_none, tracked_store, tracked_through}

abbrev pub Standing : {R : Type 0} → Journaled R → BTreeMap ℕ File → Type 0
Standing j m = record {
  opened : ∥ AllOpen j m ∥₁;
  named : ∥ AllNamed (names_in j) m ∥₁;
  tracked : ∥ IsTracked (told_in j) (names_in j) m ∥₁;
}

-- the store has changed no name, edit or open file
pub standing_store : {R : Type 0} (fs : FileSystem R) (j : Journaled R) → KeepsOpen fs.store j → KeepsNamesAndEdits fs.store j → Standing j fs.files
standing_store fs j still keeps = record {
  opened = opened_store fs.store j fs.files still fs.opened;
  named = named_store fs.store j fs.files keeps.names fs.named;
  tracked = tracked_store fs.store j fs.files keeps.names keeps.told fs.tracked;
}

-- only the generator and the fault rates have changed
pub standing_contents : {R : Type 0} (fs : FileSystem R) (j : Journaled R) → KeepsContents fs.store j → Standing j fs.files
standing_contents fs j keeps = standing_store fs j keeps.still keeps.edits

-- no file was lent
pub standing_none : {R : Type 0} (fs : FileSystem R) (m : BTreeMap ℕ File) → m ≡ fs.files → Standing fs.store m
standing_none fs m same = record {
  opened = opened_none fs.store fs.files m same fs.opened;
  named = named_none fs.store fs.files m same fs.named;
  tracked = tracked_none fs.store fs.files m same fs.tracked;
}

-- one file was lent, and has the same content, no fewer links, and is gone as it was
pub standing_through : {R : Type 0} (fs : FileSystem R) (m : BTreeMap ℕ File) (inode : ℕ) (was now : File) → Some was ≡ get nat_cmp fs.files inode → WritesThrough nat_cmp (nat_cmp inode) fs.files now m
    → SameContent was now → links_of was ≤ links_of now → freed_of now ≡ freed_of was → Standing fs.store m
standing_through fs m inode was now there lent content links gone = record {
  opened = opened_through fs.store fs.files m inode was now there lent content fs.opened;
  named = named_through fs.store fs.files m inode was now there lent links fs.named;
  tracked = tracked_through fs.store fs.files m inode was now there lent gone fs.tracked;
}

-- the same, and the store has changed no name, edit or open file
pub standing_lent : {R : Type 0} (fs : FileSystem R) (j : Journaled R) (m : BTreeMap ℕ File) (inode : ℕ) (was now : File) → Some was ≡ get nat_cmp fs.files inode → WritesThrough nat_cmp (nat_cmp inode) fs.files now m
    → SameContent was now → links_of was ≤ links_of now → freed_of now ≡ freed_of was → KeepsOpen fs.store j → KeepsNamesAndEdits fs.store j → Standing j m
standing_lent fs j m inode was now there lent content links gone still keeps =
    let sets = sets_through fs.files m inode was now there lent in
    record {
      opened = opened_after fs.store j fs.files m (contents_through fs.files m inode was now there lent content) still fs.opened;
      named = named_after fs.store j fs.files m keeps.names (links_set fs.files m inode was now there sets links) fs.named;
      tracked = tracked_after fs.store j fs.files m keeps.names keeps.told (freed_set fs.files m inode was now there sets gone) fs.tracked;
    }

-- a call has changed the blob of the file that was lent
pub standing_changed : {R : Type 0} (spares : ℕ → Type 0) (fs : FileSystem R) (j : Journaled R) (m : BTreeMap ℕ File) (inode : ℕ) (was now : File) → inode < 2 ^ 64 → Some was ≡ get nat_cmp fs.files inode
    → WritesThrough nat_cmp (nat_cmp inode) fs.files now m → ChangesOpen spares fs.store was.blob j now.blob → links_of was ≤ links_of now → freed_of now ≡ freed_of was → KeepsNamesAndEdits fs.store j → Standing j m
standing_changed spares fs j m inode was now small there lent changes links gone keeps =
    let sets = sets_through fs.files m inode was now there lent in
    record {
      opened = opened_changed spares fs.store j fs.files m inode was now small there sets changes fs.opened;
      named = named_after fs.store j fs.files m keeps.names (links_set fs.files m inode was now there sets links) fs.named;
      tracked = tracked_after fs.store j fs.files m keeps.names keeps.told (freed_set fs.files m inode was now there sets gone) fs.tracked;
    }

-- the same after the edit of a truncation
pub standing_truncated : {R : Type 0} (laws : AddsOne) (fs : FileSystem R) (mid j : Journaled R) (m : BTreeMap ℕ File) (inode : ℕ) (was now : File) (spares : ℕ → Type 0) → inode < 2 ^ 64
    → Some was ≡ get nat_cmp fs.files inode → WritesThrough nat_cmp (nat_cmp inode) fs.files now m → ChangesOpen spares fs.store was.blob j now.blob → links_of was ≤ links_of now
    → freed_of now ≡ freed_of was → KeepsTable fs.store mid → AddsTold (resizes inode) fs.store mid → KeepsNamesAndEdits mid j → Standing j m
standing_truncated laws fs mid j m inode was now spares small there lent changes links gone names told keeps =
    let sets = sets_through fs.files m inode was now there lent in
    record {
      opened = opened_changed spares fs.store j fs.files m inode was now small there sets changes fs.opened;
      named = named_after fs.store j fs.files m (keeps.names ∙ names) (links_set fs.files m inode was now there sets links) fs.named;
      tracked = tracked_store mid j m keeps.names keeps.told
          (tracked_freed laws fs.store mid inode fs.files m names told (freed_set fs.files m inode was now there sets gone) fs.named fs.tracked);
    }
