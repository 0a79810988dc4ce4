-- The blobs of files are open.
use Rattle.std.specs.Prelude.{◌≡◌, ◌<◌, ◌^◌, ℕ, Some}
use Rattle.std.specs.BTreeMap.{BTreeMap, get}
use Rattle.std.specs.Ordering.{nat_cmp}
use Rattle.std.proofs.Math.Logic.{∥∥₁_map}
use Rattle.blob_journal.specs.declared.journaled.Journaled.{Journaled}
use Rattle.blob_journal.specs.declared.store.FileBlob.{FileBlob}
use Rattle.blob_journal.specs.Fixed.{ChangesOpen, IsOpen}
use Rattle.blob_journal.specs.Keeping.{with_generator}
use Rattle.blob_fs.specs.declared.file_system.File.{File}

-- the blob of each file of a map is the current one of its number
abbrev pub AllOpen : {R : Type 0} → Journaled R → BTreeMap ℕ File → Type 0
AllOpen j files = (inode : ℕ) (file : File) → inode < 2 ^ 64 → get nat_cmp files inode ≡ Some file → IsOpen j inode file.blob

-- also with another generator
pub with_open : {R : Type 0} (j : Journaled R) (rng : R) (files : BTreeMap ℕ File) → ∥ AllOpen j files ∥₁ → ∥ AllOpen (with_generator j rng) files ∥₁
with_open j rng files h = ∥∥₁_map h (λ each inode file below at.
    let it = each inode file below at in
    record {
      durable = it.durable;
      is = record {
        current = record { number = it.is.current.number; layout = it.is.current.layout; file = it.is.current.file; is = it.is.current.is };
        durable = it.is.durable;
      };
      tracked = it.tracked;
    })

-- the same blob, the same size at the last sync, and the same truncations since
pub record SameContent (was now : File) : Type 0 where
  pub blob : now.blob ≡ was.blob
  pub synced : now.synced ≡ was.synced
  pub truncations : now.truncations.items ≡ was.truncations.items

-- the same size at the last sync, and the same truncations since
pub record SameCuts (was now : File) : Type 0 where
  pub synced : now.synced ≡ was.synced
  pub truncations : now.truncations.items ≡ was.truncations.items

-- so it is of each file of a map, by its number
abbrev pub KeepsCutsOf : BTreeMap ℕ File → BTreeMap ℕ File → Type 0
KeepsCutsOf files files' = (inode : ℕ) (now : File) → get nat_cmp files' inode ≡ Some now → (was : File) × (get nat_cmp files inode ≡ Some was) × SameCuts was now

-- a file may have changed; it is still open, and other open files stay as they are
abbrev pub MayChange : {R : Type 0} → Journaled R → FileBlob → Journaled R → FileBlob → Type 0
MayChange j file j' file' = ChangesOpen (λ at. ⊥) j file j' file'
