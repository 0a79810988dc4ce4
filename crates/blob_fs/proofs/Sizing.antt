-- The size of an open file after its blob was resized.
use Rattle.std.proofs.Common.{◌≡◌, ◌<◌, ◌^◌, ◌∙◌, ℕ, Some, refl}
use Rattle.std.proofs.Math.Logic.{∥∥₁_elim}
use Rattle.std.specs.BTreeMap.{BTreeMap, get}
use Rattle.std.specs.Coded.{Coded-set, coded_ℕ}
use Rattle.std.specs.Ordering.{nat_cmp}
use Rattle.blob_memory.specs.Store.{live}
use Rattle.blob_model.proofs.Bytes.{length-resized}
use Rattle.blob_faulty.specs.Wrapper.{inside, size_of}
use Rattle.blob_journal.specs.declared.journaled.Journaled.{Journaled}
use Rattle.blob_journal.specs.declared.store.FileBlob.{FileBlob}
use Rattle.blob_journal.specs.Blobs.{ResizesFile}
use Rattle.blob_journal.specs.Fixed.{IsOpen, KeepsOpen}
use Rattle.blob_fs.specs.declared.file_system.File.{File}
use Rattle.blob_fs.specs.Noted.{ResizesOpen}
use Rattle.blob_fs.specs.Open.{AllOpen}

pub sized : {R : Type 0} (a b : Journaled R) (inode n : ℕ) (file file' : FileBlob) → IsOpen a inode file → ResizesFile n a file b file' → size_of file'.blob ≡ n
sized a b inode n file file' open_file resizes =
    let seen = (resizes inode open_file.durable open_file.is).1 (live (inside file.blob)) (record { live = refl; size = open_file.tracked }) in
    seen.size ∙ length-resized (live (inside file.blob)) n

-- the blob of a file of a map was resized by a later store
pub resized_size : {R : Type 0} (j a : Journaled R) (files : BTreeMap ℕ File) (inode n : ℕ) (was : File) (file' : FileBlob) → inode < 2 ^ 64 → get nat_cmp files inode ≡ Some was
    → KeepsOpen j a → ResizesOpen n a was.blob file' → ∥ AllOpen j files ∥₁ → size_of file'.blob ≡ n
resized_size j a files inode n was file' below there keeps resizes opened =
    ∥∥₁_elim opened (Coded-set coded_ℕ (size_of file'.blob) n) (λ each. resizes inode (keeps.still inode was.blob (each inode was below there)))
