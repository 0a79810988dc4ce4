-- Errors of the layer, and sizes that are tracked.
use Rattle.std.proofs.Common.{◌≡◌, ap, length}
use Rattle.std.proofs.Math.Logic.{∥∥₁_elim}
use Rattle.std.specs.Coded.{Coded-set, coded_ℕ}
use Rattle.std.specs.BTreeMap.{BTreeMap}
use Rattle.std.specs.Prelude.{ℕ, Err, IsErr, IsErrAnd, Ok, Result}
use Rattle.std.proofs.lemmas.Bool.{false≢true}
use Rattle.blob_header.specs.declared.error.Error.{Error}
use Rattle.blob_fs.specs.declared.error.FsError.{FsError}
use Rattle.blob_fs.specs.declared.error.FsError.TheVariants.{Store}
use Rattle.blob_faulty.specs.Wrapper.{inside, size_of}
use Rattle.blob_memory.specs.Store.{live}
use Rattle.blob_journal.specs.declared.journaled.Journaled.{Journaled}
use Rattle.blob_fs.specs.declared.file_system.File.{File}
use Rattle.blob_fs.specs.Errors.{TrackSizes}
use Rattle.blob_fs.specs.Open.{AllOpen}

-- those of open files are
pub sizes_tracked : {R : Type 0} (j : Journaled R) (files : BTreeMap ℕ File) → ∥ AllOpen j files ∥₁ → TrackSizes files
sizes_tracked j files opened inode file below at =
    ∥∥₁_elim opened (Coded-set coded_ℕ (size_of file.blob.blob) (length (live (inside file.blob.blob)))) (λ each. (each inode file below at).tracked)

-- the layer's error, as it is returned
pub refused_store : {T : Type 0} (r : Result T FsError) (error : Error) → IsErr r → IsErrAnd r (λ refused. refused ≡ Store error) → r ≡ Err (Store error)
refused_store (Ok x) error is same = absurd (false≢true is)
refused_store (Err e) error is same = ap Err same
