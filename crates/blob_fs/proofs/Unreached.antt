-- Bytes that no call of a list reaches.
use Rattle.std.proofs.Common.{[], ◌∷◌, subst, sym}
use Rattle.blob_fs.specs.declared.file_system.FileSystem.{FileSystem}
use Rattle.blob_fs.specs.Fixed.{IsFixed}
use Rattle.blob_fs.specs.Unreached.{UnreachedStaysFixed}

pub unreached_stays_fixed : (R : Type 0) → UnreachedStaysFixed R
unreached_stays_fixed R [] [] fs fs' done inode at byte below spared f = subst (λ (x : FileSystem R). IsFixed x inode at byte) (sym done) f
unreached_stays_fixed R [] (ok ∷ oks) fs fs' done inode at byte below spared f = absurd done
unreached_stays_fixed R (call ∷ calls) [] fs fs' done inode at byte below spared f = absurd done
unreached_stays_fixed R (call ∷ calls) (ok ∷ oks) fs fs' done inode at byte below spared f =
    unreached_stays_fixed R calls oks done.0 fs' done.3 inode at byte below spared.1 (done.2 inode at byte below spared.0 f)
