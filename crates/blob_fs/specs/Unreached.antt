-- Bytes that no call of a list reaches.
use Rattle.std.specs.Prelude.{◌<◌, ◌^◌, ℕ, Bool, List, [], ◌∷◌}
use Rattle.blob_fs.specs.declared.file_system.FileSystem.{FileSystem}
use Rattle.blob_fs.specs.declared.call.NumberCall.{NumberCall}
use Rattle.blob_fs.specs.Calls.{DoesAll}
use Rattle.blob_fs.specs.Fixed.{IsFixed, Spares}

-- no call of the list reaches this byte of this file
abbrev pub AllSpare : {R : Type 0} (calls : List NumberCall) (oks : List Bool) (fs fs' : FileSystem R) → DoesAll calls oks fs fs' → ℕ → ℕ → Type 0
AllSpare [] oks fs fs' done inode at = Unit {0}
AllSpare (call ∷ calls) [] fs fs' done inode at = Unit {0}
AllSpare (call ∷ calls) (ok ∷ oks) fs fs' done inode at = Spares fs call inode at × AllSpare calls oks done.0 fs' done.3 inode at

-- a fixed byte that no call of a list reaches stays fixed
abbrev pub UnreachedStaysFixed : Type 0 → Type 0
UnreachedStaysFixed R = (calls : List NumberCall) (oks : List Bool) (fs fs' : FileSystem R) (done : DoesAll calls oks fs fs') (inode at byte : ℕ) → inode < 2 ^ 64
    → AllSpare calls oks fs fs' done inode at → IsFixed fs inode at byte → IsFixed fs' inode at byte
