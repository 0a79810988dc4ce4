-- Zeros to write, of which some are always there.
use Rattle.std.specs.Prelude.{ℕ, ◌≤◌, List, replicate}
use Rattle.blob_fs.specs.declared.zeros.Held.{Held}
use Rattle.blob_fs.specs.declared.zeros.Held.TheVariants.{Ready, Made}

-- the bytes
abbrev pub bytes_of : Held → List ℕ
bytes_of (Ready n) = replicate n 0
bytes_of (Made v) = v.items

-- as many are there
abbrev pub IsReady : Held → Type 0
IsReady (Ready n) = n ≤ 1048576
IsReady (Made v) = Unit {0}
