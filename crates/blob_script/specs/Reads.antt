-- The results of reading up to a byte.
use Rattle.std.specs.Prelude.{◌≡◌, ◌++◌, ℕ, List, Option, IfSome}
use Rattle.std.specs.Io.{appended_bytes}
use Rattle.std.specs.Io.BufRead.{take_through}
use Rattle.std.specs.Io.KnownBytes.{Consumes}

-- the remaining bytes up to and including the first `byte` were appended to a buffer, if they are known
abbrev pub AppendsThrough : ℕ → Option (List ℕ) → List ℕ → List ℕ → Type 0
AppendsThrough byte remaining before after = IfSome remaining (λ xs. after ≡ before ++ take_through byte xs)

-- the bytes that were taken were appended to a buffer
abbrev pub MovesBytes : Option (List ℕ) → Option (List ℕ) → List ℕ → List ℕ → Type 0
MovesBytes old new before after = Consumes old new (appended_bytes before after)
