-- Bytes by numbers of eight.
use Rattle.std.specs.Prelude.{ℕ, List, drop, take}
use Rattle.std.specs.Int.{w64, from_be_bytes}

-- the number in eight bytes from an index on, the high one first
abbrev pub number_in : List ℕ → ℕ → ℕ
number_in bytes at = from_be_bytes w64 (take 8 (drop at bytes))
