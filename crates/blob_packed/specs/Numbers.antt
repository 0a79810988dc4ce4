-- Numbers in eight bytes.
use Rattle.std.specs.Prelude.{ℕ, List, take}
use Rattle.std.specs.Int.{w64, to_be_bytes, from_be_bytes}

-- a number in eight bytes, the high one first
unfoldable pub number_bytes : ℕ → List ℕ
number_bytes n = to_be_bytes w64 n

-- the number that bytes begin with
unfoldable pub number_told : List ℕ → ℕ
number_told bytes = from_be_bytes w64 (take 8 bytes)
