-- Pairs of hex digits.
use Rattle.std.specs.Prelude.{◌≡◌, ◌+◌, ◌*◌, ◌<◌, ℕ, List, length, slice_index, Result, Ok}
use Rattle.hex.specs.Hex.{pair_value}
use Rattle.hex.specs.declared.error.FromHexError.{FromHexError}

-- the byte of pair k of these digits
abbrev pub byte_of_pair : List ℕ → ℕ → Result ℕ FromHexError
byte_of_pair digits k = pair_value (slice_index digits (2 * k)) (slice_index digits (2 * k + 1)) (2 * k)

-- the bytes of sixteen pairs, after the first `first` pairs
pub record IsPairsFrom (digits : List ℕ) (first : ℕ) (bytes : List ℕ) : Type 0 where
  pub sixteen : length bytes ≡ 16
  pub each : (k : ℕ) → k < 16 → byte_of_pair digits (first + k) ≡ Ok (slice_index bytes k)
