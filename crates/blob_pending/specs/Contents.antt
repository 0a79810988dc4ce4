-- The bytes of a pending write, of which zeros are held as their number.
use Rattle.std.specs.Prelude.{◌≡◌, ◌≤◌, ℕ, Bool, false, ◌==◌, List, [], ◌∷◌, length, replicate, if◌then◌else◌}
use Rattle.std.specs.List.{list_all}

abbrev pub are_zeros : List ℕ → Bool
are_zeros bytes = list_all (λ byte. byte == 0) bytes

-- the bytes of a content, by the bytes that it holds and their number
abbrev pub bytes_of : List ℕ → ℕ → List ℕ
bytes_of [] len = replicate len 0
bytes_of (byte ∷ bytes) len = byte ∷ bytes

-- no bytes are held of zeros, and otherwise all
abbrev pub IsShort : List ℕ → ℕ → Type 0
IsShort [] len = Unit {0}
IsShort (byte ∷ bytes) len = (length (byte ∷ bytes) ≡ len) × (are_zeros (byte ∷ bytes) ≡ false)

-- as many zeros as these bytes are, none if one isn't zero
abbrev pub zeros_in : List ℕ → ℕ
zeros_in bytes = if are_zeros bytes then length bytes else 0

-- these bytes are zeros, at least as many
pub record HasZeros (count : ℕ) (bytes : List ℕ) : Type 0 where
  pub zeros : bytes ≡ replicate (length bytes) 0
  pub enough : count ≤ length bytes
