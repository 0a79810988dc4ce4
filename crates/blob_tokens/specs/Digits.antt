-- Decimal digits, with a mark in place of the value of a byte that isn't one.
use Rattle.std.specs.Prelude.{ℕ, ◌+◌, ◌*◌, List, [], ◌∷◌, if◌then◌else◌}
use Rattle.std.specs.Char.{is_digit, digit_value}

-- the value of a byte as a decimal digit, or 2 ^ 27: more than eight digits write
abbrev pub mark : ℕ → ℕ
mark byte = if is_digit byte 10 then digit_value byte else 134217728

-- the number of the digits when they follow those of n
abbrev pub marked_after : ℕ → List ℕ → ℕ
marked_after n [] = n
marked_after n (byte ∷ bytes) = marked_after (n * 10 + mark byte) bytes

-- the number of the digits
abbrev pub marked : List ℕ → ℕ
marked bytes = marked_after 0 bytes
