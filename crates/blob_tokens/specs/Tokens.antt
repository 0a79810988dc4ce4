-- The tokens of a line, and their meaning.
use Rattle.std.specs.Prelude.{ℕ, ◌<◌, ◌^◌, ◌-◌, ◌==◌, ◌&&◌, nat_lt, List, [], ◌∷◌, Bool, true, false, not, Option, Some, None, option_and_then, Result, Ok, if◌then◌else◌, codes}
use Rattle.std.specs.Char.{is_digit}
use Rattle.std.specs.List.{filter, list_all, slice_split}
use Rattle.std.specs.Str.{bytes_eq}
use Rattle.std.specs.Str.Parse.{IsNumeral, digits_value}
use Rattle.hex.specs.Hex.{decode_of}
use Rattle.hex.specs.declared.FromHexError.{FromHexError}

abbrev pub is_empty : {X : Type 0} → List X → Bool
is_empty [] = true
is_empty (x ∷ xs) = false

-- the pieces between spaces, without empty ones; only spaces separate tokens
abbrev pub tokens : List ℕ → List (List ℕ)
tokens line = filter (λ piece. not (is_empty piece)) (slice_split (λ byte. byte == 32) line)

-- a token that `number_of` accepts
pub record IsNumber (token : List ℕ) : Type 0 where
  pub digits : IsNumeral 10 token
  pub below : digits_value 10 token < 2 ^ 64

-- a number: decimal digits, with or without leading zeros, below 2 ^ 64
abbrev pub number_of : List ℕ → Option ℕ
number_of token =
    if not (is_empty token) && list_all (λ byte. is_digit byte 10) token && nat_lt (digits_value 10 token) (2 ^ 64) then Some (digits_value 10 token) else None

-- a number below 2 ^ 16
abbrev pub version_of : List ℕ → Option ℕ
version_of token = option_and_then (λ n. if nat_lt n (2 ^ 16) then Some n else None) (number_of token)

-- `max` is the greatest number
abbrev pub word_of : List ℕ → Option ℕ
word_of token = if bytes_eq token (codes "max") then Some (2 ^ 64 - 1) else number_of token

-- hex digits of either case, or `-` for none
abbrev pub bytes_of : List ℕ → Result (List ℕ) FromHexError
bytes_of token = if bytes_eq token (codes "-") then Ok [] else decode_of token
