-- Paths and names as tokens of a line.
use Rattle.std.specs.Prelude.{ℕ, ◌/◌, ◌%◌, ◌==◌, ◌&&◌, nat_lt, List, [], ◌∷◌, ◌++◌, Bool, not, if◌then◌else◌, codes}
use Rattle.std.specs.Char.{digit_char}
use Rattle.std.specs.List.{flat_map}
use Rattle.std.specs.Str.{byte}

-- printable ASCII but the space, the backslash and the number sign
abbrev pub is_plain : ℕ → Bool
is_plain b = nat_lt 32 b && nat_lt b 127 && not (b == byte "\\") && not (b == byte "#")

-- a byte of a path: itself if it is plain, else `\xNN`
abbrev pub byte_token : ℕ → List ℕ
byte_token b = if is_plain b then b ∷ [] else codes "\\x" ++ digit_char (b / 16) ∷ digit_char (b % 16) ∷ []

-- a path or a name as a token
abbrev pub path_token : List ℕ → List ℕ
path_token [] = codes "\"\""
path_token (b ∷ path) = flat_map byte_token (b ∷ path)
