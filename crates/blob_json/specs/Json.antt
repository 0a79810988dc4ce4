-- Texts in JSON.
use Rattle.std.specs.Prelude.{ℕ, ◌/◌, ◌%◌, ◌==◌, nat_lt, List, [], ◌∷◌, ◌++◌, if◌then◌else◌, codes}
use Rattle.std.specs.Char.{digit_char}
use Rattle.std.specs.List.{flat_map}
use Rattle.std.specs.Str.{byte}

-- a byte of a text: quotes, backslashes and control characters are escaped
abbrev pub escaped : ℕ → List ℕ
escaped b =
    if b == byte "\"" then codes "\\\"" else
    if b == byte "\\" then codes "\\\\" else
    if b == 8 then codes "\\b" else
    if b == 9 then codes "\\t" else
    if b == 10 then codes "\\n" else
    if b == 12 then codes "\\f" else
    if b == 13 then codes "\\r" else
    if nat_lt b 32 then codes "\\u00" ++ digit_char (b / 16) ∷ digit_char (b % 16) ∷ []
    else b ∷ []

-- a text in quotes
abbrev pub quoted : List ℕ → List ℕ
quoted text = byte "\"" ∷ flat_map escaped text ++ byte "\"" ∷ []
