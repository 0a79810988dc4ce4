-- Paths and names as tokens.
use Rattle.std.specs.Prelude.{◌≡◌, ℕ, ◌+◌, ◌*◌, ◌==◌, ◌&&◌, List, [], ◌∷◌, Option, Some, None, option_map, option_and_then, if◌then◌else◌, codes}
use Rattle.std.specs.Str.{byte, bytes_eq}
use Rattle.hex.specs.Hex.{hex_digit_value}
use Rattle.blob_file_sessions.specs.PathTokens.{is_plain}

-- the byte of two hex digits, after a backslash and an `x`
abbrev pub escaped : ℕ → ℕ → ℕ → ℕ → Option ℕ
escaped slash x high low =
    if slash == byte "\\" && x == byte "x" then option_and_then (λ h. option_map (λ l. h * 16 + l) (hex_digit_value low)) (hex_digit_value high)
    else None

-- the first byte, and then the others
abbrev pub before : Option ℕ → Option (List ℕ) → Option (List ℕ)
before first others = option_and_then (λ b. option_map (λ bytes. b ∷ bytes) others) first

-- a plain byte
abbrev pub plain : ℕ → Option ℕ
plain b = if is_plain b then Some b else None

-- the bytes of a text: a plain byte stands for itself, `\xNN` for the byte with this number in hex
abbrev pub unescaped : List ℕ → Option (List ℕ)
unescaped [] = Some []
unescaped (a ∷ []) = before (plain a) (Some [])
unescaped (a ∷ b ∷ []) = before (plain a) (unescaped (b ∷ []))
unescaped (a ∷ b ∷ c ∷ []) = before (plain a) (unescaped (b ∷ c ∷ []))
unescaped (a ∷ b ∷ c ∷ d ∷ rest) =
    if is_plain a then before (Some a) (unescaped (b ∷ c ∷ d ∷ rest)) else before (escaped a b c d) (unescaped rest)

-- the path or the name of a token; `""` is the empty one
abbrev pub path_of : List ℕ → Option (List ℕ)
path_of token = if bytes_eq token (codes "\"\"") then Some [] else unescaped token

-- a text that begins with `\xNN`, the byte with this number, and what follows
abbrev pub StartsEscaped : List ℕ → ℕ → List ℕ → Type 0
StartsEscaped (a ∷ b ∷ c ∷ d ∷ rest) value left = (escaped a b c d ≡ Some value) × (rest ≡ left)
StartsEscaped text value left = ⊥

-- one that doesn't
abbrev pub HasNoEscape : List ℕ → Type 0
HasNoEscape (a ∷ b ∷ c ∷ d ∷ rest) = escaped a b c d ≡ None
HasNoEscape text = Unit {0}
