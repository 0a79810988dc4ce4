-- The bytes of a text, the first one and then the others.
use Rattle.std.proofs.Common.{◌≡◌, ℕ, List, [], ◌∷◌, ◌++◌, true, false, Option, Some, None, option_map, refl, sym, ap, ◌∙◌, subst, append_assoc, if◌then◌else◌}
use Rattle.blob_file_scripts.specs.PathTokens.{HasNoEscape, StartsEscaped, before, escaped, plain, unescaped}
use Rattle.blob_file_sessions.specs.PathTokens.{is_plain}

-- bytes that were read, and those of the rest
abbrev pub behind : List ℕ → Option (List ℕ) → Option (List ℕ)
behind front rest = option_map (λ bytes. front ++ bytes) rest

pub behind_all : (front : List ℕ) (b : ℕ) (rest : Option (List ℕ)) → behind front (before (Some b) rest) ≡ behind (front ++ b ∷ []) rest
behind_all front b None = refl
behind_all front b (Some bytes) = ap Some (sym (append_assoc front (b ∷ []) bytes))

plain_of : (b : ℕ) → is_plain b ≡ true → plain b ≡ Some b
plain_of b is = ap (λ test. if test then Some b else None) is

pub plain_first : (a : ℕ) (rest : List ℕ) → is_plain a ≡ true → unescaped (a ∷ rest) ≡ before (Some a) (unescaped rest)
plain_first a [] is = ap (λ first. before first (Some [])) (plain_of a is)
plain_first a (b ∷ []) is = ap (λ first. before first (unescaped (b ∷ []))) (plain_of a is)
plain_first a (b ∷ c ∷ []) is = ap (λ first. before first (unescaped (b ∷ c ∷ []))) (plain_of a is)
plain_first a (b ∷ c ∷ d ∷ rest) is = ap (λ test. if test then before (Some a) (unescaped (b ∷ c ∷ d ∷ rest)) else before (escaped a b c d) (unescaped rest)) is

none_of : (b : ℕ) → is_plain b ≡ false → plain b ≡ None
none_of b is = ap (λ test. if test then Some b else None) is

not_plain : (a b c d : ℕ) (rest : List ℕ) → is_plain a ≡ false → unescaped (a ∷ b ∷ c ∷ d ∷ rest) ≡ before (escaped a b c d) (unescaped rest)
not_plain a b c d rest is = ap (λ test. if test then before (Some a) (unescaped (b ∷ c ∷ d ∷ rest)) else before (escaped a b c d) (unescaped rest)) is

pub escape_first : (a : ℕ) (rest : List ℕ) (value : ℕ) (left : List ℕ) → is_plain a ≡ false → StartsEscaped (a ∷ rest) value left
    → unescaped (a ∷ rest) ≡ before (Some value) (unescaped left)
escape_first a [] value left is starts = absurd starts
escape_first a (b ∷ []) value left is starts = absurd starts
escape_first a (b ∷ c ∷ []) value left is starts = absurd starts
escape_first a (b ∷ c ∷ d ∷ rest) value left is starts =
    not_plain a b c d rest is ∙ ap (λ first. before first (unescaped rest)) starts.0 ∙ ap (λ text. before (Some value) (unescaped text)) starts.1

pub none_first : (a : ℕ) (rest : List ℕ) → is_plain a ≡ false → HasNoEscape (a ∷ rest) → unescaped (a ∷ rest) ≡ None
none_first a [] is without = ap (λ first. before first (Some [])) (none_of a is)
none_first a (b ∷ []) is without = ap (λ first. before first (unescaped (b ∷ []))) (none_of a is)
none_first a (b ∷ c ∷ []) is without = ap (λ first. before first (unescaped (b ∷ c ∷ []))) (none_of a is)
none_first a (b ∷ c ∷ d ∷ rest) is without = not_plain a b c d rest is ∙ ap (λ first. before first (unescaped rest)) without

-- One more byte is read, of a plain byte or of an escape.

pub reads_plain : (front left text front' : List ℕ) (a : ℕ) (rest : List ℕ) → left ≡ a ∷ rest → is_plain a ≡ true → front' ≡ front ++ a ∷ []
    → behind front (unescaped left) ≡ unescaped text → behind front' (unescaped rest) ≡ unescaped text
reads_plain front left text front' a rest is here more read =
    ap (λ f. behind f (unescaped rest)) more ∙ sym (behind_all front a (unescaped rest)) ∙ ap (behind front) (sym (plain_first a rest here))
    ∙ ap (λ t. behind front (unescaped t)) (sym is) ∙ read

pub reads_escape : (front left text front' : List ℕ) (a : ℕ) (rest : List ℕ) (value : ℕ) (after : List ℕ) → left ≡ a ∷ rest → is_plain a ≡ false
    → StartsEscaped left value after → front' ≡ front ++ value ∷ []
    → behind front (unescaped left) ≡ unescaped text → behind front' (unescaped after) ≡ unescaped text
reads_escape front left text front' a rest value after is here starts more read =
    ap (λ f. behind f (unescaped after)) more ∙ sym (behind_all front value (unescaped after))
    ∙ ap (behind front) (sym (escape_first a rest value after here (subst (λ (t : List ℕ). StartsEscaped t value after) is starts)))
    ∙ ap (λ t. behind front (unescaped t)) (sym is) ∙ read

pub reads_none : (front left text : List ℕ) (a : ℕ) (rest : List ℕ) → left ≡ a ∷ rest → is_plain a ≡ false → HasNoEscape left
    → behind front (unescaped left) ≡ unescaped text → unescaped text ≡ None
reads_none front left text a rest is here without read =
    sym read ∙ ap (λ t. behind front (unescaped t)) is ∙ ap (behind front) (none_first a rest here (subst HasNoEscape is without))
