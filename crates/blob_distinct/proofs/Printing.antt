-- Texts that grow part by part.
use Rattle.std.proofs.Common.{◌≡◌, ◌<◌, ℕ, List, [], ◌∷◌, ◌++◌, length, refl, ap, sym, ◌∙◌, append_assoc, arith}
use Rattle.std.specs.Prelude.{codes}
use Rattle.std.specs.List.{flat_map}
use Rattle.blob_distinct.specs.Printed.{word_text, words_text}

-- the words of a leaf that has some
pub some_words : (words : List ℕ) → 0 < length words → words_text words ≡ codes ", first: words" ++ flat_map word_text words
some_words [] some = absurd (omega (arith, some))
some_words (word ∷ words) some = refl

-- a text, and then two parts of one
pub two_parts : (old mid new a b : List ℕ) → mid ≡ old ++ a → new ≡ mid ++ b → new ≡ old ++ (a ++ b)
two_parts old mid new a b first second = second ∙ ap (λ (t : List ℕ). t ++ b) first ∙ append_assoc old a b
