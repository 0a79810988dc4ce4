-- The words of a path, and zeros after them.
use Rattle.std.proofs.Common.{◌≡◌, ◌+◌, ◌-◌, ◌^◌, ℕ, zero, suc, arith, Bool, List, [], ◌∷◌, ◌++◌, length, take, replicate, refl, sym, ap, ◌∙◌, append_assoc}
use Rattle.std.proofs.lemmas.List.{length-map, take_all}
use Rattle.blob_tree.specs.Trees.{extend_path, outcome_word, words_of}
use Rattle.blob_choices.specs.Explored.{sentinel_words}

-- words that were resized by zeros, and one more
pub along : (path : List Bool) (spare len : ℕ) (words resized all : List ℕ) → words ≡ words_of path → len ≡ length words + spare
    → resized ≡ take len words ++ replicate (len - length words) 0 → all ≡ resized ++ (2 ^ 64 - 1) ∷ [] → all ≡ sentinel_words path spare
along path spare len words resized all w l r a =
    let whole : take len words ≡ words = take_all len words (omega (arith, l)) in
    let rest : len - length words ≡ spare = omega (arith, l) in
    let same : resized ≡ words_of path ++ replicate spare 0 =
    r ∙ ap (λ (ws : List ℕ). ws ++ replicate (len - length words) 0) (whole ∙ w) ∙ ap (λ (n : ℕ). words_of path ++ replicate n 0) rest in
    a ∙ ap (λ (ws : List ℕ). ws ++ (2 ^ 64 - 1) ∷ []) same ∙ append_assoc (words_of path) (replicate spare 0) ((2 ^ 64 - 1) ∷ [])

take_none : (n : ℕ) → take {A = ℕ} n [] ≡ []
take_none zero = refl
take_none (suc n) = refl

extended_by : (n m : ℕ) (path : List Bool) → m ≡ n - length path → take n (words_of path) ++ replicate m 0 ≡ words_of (extend_path n path)
extended_by zero zero [] h = refl
extended_by zero zero (o ∷ path) h = refl
extended_by zero (suc m) path h = absurd (omega (arith, h))
extended_by (suc n) zero [] h = absurd (omega (arith, h))
extended_by (suc n) (suc m) [] h = ap (λ (ws : List ℕ). 0 ∷ ws) (ap (λ (ws : List ℕ). ws ++ replicate m 0) (sym (take_none n)) ∙ extended_by n m [] (omega (arith, h)))
extended_by (suc n) m (o ∷ path) h = ap (λ (ws : List ℕ). outcome_word o ∷ ws) (extended_by n m path (omega (arith, h)))

-- words that were resized to this length
pub extended : (n : ℕ) (path : List Bool) (words resized : List ℕ) → words ≡ words_of path → resized ≡ take n words ++ replicate (n - length words) 0
    → resized ≡ words_of (extend_path n path)
extended n path words resized w r =
    r ∙ ap (λ (ws : List ℕ). take n ws ++ replicate (n - length ws) 0) w ∙ extended_by n (n - length (words_of path)) path (ap (λ (k : ℕ). n - k) (length-map path outcome_word))
