-- The first line of a text.
use Rattle.std.proofs.Common.{◌≡◌, ◌<◌, ℕ, zero, suc, ◌==◌, List, [], ◌∷◌, Some, None, true, false, length, take, drop, get_or, ◌+◌, ◌-◌, ◌≤◌, Bool, refl, sym, ap, ◌∙◌, cond, arith}
use Rattle.std.specs.List.{onto_first, position, position_or_len}
use Rattle.std.proofs.lemmas.Bool.{ltb-false}
use Rattle.std.proofs.lemmas.List.{take_rest}
use Rattle.std.proofs.lemmas.List.Quantifiers.{position-Some}
use Rattle.std.proofs.lemmas.List.Sums.{fails_before_first}
use Rattle.blob_lab.specs.Scripts.{lines_of}

pub lines_at : (xs : List ℕ) (k : ℕ) → k < length xs → (get_or xs k 0 == 10) ≡ true → ((j : ℕ) → j < k → (get_or xs j 0 == 10) ≡ false) → lines_of xs ≡ take k xs ∷ lines_of (drop (suc k) xs)
lines_at [] k lt is before = absurd (omega (arith, lt))
lines_at (x ∷ xs) zero lt is before = ap (λ t. cond t ([] ∷ lines_of xs) (onto_first x (lines_of xs))) is
lines_at (x ∷ xs) (suc k) lt is before =
    ap (λ t. cond t ([] ∷ lines_of xs) (onto_first x (lines_of xs))) (before 0 (omega arith))
    ∙ ap (onto_first x) (lines_at xs k (omega (arith, lt)) is (λ j h. before (suc j) (omega (arith, h))))

pub last_line : (xs : List ℕ) → (xs ≡ [] → ⊥) → ((j : ℕ) → j < length xs → (get_or xs j 0 == 10) ≡ false) → lines_of xs ≡ xs ∷ []
last_line [] some none = absurd (some refl)
last_line (x ∷ []) some none = ap (λ t. cond t ([] ∷ []) ((x ∷ []) ∷ [])) (none 0 (omega arith))
last_line (x ∷ y ∷ ys) some none =
    ap (λ t. cond t ([] ∷ lines_of (y ∷ ys)) (onto_first x (lines_of (y ∷ ys)))) (none 0 (omega arith))
    ∙ ap (onto_first x) (last_line (y ∷ ys) (λ e. cc e) (λ j h. none (suc j) (omega (arith, h))))

no_place : (test : Bool) (n : ℕ) → None ≡ cond test (Some n) None → test ≡ false
no_place false n e = refl
no_place true n e = absurd (cc)

-- as the code takes it

pub line_before : (xs : List ℕ) (at : ℕ) → Some at ≡ position (λ byte. byte == 10) xs → lines_of xs ≡ take at xs ∷ lines_of (take (length xs - (at + 1)) (drop (at + 1) xs))
line_before xs at e =
    let found = position-Some (λ byte. byte == 10) xs at 0 (sym e) in let more : suc at ≡ at + 1 = omega arith in
    lines_at xs at found.0 found.1 found.2 ∙ ap (λ k. take at xs ∷ lines_of (drop k xs)) more ∙ ap (λ ys. take at xs ∷ lines_of ys) (sym (take_rest xs (at + 1)))

pub only_line : (xs : List ℕ) → (xs ≡ [] → ⊥) → None ≡ position (λ byte. byte == 10) xs → lines_of xs ≡ xs ∷ []
only_line xs some e =
    let all : length xs ≤ position_or_len (λ byte. byte == 10) xs = ltb-false _ _ (no_place _ _ e) in
    last_line xs some (λ j h. fails_before_first (λ byte. byte == 10) xs j 0 (omega (arith, h, all)))
