-- The values of a function, by number.
use Rattle.std.proofs.Common.{◌≡◌, ◌≢◌, ℕ, zero, suc, ◌+◌, ◌<◌, ◌≤◌, ◌++◌, List, [], ◌∷◌, map, set, Option, None, refl, ap, ap₂, ◌∙◌, arith}
use Rattle.std.specs.Prelude.{option_map, option_and_then}
use Rattle.std.specs.List.{range_with_len}
use Rattle.std.proofs.lemmas.List.FromFn.{length-range_with_len, get_or-range_with_len, length-map-range_with_len}
use Rattle.std.proofs.lemmas.Option.{slice_get-map, slice_get-get_or, slice_get_past}
use Rattle.blob_lab_model.specs.Answers.{kept_at}
use Rattle.blob_lab_store.specs.Slots.{found}

pub same_values : {X : Type 0} (f g : ℕ → X) (a n : ℕ) → ((k : ℕ) → a ≤ k → k < a + n → f k ≡ g k) → map f (range_with_len a n) ≡ map g (range_with_len a n)
same_values f g a zero h = refl
same_values {X} f g a (suc n) h = ap₂ (λ (x : X) (xs : List X). x ∷ xs) (h a (omega arith) (omega arith)) (same_values f g (a + 1) n (λ k m l. h k (omega (arith, m)) (omega (arith, l))))

pub one_more : {X : Type 0} (f : ℕ → X) (a n : ℕ) → map f (range_with_len a (n + 1)) ≡ map f (range_with_len a n) ++ f (a + n) ∷ []
one_more {X} f a zero = ap (λ (k : ℕ). f k ∷ []) (omega arith)
one_more {X} f a (suc n) =
    let count : suc n + 1 ≡ suc (n + 1) = omega arith in
    let last : a + 1 + n ≡ a + suc n = omega arith in
    ap (λ (m : ℕ). map f (range_with_len a m)) count ∙ ap (λ (xs : List X). f a ∷ xs) (one_more f (a + 1) n ∙ ap (λ (k : ℕ). map f (range_with_len (a + 1) n) ++ f k ∷ []) last)

pub set_value : {X : Type 0} (f g : ℕ → X) (a n i : ℕ) (x : X) → i < n → ((k : ℕ) → k ≢ a + i → g k ≡ f k) → g (a + i) ≡ x → map g (range_with_len a n) ≡ set (map f (range_with_len a n)) i x
set_value f g a zero i x l other here = absurd (omega arith)
set_value {X} f g a (suc n) zero x l other here = ap₂ (λ (y : X) (ys : List X). y ∷ ys) (ap g (omega arith) ∙ here) (same_values g f (a + 1) n (λ k m h. other k (λ e. omega (arith, m, e))))
set_value {X} f g a (suc n) (suc i) x l other here = ap₂ (λ (y : X) (ys : List X). y ∷ ys) (other a (λ e. omega (arith, e))) (set_value f g (a + 1) n i x (omega (arith, l)) (λ k d. other k (λ e. d (omega (arith, e)))) (ap g (omega arith) ∙ here))

-- the value of a number that was given, and of one that wasn't
pub value_at : {X : Type 0} (f : ℕ → Option X) (n k : ℕ) → k < n → kept_at (map f (range_with_len 0 n)) k ≡ f k
value_at {X} f n k l =
    let len = length-range_with_len 0 n in
    let same : 0 + k ≡ k = omega arith in
    ap (option_and_then (λ (s : Option X). s)) (slice_get-map f (range_with_len 0 n) k ∙ ap (option_map f) (slice_get-get_or (range_with_len 0 n) k 0 (omega (arith, len, l))))
    ∙ ap f (get_or-range_with_len 0 n k 0 l ∙ same)

pub value_past : {X : Type 0} (f : ℕ → Option X) (n k : ℕ) → n ≤ k → kept_at (map f (range_with_len 0 n)) k ≡ None
value_past {X} f n k l =
    let len = length-map-range_with_len f 0 n in
    ap (option_and_then (λ (s : Option X). s)) (slice_get_past (map f (range_with_len 0 n)) k (omega (arith, len, l)))

-- no slot is left
pub no_values : {X : Type 0} (f : ℕ → Option X) (ks : List ℕ) → map (found {X = X} [] []) ks ≡ map (λ (value : Option X). None) (map f ks)
no_values f [] = refl
no_values {X} f (k ∷ ks) = ap (λ (vs : List (Option X)). None ∷ vs) (no_values f ks)
