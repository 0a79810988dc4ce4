-- What is sorted by numbers of which no two are equal is in the one order that there is.
use Rattle.std.proofs.Common.{◌≡◌, ◌≢◌, ◌⊎◌, inl, inr, ⊎_elim, ℕ, zero, suc, ◌<◌, ◌≤◌, Bool, cond, eqb, List, [], ◌∷◌, ◌++◌, length, get_or, refl, sym, ap, ap₂, subst, arith, nat_lt, append-nil}
use Rattle.std.specs.Prelude.{map}
use Rattle.std.specs.List.{All, sum_by}
use Rattle.std.specs.List.Sorted.{IsPermutation, IsNonDecreasingBy}
use Rattle.std.proofs.lemmas.Bool.{cond_both, eq-eqb, ne_eqb}
use Rattle.std.proofs.lemmas.List.{get_or-map, length-map}
use Rattle.std.proofs.lemmas.List.Sums.{sum_by-cons}
use Rattle.std.proofs.lemmas.List.Sorted.{IsPermutation-refl, IsPermutation-trans, IsPermutation-cons, IsPermutation-middle, IsPermutation-sym, IsPermutation-append_left, All-permutation, sum_by-IsPermutation}
use Rattle.blob_model.specs.Order.{insert_by, all_placed}

-- elements brought in order one after another are the same elements
placed_moves : {X : Type 0} (key : X → ℕ) (x : X) (ys : List X) → IsPermutation (x ∷ ys) (insert_by key x ys)
placed_moves key x [] = IsPermutation-refl (x ∷ [])
placed_moves {X} key x (y ∷ ys) = cond_both (nat_lt (key y) (key x)) (y ∷ insert_by key x ys) (x ∷ y ∷ ys) (λ (r : List X). IsPermutation (x ∷ y ∷ ys) r)
    (λ _. IsPermutation-trans (x ∷ y ∷ ys) (y ∷ x ∷ ys) (y ∷ insert_by key x ys) (IsPermutation-sym (y ∷ x ∷ ys) (x ∷ y ∷ ys) (IsPermutation-middle (y ∷ []) x ys)) (IsPermutation-cons y (x ∷ ys) (insert_by key x ys) (placed_moves key x ys)))
    (λ _. IsPermutation-refl (x ∷ y ∷ ys))

all_placed_moves : {X : Type 0} (key : X → ℕ) (done xs : List X) → IsPermutation (done ++ xs) (all_placed key done xs)
all_placed_moves {X} key done [] = subst (λ (l : List X). IsPermutation l done) (sym (append-nil done)) (IsPermutation-refl done)
all_placed_moves key done (x ∷ xs) = IsPermutation-trans (done ++ x ∷ xs) (x ∷ (done ++ xs)) (all_placed key (insert_by key x done) xs) (IsPermutation-middle done x xs)
    (IsPermutation-trans ((x ∷ done) ++ xs) (insert_by key x done ++ xs) (all_placed key (insert_by key x done) xs) (IsPermutation-append_left xs (x ∷ done) (insert_by key x done) (placed_moves key x done)) (all_placed_moves key (insert_by key x done) xs))

pub placed_permutes : {X : Type 0} (key : X → ℕ) (xs : List X) → IsPermutation xs (all_placed key [] xs)
placed_permutes key xs = all_placed_moves key [] xs

-- the keys climb, from a first one on
abbrev pub Climbs : {X : Type 0} → (X → ℕ) → ℕ → List X → Type 0
Climbs key from [] = Unit {0}
Climbs key from (x ∷ xs) = (from ≤ key x) × Climbs key (suc (key x)) xs

abbrev Has : {X : Type 0} → X → List X → Type 0
Has x [] = ⊥
Has x (y ∷ ys) = (x ≡ y) ⊎ Has x ys

has_itself : {X : Type 0} (xs : List X) → All (λ x. Has x xs) xs
has_itself [] k d h = absurd (omega arith)
has_itself (x ∷ xs) zero d h = inl refl
has_itself (x ∷ xs) (suc k) d h = inr (has_itself xs k d (omega arith))

climbed : {X : Type 0} (key : X → ℕ) (from : ℕ) (ys : List X) (x : X) → Climbs key from ys → Has x ys → from ≤ key x
climbed key from [] x c i = absurd i
climbed key from (y ∷ ys) x c (inl e) = omega (arith, ap key e, c.0)
climbed key from (y ∷ ys) x c (inr i) = omega (arith, climbed key (suc (key y)) ys x c.1 i, c.0)

-- whether an element has this key, as a number
abbrev is_keyed : {X : Type 0} → (X → ℕ) → ℕ → X → ℕ
is_keyed key k x = cond (eqb (key x) k) 1 0

keyed : {X : Type 0} (key : X → ℕ) (k : ℕ) (x : X) → key x ≡ k → is_keyed key k x ≡ 1
keyed key k x e = ap (λ (b : Bool). cond b 1 0) (eq-eqb (key x) k e)

unkeyed : {X : Type 0} (key : X → ℕ) (k : ℕ) (x : X) → k < key x → is_keyed key k x ≡ 0
unkeyed key k x h =
    let ne : key x ≢ k = omega arith in
    ap (λ (b : Bool). cond b 1 0) (ne_eqb (key x) k ne)

-- how many elements have it
abbrev tally : {X : Type 0} → (X → ℕ) → ℕ → List X → ℕ
tally key k xs = sum_by (is_keyed key k) xs

tally_none : {X : Type 0} (key : X → ℕ) (k : ℕ) (xs : List X) → ((i : ℕ) (d : X) → i < length xs → k < key (get_or xs i d)) → tally key k xs ≡ 0
tally_none key k [] h = refl
tally_none key k (x ∷ xs) h = omega (arith, sum_by-cons (is_keyed key k) x xs, unkeyed key k x (h 0 x (omega arith)), tally_none key k xs (λ i d l. h (suc i) d (omega arith)))

tally_climbs : {X : Type 0} (key : X → ℕ) (k from : ℕ) (xs : List X) → k < from → Climbs key from xs → tally key k xs ≡ 0
tally_climbs key k from [] h c = refl
tally_climbs key k from (x ∷ xs) h c = omega (arith, sum_by-cons (is_keyed key k) x xs, unkeyed key k x (omega (arith, c.0)), tally_climbs key k (suc (key x)) xs (omega (arith, c.0)) c.1)

tally_some : {X : Type 0} (key : X → ℕ) (k : ℕ) (xs : List X) (i : ℕ) (d : X) → i < length xs → key (get_or xs i d) ≡ k → 1 ≤ tally key k xs
tally_some key k [] i d h e = absurd (omega arith)
tally_some key k (x ∷ xs) zero d h e = omega (arith, sum_by-cons (is_keyed key k) x xs, keyed key k x e)
tally_some key k (x ∷ xs) (suc i) d h e = omega (arith, sum_by-cons (is_keyed key k) x xs, tally_some key k xs i d (omega arith) e)

one_order : {X : Type 0} (key : X → ℕ) (from : ℕ) (xs ys : List X) → IsNonDecreasingBy key xs → Climbs key from ys → All (λ x. Has x ys) xs → ((k : ℕ) → tally key k xs ≡ tally key k ys) → xs ≡ ys
one_order key from [] [] up c has same = refl
one_order key from [] (y ∷ ys) up c has same = absurd (omega (arith, same (key y), sum_by-cons (is_keyed key (key y)) y ys, keyed key (key y) y refl))
one_order key from (x ∷ xs) [] up c has same = absurd (has 0 x (omega arith))
one_order {X} key from (x ∷ xs) (y ∷ ys) up c has same = ap₂ (λ (z : X) (zs : List X). z ∷ zs) first (one_order key (suc (key y)) xs ys later c.1 rest tallies)
  where
    past : Has x ys → x ≡ y
    past i =
        let above : suc (key y) ≤ key x = climbed key (suc (key y)) ys x c.1 i in
        absurd (omega (arith, same (key y), sum_by-cons (is_keyed key (key y)) y ys, keyed key (key y) y refl, tally_none key (key y) (x ∷ xs) (λ j d l. omega (arith, up 0 j d (omega arith) l))))

    first : x ≡ y
    first = ⊎_elim (λ e. e) past (has 0 x (omega arith))

    later : IsNonDecreasingBy key xs
    later i j d le lt = up (suc i) (suc j) d (omega arith) (omega arith)

    tallies : (k : ℕ) → tally key k xs ≡ tally key k ys
    tallies k = omega (arith, same k, sum_by-cons (is_keyed key k) x xs, sum_by-cons (is_keyed key k) y ys, ap (is_keyed key k) first)

    rest : All (λ z. Has z ys) xs
    rest k d h = ⊎_elim
        (λ e. absurd (omega (arith, tally_some key (key y) xs k d h (ap key e), tallies (key y), tally_climbs key (key y) (suc (key y)) ys (omega arith) c.1)))
        (λ i. i) (has (suc k) d (omega arith))

pub sorted_is : {X : Type 0} (key : X → ℕ) (from : ℕ) (xs ys : List X) → IsNonDecreasingBy key xs → Climbs key from ys → IsPermutation ys xs → xs ≡ ys
sorted_is key from xs ys up c p = one_order key from xs ys up c (All-permutation (λ x. Has x ys) ys xs p (has_itself ys)) (λ k. sum_by-IsPermutation (is_keyed key k) ys xs p)

-- what is read of the elements rises as they do
pub order_mapped : {X Y : Type 0} (f : X → Y) (n : X → ℕ) (m : Y → ℕ) → ((x : X) → m (f x) ≡ n x) → (xs : List X) → IsNonDecreasingBy n xs → IsNonDecreasingBy m (map f xs)
order_mapped f n m same [] up i j d le lt = absurd (omega arith)
order_mapped f n m same (x ∷ xs) up i j d le lt =
    let at : j < length (x ∷ xs) = omega (arith, length-map (x ∷ xs) f) in
    omega (arith, ap m (get_or-map f (x ∷ xs) i x d (omega arith)), ap m (get_or-map f (x ∷ xs) j x d at), same (get_or (x ∷ xs) i x), same (get_or (x ∷ xs) j x), up i j x le at)

pub order_unmapped : {X Y : Type 0} (f : X → Y) (n : X → ℕ) (m : Y → ℕ) → ((x : X) → m (f x) ≡ n x) → (xs : List X) → IsNonDecreasingBy m (map f xs) → IsNonDecreasingBy n xs
order_unmapped f n m same xs up i j d le lt =
    omega (arith, ap m (get_or-map f xs i d (f d) (omega arith)), ap m (get_or-map f xs j d (f d) lt), same (get_or xs i d), same (get_or xs j d), up i j (f d) le (omega (arith, length-map xs f)))
