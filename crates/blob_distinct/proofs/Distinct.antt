-- One more leaf among the distinct outcomes.
use Rattle.std.proofs.Common.{◌≡◌, ◌<◌, ◌≤◌, ℕ, suc, ◌+◌, Bool, true, false, not, cond, List, [], ◌∷◌, ◌++◌, filter, length, refl, sym, ap, ◌∙◌, subst, arith, if◌then◌else◌}
use Rattle.std.specs.Str.{bytes_eq}
use Rattle.std.specs.List.{AllByRecursion}
use Rattle.std.specs.Cmp.Lexicographic.{nat_list_eq_equiv}
use Rattle.std.proofs.lemmas.Slice.Eq.{bytes_eq-Decides}
use Rattle.blob_distinct.specs.Distinct.{Distinct, LeafText, has_text, is_other, outcomes_of, with_leaf}

same_text : (a b : List ℕ) → bytes_eq a b ≡ true → a ≡ b
same_text a b h = (bytes_eq-Decides a b).0 h

-- a leaf of the outcome that is left out changes no other one
left_out : (x : LeafText) (os : List Distinct) → filter (is_other x.text) (with_leaf os x) ≡ filter (is_other x.text) os
left_out x [] = ap (λ (b : Bool). cond (not b) (record { text = x.text; leaves = 1; words = x.words } ∷ []) []) (nat_list_eq_equiv.refl x.text)
left_out x (o ∷ os) = by (bytes_eq x.text o.text) refl (left_out x os)
  where
    by : (b : Bool) → bytes_eq x.text o.text ≡ b → filter (is_other x.text) (with_leaf os x) ≡ filter (is_other x.text) os
        → filter (is_other x.text) (with_leaf (o ∷ os) x) ≡ filter (is_other x.text) (o ∷ os)
    by true e h = grind arith
    by false e h = grind arith

-- a leaf of another outcome
kept : (text : List ℕ) (x : LeafText) (os : List Distinct) → bytes_eq text x.text ≡ false → filter (is_other text) (with_leaf os x) ≡ with_leaf (filter (is_other text) os) x
kept text x [] h = grind arith
kept text x (o ∷ os) h = by (bytes_eq x.text o.text) refl (bytes_eq text o.text) refl (kept text x os h)
  where
    by : (b : Bool) → bytes_eq x.text o.text ≡ b → (c : Bool) → bytes_eq text o.text ≡ c → filter (is_other text) (with_leaf os x) ≡ with_leaf (filter (is_other text) os) x
        → filter (is_other text) (with_leaf (o ∷ os) x) ≡ with_leaf (filter (is_other text) (o ∷ os)) x
    by true e true f k = let same : x.text ≡ o.text = same_text x.text o.text e in cc
    by true e false f k = grind arith
    by false e true f k = grind arith
    by false e false f k = grind arith

count_more : (text : List ℕ) (xs : List LeafText) (x : LeafText) → length (filter (has_text text) (xs ++ x ∷ [])) ≡ length (filter (has_text text) xs) + cond (bytes_eq text x.text) 1 0
count_more text [] x = grind arith
count_more text (y ∷ xs) x = grind (arith, count_more text xs x)

abbrev with_first : LeafText → ℕ → List Distinct → List Distinct
with_first leaf leaves others = record { text = leaf.text; leaves = leaves; words = leaf.words } ∷ others

pub one_more : (xs : List LeafText) (x : LeafText) → outcomes_of (xs ++ x ∷ []) ≡ with_leaf (outcomes_of xs) x
one_more [] x = ap (λ (b : Bool). with_first x (length (cond b (x ∷ []) [])) []) (nat_list_eq_equiv.refl x.text)
one_more (y ∷ xs) x = by (bytes_eq x.text y.text) refl (one_more xs x)
  where
    by : (b : Bool) → bytes_eq x.text y.text ≡ b → outcomes_of (xs ++ x ∷ []) ≡ with_leaf (outcomes_of xs) x → outcomes_of ((y ∷ xs) ++ x ∷ []) ≡ with_leaf (outcomes_of (y ∷ xs)) x
    by b e more =
        let os : List Distinct = outcomes_of xs in
        let others : List Distinct = filter (is_other y.text) os in
        let here : ℕ = length (filter (has_text y.text) (y ∷ xs)) in
        let turned : bytes_eq y.text x.text ≡ b = sym (nat_list_eq_equiv.symm x.text y.text) ∙ e in
        let count : length (filter (has_text y.text) ((y ∷ xs) ++ x ∷ [])) ≡ here + cond b 1 0 = count_more y.text (y ∷ xs) x ∙ ap (λ (c : Bool). here + cond c 1 0) turned in
        let first : outcomes_of ((y ∷ xs) ++ x ∷ []) ≡ with_first y (here + cond b 1 0) (filter (is_other y.text) (with_leaf os x)) =
        λ i. with_first y (count i) (filter (is_other y.text) (more i)) in
        let rest : with_first y (here + cond b 1 0) (filter (is_other y.text) (with_leaf os x)) ≡ (if b then with_first y (here + 1) others else with_first y here (with_leaf others x)) =
        elim b as (λ c. bytes_eq x.text y.text ≡ c → bytes_eq y.text x.text ≡ c
        → with_first y (here + cond c 1 0) (filter (is_other y.text) (with_leaf os x)) ≡ (if c then with_first y (here + 1) others else with_first y here (with_leaf others x))) [
          | true ↦ λ same _. ap (λ (fs : List Distinct). with_first y (here + 1) fs) (subst (λ (t : List ℕ). filter (is_other t) (with_leaf os x) ≡ filter (is_other t) os) (same_text x.text y.text same) (left_out x os))
          | false ↦ λ _ other. let none : here + 0 ≡ here = omega arith in λ i. with_first y (none i) (kept y.text x os other i)
        ] e turned in
        first ∙ rest ∙ ap (λ (c : Bool). if c then with_first y (here + 1) others else with_first y here (with_leaf others x)) (sym e)

-- no outcome has more leaves than there are
few : (n : ℕ) (text : List ℕ) (os : List Distinct) → AllByRecursion (λ o. o.leaves < n) os → AllByRecursion (λ o. o.leaves < n) (filter (is_other text) os)
few n text [] h = h
few n text (o ∷ os) h = elim (is_other text o) as (λ b. AllByRecursion (λ o. o.leaves < n) (cond b (o ∷ filter (is_other text) os) (filter (is_other text) os)))
    [ true ↦ (h.0, few n text os h.1) | false ↦ few n text os h.1 ]

passing : (text : List ℕ) (xs : List LeafText) → length (filter (has_text text) xs) ≤ length xs
passing text [] = omega arith
passing text (x ∷ xs) = elim (has_text text x) as (λ b. length (cond b (x ∷ filter (has_text text) xs) (filter (has_text text) xs)) ≤ suc (length xs))
    [ true ↦ omega (arith, passing text xs) | false ↦ omega (arith, passing text xs) ]

pub counts_fit : (n : ℕ) (xs : List LeafText) → length xs < n → AllByRecursion (λ o. o.leaves < n) (outcomes_of xs)
counts_fit n [] h = tt
counts_fit n (x ∷ xs) h = (omega (arith, passing x.text (x ∷ xs)), few n x.text (outcomes_of xs) (counts_fit n xs (omega arith)))
