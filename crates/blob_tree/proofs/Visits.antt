-- The leaves of a tree, visited one after the other.
use Rattle.std.proofs.Common.{arith, ◌≡◌, ℕ, zero, suc, Bool, true, false, List, [], ◌∷◌, ◌++◌, map, replicate, take, length, ◌-◌, Option, Some, None, refl, sym, ap, ◌∙◌, subst}
use Rattle.blob_tree.specs.Trees.{DecisionTree, Leaf, Choice, leaves, depth, extend_path, left_from, next_path, next_behind, left_after, Advances}

pub first : (t : DecisionTree) → left_from t [] ≡ leaves t
first Leaf = refl
first (Choice if_true if_false) = ap (λ (ps : List (List Bool)). map (λ path. true ∷ path) ps ++ map (λ path. false ∷ path) (leaves if_false)) (first if_true)

-- below a draw that is true
below_true : (if_true if_false : DecisionTree) (here : List Bool) (next : Option (List Bool)) (rest : List (List Bool)) → rest ≡ here ∷ left_after if_true next
    → map (λ path. true ∷ path) rest ++ map (λ path. false ∷ path) (leaves if_false) ≡ (true ∷ here) ∷ left_after (Choice if_true if_false) (next_behind true next)
below_true if_true if_false here None rest e =
    ap (λ (ps : List (List Bool)). map (λ path. true ∷ path) ps ++ map (λ path. false ∷ path) (leaves if_false)) e
    ∙ ap (λ (ps : List (List Bool)). (true ∷ here) ∷ map (λ path. false ∷ path) ps) (sym (first if_false))
below_true if_true if_false here (Some q) rest e = ap (λ (ps : List (List Bool)). map (λ path. true ∷ path) ps ++ map (λ path. false ∷ path) (leaves if_false)) e

-- below one that is false
below_false : (if_true if_false : DecisionTree) (here : List Bool) (next : Option (List Bool)) (rest : List (List Bool)) → rest ≡ here ∷ left_after if_false next
    → map (λ path. false ∷ path) rest ≡ (false ∷ here) ∷ left_after (Choice if_true if_false) (next_behind false next)
below_false if_true if_false here None rest e = ap (λ (ps : List (List Bool)). map (λ path. false ∷ path) ps) e
below_false if_true if_false here (Some q) rest e = ap (λ (ps : List (List Bool)). map (λ path. false ∷ path) ps) e

visits : (t : DecisionTree) (path : List Bool) → left_from t path ≡ extend_path (depth t path) path ∷ left_after t (next_path (extend_path (depth t path) path))
visits Leaf [] = refl
visits Leaf (o ∷ path) = refl
visits (Choice if_true if_false) [] = below_true if_true if_false (extend_path (depth if_true []) []) (next_path (extend_path (depth if_true []) [])) (left_from if_true []) (visits if_true [])
visits (Choice if_true if_false) (true ∷ path) = below_true if_true if_false (extend_path (depth if_true path) path) (next_path (extend_path (depth if_true path) path)) (left_from if_true path) (visits if_true path)
visits (Choice if_true if_false) (false ∷ path) = below_false if_true if_false (extend_path (depth if_false path) path) (next_path (extend_path (depth if_false path) path)) (left_from if_false path) (visits if_false path)

pub advances : (old : List Bool) (taken : ℕ) (next : Option (List Bool)) → next_path (extend_path taken old) ≡ next → Advances old taken next
advances old taken next e = λ t d.
    subst (λ (n : Option (List Bool)). left_from t old ≡ extend_path taken old ∷ left_after t n) e
    (subst (λ (k : ℕ). left_from t old ≡ extend_path k old ∷ left_after t (next_path (extend_path k old))) d (visits t old))

-- Outcomes at the end of a path.

pub next_path-push_false : (path : List Bool) → next_path (path ++ false ∷ []) ≡ next_path path
next_path-push_false [] = refl
next_path-push_false (o ∷ path) = ap (next_behind o) (next_path-push_false path)

pub next_path-push_true : (path : List Bool) → next_path (path ++ true ∷ []) ≡ Some (path ++ false ∷ [])
next_path-push_true [] = refl
next_path-push_true (o ∷ path) = ap (next_behind o) (next_path-push_true path)

extended-nil : (n : ℕ) → replicate n true ≡ extend_path n []
extended-nil zero = refl
extended-nil (suc n) = ap (λ (p : List Bool). true ∷ p) (extended-nil n)

pub extended-resized : (n : ℕ) (path : List Bool) → take n path ++ replicate (n - length path) true ≡ extend_path n path
extended-resized zero [] = refl
extended-resized zero (o ∷ path) = let e : 0 - suc (length path) ≡ 0 = omega arith in ap (λ (k : ℕ). replicate k true) e
extended-resized (suc n) [] = let e : suc n - 0 ≡ suc n = omega arith in ap (λ (k : ℕ). replicate k true) e ∙ extended-nil (suc n)
extended-resized (suc n) (o ∷ path) =
    let e : suc n - suc (length path) ≡ n - length path = omega arith in
    ap (λ (k : ℕ). o ∷ take n path ++ replicate k true) e ∙ ap (λ (p : List Bool). o ∷ p) (extended-resized n path)
