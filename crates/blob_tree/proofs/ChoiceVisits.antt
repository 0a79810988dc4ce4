-- The leaves of a tree of choices, visited one after the other.
use Rattle.std.proofs.Common.{arith, ◌≡◌, ◌≤◌, ℕ, zero, suc, min, true, false, nat_lt, List, [], ◌∷◌, ◌++◌, map, drop, ◌-◌, Bool, if◌then◌else◌, Option, Some, None, refl, sym, ap, ◌∙◌, subst}
use Rattle.std.specs.Prelude.{option_map}
use Rattle.blob_tree.specs.ChoiceTrees.{ChoiceTree, Leaf, Choose, chosen, join_from, all_leaves, branch_on, choices_along, leaves_from, next_branch, next_after, path_after, leaves_after, AdvancesTo}
use Rattle.blob_tree.specs.declared.choice.Choice.{Choice}

-- the leaves of `count` branches from one on
abbrev joined : ℕ → ℕ → (ℕ → ChoiceTree) → ℕ → ℕ → List (List Choice)
joined kind more below count first = join_from count first (λ branch. map (λ path. chosen kind more branch ∷ path) (all_leaves (below branch)))

pub first : (t : ChoiceTree) → leaves_from t [] ≡ all_leaves t
first Leaf = refl
first (Choose kind more below) =
    let whole : more - 0 ≡ more = omega arith in
    ap (λ (n : ℕ). map (λ path. chosen kind more 0 ∷ path) (leaves_from (below 0) []) ++ joined kind more below n 1) whole
    ∙ ap (λ (ps : List (List Choice)). map (λ path. chosen kind more 0 ∷ path) ps ++ joined kind more below more 1) (first (below 0))

-- what follows the leaves below a branch: those of the further branches
further : (kind more : ℕ) (below : ℕ → ChoiceTree) (branch n : ℕ) → more - branch ≡ n
    → joined kind more below n (suc branch) ≡ leaves_after (Choose kind more below) (next_after (chosen kind more branch) None)
further kind more below branch zero e =
    let no : nat_lt (suc branch) (suc more) ≡ false = grind arith in
    ap (λ (b : Bool). leaves_after (Choose kind more below) (option_map (λ next. next ∷ []) (if b then Some (chosen kind more (suc branch)) else None))) (sym no)
further kind more below branch (suc n) e =
    let yes : nat_lt (suc branch) (suc more) ≡ true = grind arith in
    let same : min (suc branch) more ≡ suc branch = omega arith in
    let fewer : more - suc branch ≡ n = omega arith in
    let here : joined kind more below (suc n) (suc branch) ≡ leaves_from (Choose kind more below) (chosen kind more (suc branch) ∷ []) =
    ap (λ (ps : List (List Choice)). map (λ path. chosen kind more (suc branch) ∷ path) ps ++ joined kind more below n (suc (suc branch))) (sym (first (below (suc branch))))
    ∙ ap (λ (k : ℕ). map (λ path. chosen kind more (suc branch) ∷ path) (leaves_from (below (suc branch)) []) ++ joined kind more below k (suc (suc branch))) (sym fewer)
    ∙ ap (λ (b : ℕ). map (λ path. chosen kind more b ∷ path) (leaves_from (below b) []) ++ joined kind more below (more - b) (suc b)) (sym same) in
    here ∙ ap (λ (b : Bool). leaves_after (Choose kind more below) (option_map (λ next. next ∷ []) (if b then Some (chosen kind more (suc branch)) else None))) (sym yes)

-- below a branch that is taken
below_choice : (kind more : ℕ) (below : ℕ → ChoiceTree) (branch : ℕ) → branch ≤ more → (here : List Choice) (next : Option (List Choice)) (rest : List (List Choice))
    → rest ≡ here ∷ leaves_after (below branch) next
    → map (λ path. chosen kind more branch ∷ path) rest ++ joined kind more below (more - branch) (suc branch)
    ≡ (chosen kind more branch ∷ here) ∷ leaves_after (Choose kind more below) (next_after (chosen kind more branch) next)
below_choice kind more below branch fits here None rest e =
    ap (λ (ps : List (List Choice)). map (λ path. chosen kind more branch ∷ path) ps ++ joined kind more below (more - branch) (suc branch)) e
    ∙ ap (λ (ps : List (List Choice)). (chosen kind more branch ∷ here) ∷ ps) (further kind more below branch (more - branch) refl)
below_choice kind more below branch fits here (Some q) rest e =
    let same : min branch more ≡ branch = omega arith in
    ap (λ (ps : List (List Choice)). map (λ path. chosen kind more branch ∷ path) ps ++ joined kind more below (more - branch) (suc branch)) e
    ∙ ap (λ (b : ℕ). (chosen kind more branch ∷ here) ∷ (map (λ path. chosen kind more b ∷ path) (leaves_from (below b) q) ++ joined kind more below (more - b) (suc b))) (sym same)

branch_fits : (more : ℕ) (path : List Choice) → branch_on more path ≤ more
branch_fits more [] = omega arith
branch_fits more (choice ∷ path) = omega arith

visits : (t : ChoiceTree) (path : List Choice) → leaves_from t path ≡ choices_along t path ∷ leaves_after t (path_after (choices_along t path))
visits Leaf path = refl
visits (Choose kind more below) path =
    let branch = branch_on more path in
    below_choice kind more below branch (branch_fits more path) (choices_along (below branch) (drop 1 path)) (path_after (choices_along (below branch) (drop 1 path)))
    (leaves_from (below branch) (drop 1 path)) (visits (below branch) (drop 1 path))

pub advances : (made : List Choice) (next : Option (List Choice)) → path_after made ≡ next → AdvancesTo made next
advances made next e = λ t path d.
    subst (λ (n : Option (List Choice)). leaves_from t path ≡ made ∷ leaves_after t n) e
    (subst (λ (cs : List Choice). leaves_from t path ≡ cs ∷ leaves_after t (path_after cs)) d (visits t path))

-- A choice at the end of a path.

pub path_after-push_more : (path : List Choice) (choice next : Choice) → next_branch choice ≡ Some next → path_after (path ++ choice ∷ []) ≡ Some (path ++ next ∷ [])
path_after-push_more [] choice next e = ap (option_map (λ next. next ∷ [])) e
path_after-push_more (c ∷ path) choice next e = ap (next_after c) (path_after-push_more path choice next e)

pub path_after-push_last : (path : List Choice) (choice : Choice) → next_branch choice ≡ None → path_after (path ++ choice ∷ []) ≡ path_after path
path_after-push_last [] choice e = ap (option_map (λ next. next ∷ [])) e
path_after-push_last (c ∷ path) choice e = ap (next_after c) (path_after-push_last path choice e)
