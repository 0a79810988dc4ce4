-- Decision trees of draws with two outcomes, and the order in which an exploration visits their leaves.
use Rattle.std.specs.Prelude.{◌≡◌, ℕ, zero, suc, ◌^◌, ◌-◌, Bool, true, false, if◌then◌else◌, List, [], ◌∷◌, ◌++◌, map, Option, Some, None}

-- A leaf is the end of a run. A choice is a draw: the run continues in the first subtree if it is true, in the second if it is false.
pub data DecisionTree : Type 0 where
  Leaf : DecisionTree
  Choice : DecisionTree → DecisionTree → DecisionTree

-- A path is the outcomes of the draws, in order. The word 0 makes a draw true, and the greatest word makes it false.
abbrev pub outcome_word : Bool → ℕ
outcome_word outcome = if outcome then 0 else 2 ^ 64 - 1

abbrev pub words_of : List Bool → List ℕ
words_of path = map outcome_word path

-- the path ends exactly at a leaf
abbrev pub IsLeaf : DecisionTree → List Bool → Type 0
IsLeaf Leaf [] = Unit {0}
IsLeaf Leaf (outcome ∷ path) = ⊥
IsLeaf (Choice if_true if_false) [] = ⊥
IsLeaf (Choice if_true if_false) (true ∷ path) = IsLeaf if_true path
IsLeaf (Choice if_true if_false) (false ∷ path) = IsLeaf if_false path

-- the paths to all leaves, depth first, true before false
abbrev pub leaves : DecisionTree → List (List Bool)
leaves Leaf = [] ∷ []
leaves (Choice if_true if_false) = map (λ path. true ∷ path) (leaves if_true) ++ map (λ path. false ∷ path) (leaves if_false)

-- the number of draws of a run along a path; draws after its end are true
abbrev pub depth : DecisionTree → List Bool → ℕ
depth Leaf path = 0
depth (Choice if_true if_false) [] = suc (depth if_true [])
depth (Choice if_true if_false) (true ∷ path) = suc (depth if_true path)
depth (Choice if_true if_false) (false ∷ path) = suc (depth if_false path)

-- the first n outcomes of a path, which is continued by true
abbrev pub extend_path : ℕ → List Bool → List Bool
extend_path zero path = []
extend_path (suc n) [] = true ∷ extend_path n []
extend_path (suc n) (outcome ∷ path) = outcome ∷ extend_path n path

-- the leaf that a path leads to, and all leaves after it
abbrev pub left_from : DecisionTree → List Bool → List (List Bool)
left_from Leaf path = [] ∷ []
left_from (Choice if_true if_false) [] = map (λ path. true ∷ path) (left_from if_true []) ++ map (λ path. false ∷ path) (leaves if_false)
left_from (Choice if_true if_false) (true ∷ path) = map (λ path. true ∷ path) (left_from if_true path) ++ map (λ path. false ∷ path) (leaves if_false)
left_from (Choice if_true if_false) (false ∷ path) = map (λ path. false ∷ path) (left_from if_false path)

-- The path to the next leaf: the last true outcome becomes false, and the outcomes after it are dropped. None if no outcome is true.
abbrev pub next_behind : Bool → Option (List Bool) → Option (List Bool)
next_behind outcome (Some path) = Some (outcome ∷ path)
next_behind outcome None = if outcome then Some (false ∷ []) else None

abbrev pub next_path : List Bool → Option (List Bool)
next_path [] = None
next_path (outcome ∷ path) = next_behind outcome (next_path path)

-- the leaves from a path on, or none
abbrev pub left_after : DecisionTree → Option (List Bool) → List (List Bool)
left_after t None = []
left_after t (Some path) = left_from t path

-- a path, if there is one
abbrev pub if_more : Bool → List Bool → Option (List Bool)
if_more more path = if more then Some path else None

-- In each tree in which the old path makes `taken` draws, the leaves from the old path on are its own leaf and then those from the new path on.
abbrev pub Advances : List Bool → ℕ → Option (List Bool) → Type 0
Advances old taken new = (t : DecisionTree) → depth t old ≡ taken → left_from t old ≡ extend_path taken old ∷ left_after t new

-- In each tree, the leaves from the empty path on are all leaves.
abbrev pub BeginsAtFirst : Type 0
BeginsAtFirst = (t : DecisionTree) → left_from t [] ≡ leaves t
