-- Decision trees of choices among any number of branches, and the order in which an exploration visits their leaves.
use Rattle.std.specs.Prelude.{◌≡◌, ℕ, zero, suc, ◌-◌, min, nat_lt, Bool, if◌then◌else◌, List, [], ◌∷◌, ◌++◌, map, drop, Option, Some, None, option_map}
use Rattle.blob_tree.specs.declared.choice.Choice.{Choice}

-- A leaf is the end of a run. A choice has a kind, a first branch and `more` further ones: the run continues in the subtree of its branch.
pub data ChoiceTree : Type 0 where
  Leaf : ChoiceTree
  Choose : ℕ → ℕ → (ℕ → ChoiceTree) → ChoiceTree

abbrev pub chosen : ℕ → ℕ → ℕ → Choice
chosen kind more branch = record { kind = kind; branch = branch; among = suc more }

-- the lists of `count` branches from `first` on, one after the other
abbrev pub join_from : {X : Type 0} → ℕ → ℕ → (ℕ → List X) → List X
join_from zero first list = []
join_from (suc count) first list = list first ++ join_from count (suc first) list

-- the paths to all leaves, depth first, the branches in order
abbrev pub all_leaves : ChoiceTree → List (List Choice)
all_leaves Leaf = [] ∷ []
all_leaves (Choose kind more below) = join_from (suc more) 0 (λ branch. map (λ path. chosen kind more branch ∷ path) (all_leaves (below branch)))

-- the branch of a path's first choice; after the end of the path the first branch
abbrev pub branch_on : ℕ → List Choice → ℕ
branch_on more [] = 0
branch_on more (choice ∷ path) = min choice.branch more

-- the choices of a run along a path
abbrev pub choices_along : ChoiceTree → List Choice → List Choice
choices_along Leaf path = []
choices_along (Choose kind more below) path = chosen kind more (branch_on more path) ∷ choices_along (below (branch_on more path)) (drop 1 path)

-- the leaf that a path leads to, and all leaves after it
abbrev pub leaves_from : ChoiceTree → List Choice → List (List Choice)
leaves_from Leaf path = [] ∷ []
leaves_from (Choose kind more below) path =
    map (λ rest. chosen kind more (branch_on more path) ∷ rest) (leaves_from (below (branch_on more path)) (drop 1 path))
    ++ join_from (more - branch_on more path) (suc (branch_on more path)) (λ branch. map (λ path. chosen kind more branch ∷ path) (all_leaves (below branch)))

-- The path to the next leaf: the last choice that has a further branch takes it, and the choices after it are dropped.
abbrev pub next_branch : Choice → Option Choice
next_branch choice = if nat_lt (suc choice.branch) choice.among then Some (record choice { branch = suc choice.branch }) else None

abbrev pub next_after : Choice → Option (List Choice) → Option (List Choice)
next_after choice (Some path) = Some (choice ∷ path)
next_after choice None = option_map (λ next. next ∷ []) (next_branch choice)

abbrev pub path_after : List Choice → Option (List Choice)
path_after [] = None
path_after (choice ∷ path) = next_after choice (path_after path)

-- a path, if there is one
abbrev pub if_further : Bool → List Choice → Option (List Choice)
if_further more path = if more then Some path else None

-- the leaves from a path on, or none
abbrev pub leaves_after : ChoiceTree → Option (List Choice) → List (List Choice)
leaves_after t None = []
leaves_after t (Some path) = leaves_from t path

-- In each tree, after a run that made these choices along some path, the leaves from that path on are its own leaf and then those from the next path on.
abbrev pub AdvancesTo : List Choice → Option (List Choice) → Type 0
AdvancesTo made next = (t : ChoiceTree) (path : List Choice) → choices_along t path ≡ made → leaves_from t path ≡ made ∷ leaves_after t next

-- In each tree, the leaves from the empty path on are all leaves.
abbrev pub BeginsAtAll : Type 0
BeginsAtAll = (t : ChoiceTree) → leaves_from t [] ≡ all_leaves t
