-- The paths that a sequence of draws begins with.
use Rattle.std.specs.Prelude.{◌≡◌, ℕ, suc, Bool, List, [], ◌∷◌, ◌++◌}
use Rattle.std.specs.List.{AllByRecursion}

-- the first draws have the outcomes of the path
abbrev pub BeginsWith : (ℕ → Bool) → List Bool → Type 0
BeginsWith draws [] = Unit {0}
BeginsWith draws (outcome ∷ path) = (draws 0 ≡ outcome) × BeginsWith (λ i. draws (suc i)) path

abbrev pub BeginsWithNone : (ℕ → Bool) → List (List Bool) → Type 0
BeginsWithNone draws paths = AllByRecursion (λ path. BeginsWith draws path → ⊥) paths

-- exactly one of these paths
pub record BeginsWithOne (draws : ℕ → Bool) (paths : List (List Bool)) : Type 0 where
  pub before : List (List Bool)
  pub path : List Bool
  pub after : List (List Bool)
  pub parts : paths ≡ before ++ path ∷ after
  pub begins : BeginsWith draws path
  pub none_before : BeginsWithNone draws before
  pub none_after : BeginsWithNone draws after
