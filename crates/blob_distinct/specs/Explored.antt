-- What an exploration has found.
use Rattle.std.specs.Prelude.{◌≡◌, ◌<◌, ◌-◌, ◌^◌, ℕ, List, [], ◌∷◌, ◌++◌, length, map, string_bytes}
use Rattle.blob_distinct.specs.Distinct.{Distinct, LeafText, behind, leaf_text, outcomes_in, outcomes_of}
use Rattle.blob_distinct.specs.declared.explored.Explored.{Explored}

-- the outcomes, each with the shared text before its own
abbrev pub outcomes_found : Explored → List Distinct
outcomes_found explored = map (behind (string_bytes explored.shared)) (outcomes_in explored.outcomes)

-- it has counted these leaves, in this order
pub record HasCounted (explored : Explored) (leaves : List LeafText) : Type 0 where
  pub count : explored.leaves ≡ length leaves
  pub outcomes : outcomes_found explored ≡ outcomes_of leaves

-- one more leaf was counted, by its words and its text after the shared one
abbrev pub Counts : Explored → List ℕ → List ℕ → Explored → Type 0
Counts old words text new =
    (leaves : List LeafText) → length leaves < 2 ^ 64 - 1 → HasCounted old leaves → HasCounted new (leaves ++ leaf_text words (string_bytes old.shared ++ text) ∷ [])
