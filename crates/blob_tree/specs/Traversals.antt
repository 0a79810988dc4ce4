-- A traversal of a tree of choices. Its path and the choices of its run are the first ones of a list that the caller keeps.
use Rattle.std.specs.Prelude.{◌≡◌, ◌⊎◌, ℕ, zero, suc, ◌+◌, ◌-◌, ◌<◌, ◌==◌, ◌&&◌, ◌||◌, not, nat_lt, Bool, false, List, [], ◌∷◌, ◌++◌, take, drop, length, replicate}
use Rattle.blob_tree.specs.ChoiceTrees.{branch_on, chosen}
use Rattle.blob_tree.specs.declared.choice.Choice.{Choice}
use Rattle.blob_tree.specs.declared.choice.TheConstants.{DRAW, DRAWN_SIZE}
use Rattle.blob_tree.specs.declared.traversal.Traversal.{Traversal}

-- the path; what the run has not followed of it yet; and what of it is below the root
abbrev pub path_of : Traversal → List Choice → List Choice
path_of t choices = take t.len choices

abbrev pub path_ahead : Traversal → List Choice → List Choice
path_ahead t choices = drop t.taken (path_of t choices)

abbrev pub path_below_root : Traversal → List Choice → List Choice
path_below_root t choices = drop t.root (path_of t choices)

-- the choices that the run has made, if it follows the path
abbrev pub made_of : Traversal → List Choice → List Choice
made_of t choices = take t.taken choices

-- A choice is asked for by its kind, and by how many further branches it has after the first. These are the choices along a path.
abbrev pub made_along : List (ℕ × ℕ) → List Choice → List Choice
made_along [] path = []
made_along (ask ∷ asks) path = chosen ask.0 ask.1 (branch_on ask.1 path) ∷ made_along asks (drop 1 path)

-- the path has other choices than those that are asked for
abbrev pub fits : ℕ × ℕ → Choice → Bool
fits ask choice = choice.kind == ask.0 && choice.among == suc ask.1 && nat_lt choice.branch choice.among

abbrev pub differs_along : List (ℕ × ℕ) → List Choice → Bool
differs_along [] path = false
differs_along (ask ∷ asks) [] = false
differs_along (ask ∷ asks) (choice ∷ path) = not (fits ask choice) || differs_along asks path

-- the run makes the choices that are asked for
pub record Makes (asks : List (ℕ × ℕ)) (t : Traversal) (choices : List Choice) (t' : Traversal) (choices' : List Choice) : Type 0 where
  pub taken : t'.taken ≡ t.taken + length asks
  pub made : t'.differs ≡ false → made_of t' choices' ≡ made_of t choices ++ made_along asks (path_ahead t choices)
  pub differs : t'.differs ≡ (t.differs || differs_along asks (path_ahead t choices))
  pub path : path_of t' choices' ≡ path_of t choices
  pub others : t' ≡ record t { taken = t'.taken; differs = t'.differs; drawn = t'.drawn }

-- how many words were taken since the draws were counted, if `left` are left
abbrev pub new_draws : Traversal → ℕ → ℕ
new_draws t left = t.given - left - t.drawn

-- a draw that is true or false
abbrev pub draws : ℕ → List (ℕ × ℕ)
draws count = replicate count (DRAW, 1)

-- draws of which the last one is that of a size, with `more` further branches after the first
abbrev pub draws_and_size : ℕ → ℕ → List (ℕ × ℕ)
draws_and_size zero more = []
draws_and_size (suc count) more = draws count ++ (DRAWN_SIZE, more) ∷ []

-- the list is too short for the path, or for `more` choices after those that were made
abbrev pub IsFull : ℕ → Traversal → List Choice → Type 0
IsFull more t choices = (length choices < t.len) ⊎ (length choices < t.taken + more)
