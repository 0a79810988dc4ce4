-- Paths, and the directories that they lead to.
use Rattle.std.specs.Prelude.{◌≡◌, ◌==◌, ℕ, Bool, true, false, List, [], ◌∷◌, ◌++◌, Some, filter}
use Rattle.std.specs.List.{slice_split}
use Rattle.blob_directory.specs.Names.{Names, directory_at, entry}

abbrev pub is_slash : ℕ → Bool
is_slash b = b == 47

abbrev pub has_bytes : List ℕ → Bool
has_bytes [] = false
has_bytes (b ∷ name) = true

-- the names of a path: the parts between its slashes that aren't empty
abbrev pub path_names : List ℕ → List (List ℕ)
path_names path = filter has_bytes (slice_split is_slash path)

-- names lead from a directory to another one
abbrev pub Leads : Names → ℕ → List (List ℕ) → ℕ → Type 0
Leads names from [] to = to ≡ from
Leads names from (name ∷ path) to = (d : ℕ) × (names (entry from name) ≡ Some (directory_at d)) × Leads names d path to

-- a path leads from the root to a directory
abbrev pub LeadsTo : Names → List ℕ → ℕ → Type 0
LeadsTo names path directory = Leads names 1 (path_names path) directory

-- a path leads from the root to a name in a directory
pub record IsPlace (names : Names) (path : List ℕ) (directory : ℕ) (name : List ℕ) : Type 0 where
  pub above : List (List ℕ)
  pub is : path_names path ≡ above ++ name ∷ []
  pub leads : Leads names 1 above directory
