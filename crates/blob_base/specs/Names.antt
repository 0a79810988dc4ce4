-- The names of a partition, as a list.
use Rattle.std.specs.Prelude.{◌≡◌, ℕ, List, Bool, Contains, IsTrue, ◌↔◌, Vec, map, is_some, true, None}
use Rattle.std.specs.Global.{Global}
use Rattle.std.specs.Ordering.{nat_cmp}
use Rattle.std.specs.Cmp.Lexicographic.{slice_cmp}
use Rattle.std.specs.List.Sorted.{IsStrictlySortedBy}
use Rattle.blob_model.specs.Directory.{Directory}
use Rattle.blob_model.specs.Files.{is_removed_by}
use Rattle.blob_model.specs.Places.{Place}

-- all existing names, each once, sorted by bytes
pub record AreNames (names : List (List ℕ)) (is_there : List ℕ → Bool) : Type 0 where
  pub sorted : IsStrictlySortedBy (slice_cmp nat_cmp) names
  pub complete : (name : List ℕ) → Contains names name ↔ IsTrue (is_there name)

-- these are all names of a partition that have a file
abbrev pub ListsNames : Directory → List ℕ → Vec (Vec ℕ Global) Global → Type 0
ListsNames d p names = AreNames (map (λ (name : Vec ℕ Global). name.items) names.items) (λ n. is_some (d.file p n))

-- among these are the numbers of all current incarnations of a partition
abbrev pub HasNumbers : Directory → List ℕ → List ℕ → Type 0
HasNumbers d p numbers = (o : Place) → is_removed_by d p None o ≡ true → Contains numbers o.number
