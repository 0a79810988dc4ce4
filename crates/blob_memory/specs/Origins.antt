-- The place that an origin names.
use Rattle.std.specs.Prelude.{ℕ, List}
use Rattle.blob_model.specs.Places.{Place}

-- the place of these parts
abbrev pub place_at : List ℕ → List ℕ → ℕ → ℕ → Place
place_at p n number start = record { partition = p; name = n; number = number; start = start }
