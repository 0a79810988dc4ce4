-- The numbers of slots.
use Rattle.std.specs.Prelude.{ℕ, ◌<◌, List, length, slice_index_or}

-- each is below those after it
abbrev pub IsAscending : List ℕ → Type 0
IsAscending numbers = (i j d : ℕ) → i < j → j < length numbers → slice_index_or numbers i d < slice_index_or numbers j d

abbrev pub IsBelow : List ℕ → ℕ → Type 0
IsBelow numbers given = (i d : ℕ) → i < length numbers → slice_index_or numbers i d < given
