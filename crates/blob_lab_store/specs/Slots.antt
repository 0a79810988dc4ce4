-- What slots hold, by number.
use Rattle.std.specs.Prelude.{◌≡◌, ℕ, ◌+◌, ◌<◌, ◌≤◌, ◌^◌, ◌-◌, ◌==◌, List, [], ◌∷◌, Option, None, Some, cond, map, slice_index_or, vec_len, vec_capacity}
use Rattle.std.specs.List.{range_with_len}
use Rattle.blob_lab_store.specs.declared.slots.Slots.{Slots}

-- the value of the first slot with this number
abbrev pub found : {X : Type 0} → List ℕ → List (Option X) → ℕ → Option X
found [] values number = None
found (n ∷ ns) [] number = None
found (n ∷ ns) (v ∷ vs) number = cond (n == number) v (found ns vs number)

-- the value of each number that was given
abbrev pub by_number : {X : Type 0} → List ℕ → List (Option X) → ℕ → List (Option X)
by_number numbers values given = map (found numbers values) (range_with_len 0 given)

abbrev pub values_of : {X : Type 0} → Slots X → List (Option X)
values_of slots = by_number slots.numbers.items slots.values.items slots.given

-- the slot at this index has this number
abbrev pub IsAt : {X : Type 0} → Slots X → ℕ → ℕ → Type 0
IsAt slots number i = (i < vec_len slots.values) × (slice_index_or slots.numbers.items i 0 ≡ number)

-- capacity and a number for one more
abbrev pub HasRoom : {X : Type 0} → Slots X → Type 0
HasRoom slots = (vec_len slots.values + 1 ≤ vec_capacity slots.values) × (vec_len slots.numbers + 1 ≤ vec_capacity slots.numbers) × (slots.given < 2 ^ 64 - 1)

-- the numbers and the values of the slots that have a value
abbrev pub full_numbers : {X : Type 0} → List ℕ → List (Option X) → List ℕ
full_numbers [] values = []
full_numbers (n ∷ ns) [] = []
full_numbers (n ∷ ns) (None ∷ vs) = full_numbers ns vs
full_numbers (n ∷ ns) (Some v ∷ vs) = n ∷ full_numbers ns vs

abbrev pub full_values : {X : Type 0} → List (Option X) → List (Option X)
full_values [] = []
full_values (None ∷ vs) = full_values vs
full_values (Some v ∷ vs) = Some v ∷ full_values vs
