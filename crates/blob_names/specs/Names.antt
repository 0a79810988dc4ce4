-- A map of two levels as a function of partition and name.
use Rattle.std.specs.Prelude.{ℕ, List, cond, Option, Some, None}
use Rattle.std.specs.BTreeMap.{BTreeMap, get_by}
use Rattle.std.specs.Ordering.{nat_cmp}
use Rattle.std.specs.Cmp.Lexicographic.{slice_cmp}
use Rattle.std.specs.Str.{bytes_eq}
use Rattle.std.specs.String.{string_bytes}
use Rattle.blob_names.specs.declared.names.Names.{Names}

-- the value at the key with these bytes
abbrev pub value_at : {K X : Type 0} → (K → List ℕ) → BTreeMap K X → List ℕ → Option X
value_at bytes m bs = get_by (λ k. slice_cmp nat_cmp bs (bytes k)) m

-- the value in an inner map, if there is one
abbrev pub below : {M X : Type 0} → (M → List ℕ → Option X) → Option M → List ℕ → Option X
below v None n = None
below v (Some m) n = v m n

-- the value of a name
abbrev pub at : {V : Type 0} → Names V → List ℕ → List ℕ → Option V
at s p n = below (value_at (λ k. k.items)) (value_at string_bytes s.partitions p) n

-- a new value for one name
abbrev pub with_name : {X : Type 0} → (List ℕ → List ℕ → X) → List ℕ → List ℕ → X → List ℕ → List ℕ → X
with_name f p n value q m = cond (bytes_eq p q) (cond (bytes_eq n m) value (f q m)) (f q m)

-- a new value for all names of a partition
abbrev pub with_all_names : {X : Type 0} → (List ℕ → List ℕ → X) → X → List ℕ → List ℕ → List ℕ → X
with_all_names f x p q m = cond (bytes_eq p q) x (f q m)
