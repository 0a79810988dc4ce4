-- The index that finds a list by the number of its incarnation.
use Rattle.std.specs.Prelude.{◌≡◌, ℕ, Bool, false, List, map, nat_eq}
use Rattle.std.specs.List.{IsDistinct}
use Rattle.blob_model.specs.Places.{Place}
use Rattle.blob_pending.specs.declared.incarnation.Incarnation.{Incarnation}

-- the number of each list's incarnation
abbrev pub numbers_of : {O : Type 0} → (O → Place) → List (Incarnation O) → List ℕ
numbers_of place is = map (λ i. (place i.origin).number) is

-- the keys of the index differ, and if it is used, they are the numbers of the lists, in their order
pub record AreIndexed {O : Type 0} (place : O → Place) (is : List (Incarnation O)) (keys : List ℕ) (searched : Bool) : Type 0 where
  pub distinct : IsDistinct nat_eq keys
  pub numbers : searched ≡ false → keys ≡ numbers_of place is
