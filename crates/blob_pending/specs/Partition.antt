-- The lists that a removal of a partition ends, by the numbers of their incarnations.
use Rattle.std.specs.Prelude.{◌≡◌, ℕ, List, [], Bool, ◌&&◌, false, Option, None, Some, All, cond, filter, nat_eq}
use Rattle.std.specs.List.{list_any}
use Rattle.std.specs.declared.vec.Vec.{Vec}
use Rattle.std.specs.declared.alloc.Global.{Global}
use Rattle.blob_model.specs.Directory.{Directory}
use Rattle.blob_model.specs.Places.{Place}
use Rattle.blob_pending.specs.Lists.{is_removed_in, list_of, RetiresRemoved}
use Rattle.blob_pending.specs.Numbers.{AreIndexed}
use Rattle.blob_pending.specs.declared.incarnation.Incarnation.{Incarnation}

-- of each list it is noted whether a removal of this partition ends its incarnation
abbrev pub AreNoted : {O : Type 0} → (O → Place) → Directory → List ℕ → List (Incarnation O) → Type 0
AreNoted place d p is = All (λ i. i.ends ≡ is_removed_in place d p None i) is

-- whether a removal of this partition ends an incarnation with this number that has a list
abbrev pub ends_number : {O : Type 0} → (O → Place) → Directory → List ℕ → List (Incarnation O) → ℕ → Bool
ends_number place d p is n = list_any (λ i. nat_eq n (place i.origin).number && is_removed_in place d p None i) is

-- that is the answer if the lists have an index of these keys
abbrev pub EndsIndexed : {O : Type 0} → (O → Place) → Directory → List ℕ → List (Incarnation O) → List ℕ → ℕ → Bool → Type 0
EndsIndexed place d p is keys n answer = AreIndexed place is keys false → answer ≡ ends_number place d p is n

-- those numbers are kept
abbrev pub KeepsEnding : {O : Type 0} → (O → Place) → Directory → List ℕ → List (Incarnation O) → List ℕ → List ℕ → Type 0
KeepsEnding place d p is old new = new ≡ filter (ends_number place d p is) old

-- a removal of this partition ends the incarnations with these numbers, of those that have lists; with None, that is noted
abbrev pub AreOfPartition : {O : Type 0} → (O → Place) → Directory → List ℕ → List (Incarnation O) → Option (Vec ℕ Global) → Type 0
AreOfPartition place d p is (Some numbers) = All (λ i. is_removed_in place d p None i ≡ list_any (nat_eq (place i.origin).number) numbers.items) is
AreOfPartition place d p is None = AreNoted place d p is

-- nothing is pending of incarnations with this number, and of the others the same
abbrev pub RetiresNumber : {O : Type 0} → (O → Place) → List (Incarnation O) → List (Incarnation O) → ℕ → Type 0
RetiresNumber place old new n = (a : Place) → list_of place new a ≡ cond (nat_eq a.number n) [] (list_of place old a)

-- nothing is pending of the incarnations of the partition whose lists those are, and of the others the same
abbrev pub RetiresPartition : {O : Type 0} → (O → Place) → List (Incarnation O) → List (Incarnation O) → Option (Vec ℕ Global) → Type 0
RetiresPartition place old new numbers = (d : Directory) (p : List ℕ) → AreOfPartition place d p old numbers → RetiresRemoved place d p None old new
