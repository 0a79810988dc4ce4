-- The map that finds a marker's list, by the number of its incarnation.
use Rattle.std.specs.Prelude.{◌≡◌, ◌<◌, ℕ, Bool, true, false, List, Option, None, Some, length, nat_eq}
use Rattle.std.proofs.Common.{get_or}
use Rattle.std.specs.List.{All, IsDistinct, list_any}
use Rattle.blob_model.specs.Order.{ListAt}
use Rattle.blob_model.specs.Places.{Place, same_place}
use Rattle.blob_model.specs.Pending.{has_mark}
use Rattle.blob_pending.specs.Lists.{lists_of, list_of}
use Rattle.blob_pending.specs.Marks.{marks_of}
use Rattle.blob_pending.specs.Numbers.{AreIndexed}
use Rattle.blob_pending.specs.declared.incarnation.Incarnation.{Incarnation}

-- each marker of a list stands there once, and is mapped to the number of its incarnation
pub record IsOwned (owner : ℕ → Option ℕ) (h : ListAt) : Type 0 where
  pub once : IsDistinct nat_eq (marks_of h.1)
  pub owned : (m : ℕ) → list_any (nat_eq m) (marks_of h.1) ≡ true → owner m ≡ Some h.0.number

-- so is each marker of all lists
abbrev pub AreOwned : {O : Type 0} → (O → Place) → List (Incarnation O) → (ℕ → Option ℕ) → Type 0
AreOwned place is owner = All (IsOwned owner) (lists_of place is)

-- the lists are indexed by their numbers, and the markers mapped to them; each unless it is not used
pub record AreFound {O : Type 0} (place : O → Place) (is : List (Incarnation O)) (keys : List ℕ) (searched : Bool) (owner : ℕ → Option ℕ) (unmapped : Bool) : Type 0 where
  pub lists : AreIndexed place is keys searched
  pub indexed : unmapped ≡ false → searched ≡ false
  pub markers : unmapped ≡ false → AreOwned place is owner

-- no list but the one at that index has a marker, or with None no list has
abbrev pub IsStartedIn : {O : Type 0} → (O → Place) → List (Incarnation O) → ℕ → Option ℕ → Type 0
IsStartedIn {O} place is m (Some i) = (i < length is) × ((a : Place) (e : Incarnation O) → same_place (place (get_or is i e).origin) a ≡ false → has_mark m (list_of place is a) ≡ false)
IsStartedIn place is m None = (a : Place) → has_mark m (list_of place is a) ≡ false
