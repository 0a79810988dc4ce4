-- Copies of pending lists: what contracts see of them is the same.
use Rattle.std.proofs.Common.{◌≡◌, List, [], ◌∷◌, ℕ, Bool, Option, map, refl, sym, ap, ap₂, ◌∙◌, subst}
use Rattle.std.specs.List.{All, AllZip}
use Rattle.blob_model.specs.Order.{ListAt, ArePlacesApart}
use Rattle.blob_model.specs.Pending.{Pending}
use Rattle.blob_model.specs.Places.{Place}
use Rattle.blob_pending.specs.declared.entry.Entry.{Entry}
use Rattle.blob_pending.specs.declared.incarnation.Incarnation.{Incarnation}
use Rattle.blob_pending.specs.Lists.{lists_of, AreDistinct}
use Rattle.blob_pending.specs.Numbers.{AreIndexed}
use Rattle.blob_pending.specs.Owners.{AreFound, AreOwned, IsOwned}
use Rattle.blob_pending.specs.Views.{view, views, left_in}
use Rattle.blob_pending.proofs.Distinct.{apart_of, distinct_of}
use Rattle.blob_pending.proofs.Numbering.{indexed_held}

pub views_copied : (es fs : List Entry) → AllZip (λ a b. view b ≡ view a) es fs → views fs ≡ views es
views_copied [] [] h = refl
views_copied [] (f ∷ fs) h = absurd h
views_copied (e ∷ es) [] h = absurd h
views_copied (e ∷ es) (f ∷ fs) h = ap₂ (λ (p : Pending) (q : List Pending). p ∷ q) h.0 (views_copied es fs h.1)

module _ {O : Type 0} (place : O → Place) (is_clone : O → O → Type 0) (same : (a b : O) → is_clone a b → b ≡ a) where
  pub held_copied : (is js : List (Incarnation O)) → AllZip (λ a b. is_clone a.origin b.origin × (left_in b.entries.items ≡ left_in a.entries.items)) is js → lists_of place js ≡ lists_of place is
  held_copied [] [] h = refl
  held_copied [] (j ∷ js) h = absurd h
  held_copied (i ∷ is) [] h = absurd h
  held_copied (i ∷ is) (j ∷ js) h = λ k. (place (same i.origin j.origin h.0.0 k), h.0.1 k) ∷ held_copied is js h.1 k

pub distinct_copied : {O : Type 0} (place : O → Place) (is js : List (Incarnation O)) → ((a b : O) → place a ≡ place b → a ≡ b) → lists_of place js ≡ lists_of place is → AreDistinct is → AreDistinct js
distinct_copied place is js one same distinct = distinct_of place js (subst ArePlacesApart (sym same) (apart_of place is one distinct))

module _ {O : Type 0} (place : O → Place) (is js : List (Incarnation O)) (same : lists_of place js ≡ lists_of place is) where
  pub found_copied : (keys keys' : List ℕ) (searched : Bool) (owner owner' : ℕ → Option ℕ) (unmapped : Bool) → keys' ≡ keys → owner' ≡ owner
      → AreFound place is keys searched owner unmapped → AreFound place js keys' searched owner' unmapped
  found_copied keys keys' searched owner owner' unmapped same_keys same_owner found = record {
    lists = subst (λ (ks : List ℕ). AreIndexed place js ks searched) (sym same_keys) (indexed_held place is js keys searched (ap (λ (hs : List ListAt). map (λ (h : ListAt). h.0.number) hs) same) found.lists);
    indexed = found.indexed;
    markers = λ used. subst (λ (own : ℕ → Option ℕ). AreOwned place js own) (sym same_owner) (subst (λ (hs : List ListAt). All (IsOwned owner) hs) (sym same) (found.markers used));
  }
