-- The lists that a removal of a partition ends, found by their numbers.
use Rattle.std.proofs.Common.{◌≡◌, ⊎_elim, ℕ, ◌<◌, Bool, true, false, cond, not, ◌&&◌, ◌||◌, nat_eq, None, Some, List, [], ◌∷◌, length, get_or, filter, refl, sym, ◌∙◌, ap, ap₂, subst, arith, true≢false, position}
use Rattle.std.specs.Cmp.{nat_eq_equiv}
use Rattle.std.specs.List.{list_any, All}
use Rattle.std.proofs.lemmas.Bool.{cases_eq, cases_Bool, cond-true, cond-false}
use Rattle.std.proofs.lemmas.List.{get_or_default}
use Rattle.std.proofs.lemmas.List.Folds.{list_any_none, list_any_at}
use Rattle.std.proofs.lemmas.Map.Views.{any-filter_same, list_any-from_Contains}
use Rattle.blob_base.specs.Names.{HasNumbers}
use Rattle.blob_model.specs.Directory.{Directory}
use Rattle.blob_model.specs.Files.{is_removed_by}
use Rattle.blob_model.specs.Order.{held_at}
use Rattle.blob_model.specs.Pending.{Pending}
use Rattle.blob_model.specs.Places.{Place, same_place}
use Rattle.blob_model.specs.SamePlace.{same_place_exact, same_self}
use Rattle.blob_pending.specs.declared.incarnation.Incarnation.{Incarnation}
use Rattle.blob_pending.specs.Lists.{lists_of, list_of, is_removed_in, TakesList, RetiresRemoved, AreDistinct}
use Rattle.blob_pending.specs.Numbers.{AreIndexed}
use Rattle.blob_pending.specs.Partition.{ends_number, RetiresNumber}
use Rattle.blob_pending.proofs.Numbering.{equal, same_at, found_number, found_alone, not_found, key_within}
use Rattle.blob_pending.proofs.ListSteps.{held_filter, held_at_filter}
use Rattle.blob_pending.proofs.Taking.{at_of, none_of, look, Somewhere, Nowhere}

unequal : (a b : ℕ) → (b ≡ a → ⊥) → nat_eq a b ≡ false
unequal a b ne = ⊎_elim (λ y. absurd (ne (sym (equal a b y)))) (λ n. n) (cases_Bool (nat_eq a b))

first_false : (x y : Bool) → x ≡ false → (x && y) ≡ false
first_false x y e = ap (λ (b : Bool). b && y) e

second_false : (x y : Bool) → y ≡ false → (x && y) ≡ false
second_false true y e = e
second_false false y e = refl

module _ {O : Type 0} (place : O → Place) (is : List (Incarnation O)) (keys : List ℕ) (ix : AreIndexed place is keys false) (d : Directory) (p : List ℕ) where
  -- of a list's own number
  pub own_ends : (k : ℕ) (e : Incarnation O) → k < length is → ends_number place d p is (place (get_or is k e).origin).number ≡ is_removed_in place d p None (get_or is k e)
  own_ends k e h = ⊎_elim
      (λ removed. list_any_at (λ i. nat_eq n (place i.origin).number && is_removed_in place d p None i) is k e h (ap₂ (λ (x y : Bool). x && y) (nat_eq_equiv.refl n) removed) ∙ sym removed)
      (λ kept. list_any_none (λ i. nat_eq n (place i.origin).number && is_removed_in place d p None i) is (λ j f l. each j f l kept) ∙ sym kept)
      (cases_Bool (is_removed_in place d p None (get_or is k e)))
    where
      n : ℕ
      n = (place (get_or is k e).origin).number

      each : (j : ℕ) (f : Incarnation O) → j < length is → is_removed_in place d p None (get_or is k e) ≡ false → (nat_eq n (place (get_or is j f).origin).number && is_removed_in place d p None (get_or is j f)) ≡ false
      each j f l kept = ⊎_elim
          (λ same. second_false (nat_eq n (place (get_or is j f).origin).number) (is_removed_in place d p None (get_or is j f)) (ap (λ (m : ℕ). is_removed_in place d p None (get_or is m f)) same ∙ ap (is_removed_in place d p None) (get_or_default is k f e h) ∙ kept))
          (λ other. first_false (nat_eq n (place (get_or is j f).origin).number) (is_removed_in place d p None (get_or is j f)) (unequal n (place (get_or is j f).origin).number
          (λ its. other (same_at place is keys ix j k f l h (its ∙ ap (λ (i : Incarnation O). (place i.origin).number) (get_or_default is k e f h))))))
          (cases_eq j k)

  -- of a number that is found, and of one that isn't
  pub found_ends : (n i : ℕ) (x : Incarnation O) → position (nat_eq n) keys ≡ Some i → x ≡ get_or is i x → is_removed_by d p None (place x.origin) ≡ ends_number place d p is n
  found_ends n i x at here = ap (is_removed_in place d p None) here ∙ sym (own_ends i x (key_within place is keys ix n i at)) ∙ ap (ends_number place d p is) ((found_number place is keys ix n i at).1 x)

  pub none_ends : (n : ℕ) → position (nat_eq n) keys ≡ None → false ≡ ends_number place d p is n
  none_ends n none = sym (list_any_none (λ i. nat_eq n (place i.origin).number && is_removed_in place d p None i) is
      (λ k e h. first_false (nat_eq n (place (get_or is k e).origin).number) (is_removed_in place d p None (get_or is k e)) (unequal n (place (get_or is k e).origin).number (not_found place is keys ix n none k e h))))

  -- the numbers that are kept are those of the lists that end
  pub kept_ends : (ns : List ℕ) → HasNumbers d p ns → All (λ i. is_removed_in place d p None i ≡ list_any (nat_eq (place i.origin).number) (filter (ends_number place d p is) ns)) is
  kept_ends ns has k e h =
      let n : ℕ = (place (get_or is k e).origin).number in
      let own = own_ends k e h in
      ⊎_elim
      (λ removed. removed ∙ sym (any-filter_same (nat_eq n) (ends_number place d p is) true (λ m same. ap (ends_number place d p is) (sym (equal n m same)) ∙ own ∙ removed) ns
      ∙ list_any-from_Contains nat_eq_equiv n ns (has (place (get_or is k e).origin) removed)))
      (λ kept. kept ∙ sym (any-filter_same (nat_eq n) (ends_number place d p is) false (λ m same. ap (ends_number place d p is) (sym (equal n m same)) ∙ own ∙ kept) ns))
      (cases_Bool (is_removed_in place d p None (get_or is k e)))

module _ {O : Type 0} (place : O → Place) (is : List (Incarnation O)) (keys : List ℕ) (ix : AreIndexed place is keys false) where
  -- the list with a number is taken out
  pub retires_found : (js : List (Incarnation O)) (n i : ℕ) (e : Incarnation O) → ((x y : O) → place x ≡ place y → x ≡ y) → AreDistinct is → position (nat_eq n) keys ≡ Some i → TakesList place is js i → RetiresNumber place is js n
  retires_found js n i e one distinct at takes a =
      let h : i < length is = key_within place is keys ix n i at in
      let o : Place = place (get_or is i e).origin in
      takes o (at_of place is i e o one distinct h (same_self o)) a ∙ ⊎_elim
      (λ same. cond-true (same_place o a) [] (list_of place is a) same ∙ sym (cond-true (nat_eq a.number n) [] (list_of place is a)
      (ap₂ nat_eq (ap (λ (q : Place). q.number) (sym (same_place_exact o a same)) ∙ (found_number place is keys ix n i at).1 e) refl ∙ nat_eq_equiv.refl n)))
      (λ other. cond-false (same_place o a) [] (list_of place is a) other ∙ ⊎_elim
      (λ its. none_of place is a (λ k f l. ⊎_elim
      (λ y. absurd (true≢false (sym y ∙ ap (λ (q : Incarnation O). same_place (place q.origin) a) (ap (λ (m : ℕ). get_or is m f) (found_alone place is keys ix n i at k f l (ap (λ (q : Place). q.number) (same_place_exact _ a y) ∙ equal a.number n its)) ∙ get_or_default is i f e h) ∙ other)))
      (λ n0. n0)
      (cases_Bool (same_place (place (get_or is k f).origin) a))) ∙ sym (cond-true (nat_eq a.number n) [] (list_of place is a) its))
      (λ isnt. sym (cond-false (nat_eq a.number n) [] (list_of place is a) isnt))
      (cases_Bool (nat_eq a.number n)))
      (cases_Bool (same_place o a))

  pub retires_nothing : (n : ℕ) → position (nat_eq n) keys ≡ None → RetiresNumber place is is n
  retires_nothing n none a = ⊎_elim
      (λ its. none_of place is a (λ k f l. ⊎_elim
      (λ y. absurd (not_found place is keys ix n none k f l (ap (λ (q : Place). q.number) (same_place_exact _ a y) ∙ equal a.number n its)))
      (λ n0. n0)
      (cases_Bool (same_place (place (get_or is k f).origin) a))) ∙ sym (cond-true (nat_eq a.number n) [] (list_of place is a) its))
      (λ isnt. sym (cond-false (nat_eq a.number n) [] (list_of place is a) isnt))
      (cases_Bool (nat_eq a.number n))

pub retires_some : {O : Type 0} (place : O → Place) (is : List (Incarnation O)) (keys : List ℕ) (ix : AreIndexed place is keys false) (js : List (Incarnation O)) (n i : ℕ) → ((x y : O) → place x ≡ place y → x ≡ y) → AreDistinct is → position (nat_eq n) keys ≡ Some i → TakesList place is js i → RetiresNumber place is js n
retires_some place [] keys ix js n i one distinct at takes = absurd (omega (arith, key_within place [] keys ix n i at))
retires_some place (x ∷ is) keys ix js n i one distinct at takes = retires_found place (x ∷ is) keys ix js n i x one distinct at takes

-- each list with a number is dropped
pub retires_filtered : {O : Type 0} (place : O → Place) (is js : List (Incarnation O)) (n : ℕ) → js ≡ filter (λ i. not (nat_eq (place i.origin).number n)) is → RetiresNumber place is js n
retires_filtered place is js n e a = ap (λ hs. list_of place hs a) e ∙ ap (λ hs. held_at hs a) (held_filter place (λ o. not (nat_eq o.number n)) is) ∙ held_at_filter (lists_of place is) (λ o. nat_eq o.number n) a

-- one number after others
pub one_number_more : (x y : Bool) (v : List Pending) → cond y [] (cond x [] v) ≡ cond (x || y) [] v
one_number_more true true v = refl
one_number_more true false v = refl
one_number_more false y v = refl

either : (b : Bool) (v : List Pending) → cond b v v ≡ v
either true v = refl
either false v = refl

-- what is left when the lists with these numbers are dropped
pub retires_numbers : {O : Type 0} (place : O → Place) (is js : List (Incarnation O)) (ns : List ℕ) (d : Directory) (p : List ℕ) → ((a : Place) → list_of place js a ≡ cond (list_any (nat_eq a.number) ns) [] (list_of place is a)) →
    All (λ i. is_removed_in place d p None i ≡ list_any (nat_eq (place i.origin).number) ns) is → RetiresRemoved place d p None is js
retires_numbers place [] js ns d p left of a = left a ∙ either (list_any (nat_eq a.number) ns) [] ∙ sym (either (is_removed_by d p None a) [])
retires_numbers {O} place (x ∷ is) js ns d p left of a = left a ∙ ⊎_elim
    (λ (there : Somewhere place (x ∷ is) a).
    let its : place (get_or (x ∷ is) there.0 x).origin ≡ a = same_place_exact _ a (there.2 x) in
    ap (λ (b : Bool). cond b [] (list_of place (x ∷ is) a)) (sym (subst (λ (q : Place). is_removed_by d p None q ≡ list_any (nat_eq q.number) ns) its (of there.0 x there.1))))
    (λ (none : Nowhere place (x ∷ is) a).
    let nothing : list_of place (x ∷ is) a ≡ [] = none_of place (x ∷ is) a none in
    ap (cond (list_any (nat_eq a.number) ns) []) nothing ∙ either (list_any (nat_eq a.number) ns) [] ∙ sym (either (is_removed_by d p None a) []) ∙ sym (ap (cond (is_removed_by d p None a) []) nothing))
    (look place (x ∷ is) a)
