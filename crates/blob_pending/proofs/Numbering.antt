-- The index of the lists by the numbers of their incarnations.
use Rattle.std.proofs.Common.{not, IfSome, ◌≡◌, ◌≢◌, ⊎_elim, ℕ, zero, suc, ◌-◌, ◌<◌, Bool, true, false, nat_eq, nat_lt, Option, None, Some, List, [], ◌∷◌, ◌++◌, length, get_or, set, take, map, refl, sym, ◌∙◌, ap, ap₂, arith, true≢false, position, slice_get}
use Rattle.std.specs.List.{IsDistinct, swap_remove, position_or_len}
use Rattle.std.proofs.lemmas.Bool.{cases_lt, cases_eq, cases_Bool, cond-true, cond-false}
use Rattle.std.proofs.lemmas.Bool.Decides.{nat_tests}
use Rattle.std.proofs.lemmas.List.{get_or_default, get_or-map, length-map, map-set, take-map}
use Rattle.std.proofs.lemmas.List.Quantifiers.{position-Some}
use Rattle.std.proofs.lemmas.List.Sums.{fails_before_first}
use Rattle.std.proofs.lemmas.Option.{slice_get-get_or}
use Rattle.std.proofs.lemmas.Map.Keys.{apart_from_distinct}
use Rattle.std.specs.Prelude.{option_map}
use Rattle.blob_model.specs.Directory.{Directory, current}
use Rattle.blob_model.specs.Files.{is_removed_by}
use Rattle.blob_model.specs.Order.{ListAt, has_list}
use Rattle.blob_model.specs.Places.{Place, same_place}
use Rattle.blob_model.specs.SamePlace.{same_place_exact, same_self}
use Rattle.blob_pending.specs.declared.incarnation.Incarnation.{Incarnation}
use Rattle.blob_pending.specs.Lists.{lists_of, finished_in, is_removed_in, IsListOf}
use Rattle.blob_pending.proofs.Removing.{other_number}
use Rattle.blob_pending.specs.Numbers.{numbers_of, AreIndexed}

pub equal : (a b : ℕ) → nat_eq a b ≡ true → a ≡ b
equal a b e = grind (arith, nat_tests)

not_equal : (a b : ℕ) → nat_eq a b ≡ false → a ≢ b
not_equal a b e same = true≢false (sym (grind (arith, nat_tests)) ∙ e)

number_of : {O : Type 0} → (O → Place) → Incarnation O → ℕ
number_of place i = (place i.origin).number

-- the index is used
pub used : {O : Type 0} {place : O → Place} {is : List (Incarnation O)} {keys : List ℕ} {searched : Bool} → AreIndexed place is keys searched → searched ≡ false → AreIndexed place is keys false
used ix not_searched = record { distinct = ix.distinct; numbers = λ _. ix.numbers not_searched }

-- a list that is changed in place keeps its number
pub numbers_set : {O : Type 0} (place : O → Place) (is : List (Incarnation O)) (k : ℕ) (j : Incarnation O) → ((d : Incarnation O) → k < length is → j.origin ≡ (get_or is k d).origin) → numbers_of place (set is k j) ≡ numbers_of place is
numbers_set place [] k j same = refl
numbers_set {O} place (x ∷ is) zero j same = ap (λ (o : O). (place o).number ∷ numbers_of place is) (same x (omega arith))
numbers_set place (x ∷ is) (suc k) j same = ap (λ (ns : List ℕ). (place x.origin).number ∷ ns) (numbers_set place is k j (λ d h. same d (omega arith)))

pub indexed_set : {O : Type 0} (place : O → Place) (is : List (Incarnation O)) (k : ℕ) (j : Incarnation O) (keys : List ℕ) (searched : Bool) → ((d : Incarnation O) → k < length is → j.origin ≡ (get_or is k d).origin) → AreIndexed place is keys searched → AreIndexed place (set is k j) keys searched
indexed_set place is k j keys searched same ix = record { distinct = ix.distinct; numbers = λ used. ix.numbers used ∙ sym (numbers_set place is k j same) }

-- lists of the same incarnations have the same numbers
pub numbers_held : {O : Type 0} (place : O → Place) (is : List (Incarnation O)) → numbers_of place is ≡ map (λ (h : ListAt). h.0.number) (lists_of place is)
numbers_held place [] = refl
numbers_held place (x ∷ is) = ap (λ (ns : List ℕ). (place x.origin).number ∷ ns) (numbers_held place is)

pub indexed_held : {O : Type 0} (place : O → Place) (is js : List (Incarnation O)) (keys : List ℕ) (searched : Bool) → map (λ (h : ListAt). h.0.number) (lists_of place js) ≡ map (λ (h : ListAt). h.0.number) (lists_of place is) → AreIndexed place is keys searched → AreIndexed place js keys searched
indexed_held place is js keys searched same ix = record { distinct = ix.distinct; numbers = λ used. ix.numbers used ∙ numbers_held place is ∙ sym same ∙ sym (numbers_held place js) }

-- a finished sync changes no number
pub numbers_finished : (marker : ℕ) (hs : List ListAt) → map (λ (h : ListAt). h.0.number) (map (finished_in marker) hs) ≡ map (λ (h : ListAt). h.0.number) hs
numbers_finished marker [] = refl
numbers_finished marker (x ∷ hs) = ap (λ (ns : List ℕ). x.0.number ∷ ns) (numbers_finished marker hs)

-- one list more
pub numbers_push : {O : Type 0} (place : O → Place) (is : List (Incarnation O)) (j : Incarnation O) → numbers_of place (is ++ j ∷ []) ≡ numbers_of place is ++ (place j.origin).number ∷ []
numbers_push place [] j = refl
numbers_push place (x ∷ is) j = ap (λ (ns : List ℕ). (place x.origin).number ∷ ns) (numbers_push place is j)

-- one list less
pub numbers_take : {O : Type 0} (place : O → Place) (is : List (Incarnation O)) (i : ℕ) (x : Incarnation O) (n : ℕ) → i < length is → swap_remove (numbers_of place is) i n ≡ numbers_of place (swap_remove is i x)
numbers_take {O} place is i x n h =
    let len : length (numbers_of place is) ≡ length is = length-map is (λ (e : Incarnation O). (place e.origin).number) in
    let last : get_or (numbers_of place is) (length is - 1) n ≡ (place (get_or is (length is - 1) x).origin).number = get_or-map (λ (e : Incarnation O). (place e.origin).number) is (length is - 1) x n (omega (arith, h)) in
    ap (λ (m : ℕ). take (m - 1) (set (numbers_of place is) i (get_or (numbers_of place is) (m - 1) n))) len
    ∙ ap (λ (m : ℕ). take (length is - 1) (set (numbers_of place is) i m)) last
    ∙ ap (take (length is - 1)) (sym (map-set (λ (e : Incarnation O). (place e.origin).number) is i (get_or is (length is - 1) x)))
    ∙ take-map (λ (e : Incarnation O). (place e.origin).number) (length is - 1) (set is i (get_or is (length is - 1) x))

-- none passes where no position does
none_passes : {X : Type 0} (p : X → Bool) (xs : List X) → position p xs ≡ None → (k : ℕ) (d : X) → k < length xs → p (get_or xs k d) ≡ false
none_passes p xs none k d h = ⊎_elim
    (λ inside. absurd (some_is (sym (cond-true (nat_lt (position_or_len p xs) (length xs)) (Some (position_or_len p xs)) None (grind (arith, nat_tests))) ∙ none)))
    (λ past. fails_before_first p xs k d (omega (arith, past, h)))
    (cases_lt (position_or_len p xs) (length xs))
  where
    some_is : {n : ℕ} → Some n ≡ None → ⊥
    some_is e = cc

-- no list is of this place
no_place : {O : Type 0} (place : O → Place) (is : List (Incarnation O)) (o : Place) → ((k : ℕ) (e : Incarnation O) → k < length is → place (get_or is k e).origin ≢ o) → has_list (lists_of place is) o ≡ false
no_place place [] o none = refl
no_place place (x ∷ is) o none = cond-false (same_place (place x.origin) o) true (has_list (lists_of place is) o)
    (⊎_elim (λ y. absurd (none 0 x (omega arith) (same_place_exact (place x.origin) o y))) (λ n. n) (cases_Bool (same_place (place x.origin) o)))
    ∙ no_place place is o (λ k e h. none (suc k) e (omega arith))

module _ {O : Type 0} (place : O → Place) (is : List (Incarnation O)) (keys : List ℕ) (ix : AreIndexed place is keys false) where
  key_at : (k : ℕ) (d : Incarnation O) (e : ℕ) → k < length is → get_or keys k e ≡ (place (get_or is k d).origin).number
  key_at k d e h = ap (λ (ks : List ℕ). get_or ks k e) (ix.numbers refl) ∙ get_or-map (λ (x : Incarnation O). (place x.origin).number) is k d e h

  pub keys_len : length keys ≡ length is
  keys_len = ap length (ix.numbers refl) ∙ length-map is (λ (x : Incarnation O). (place x.origin).number)

  -- no two lists have one number
  pub same_at : (j k : ℕ) (d : Incarnation O) → j < length is → k < length is → (place (get_or is j d).origin).number ≡ (place (get_or is k d).origin).number → j ≡ k
  same_at j k d hj hk same = ⊎_elim (λ e. e) (λ ne. ⊎_elim
      (λ lt. absurd (not_equal _ _ (apart_from_distinct nat_eq keys j k 0 ix.distinct lt (omega (arith, hk, keys_len))) (key_at j d 0 hj ∙ same ∙ sym (key_at k d 0 hk))))
      (λ le. absurd (not_equal _ _ (apart_from_distinct nat_eq keys k j 0 ix.distinct (omega (arith, le, ne)) (omega (arith, hj, keys_len))) (key_at k d 0 hk ∙ sym same ∙ sym (key_at j d 0 hj))))
      (cases_lt j k)) (cases_eq j k)

  pub key_within : (n i : ℕ) → position (nat_eq n) keys ≡ Some i → i < length is
  key_within n i at = omega (arith, (position-Some (nat_eq n) keys i 0 at).0, keys_len)

  -- the list that is found has the number, and no other has
  pub found_number : (n i : ℕ) → position (nat_eq n) keys ≡ Some i → (i < length is) × ((d : Incarnation O) → (place (get_or is i d).origin).number ≡ n)
  found_number n i at =
      let p = position-Some (nat_eq n) keys i 0 at in
      let h : i < length is = omega (arith, p.0, keys_len) in
      (h, λ d. sym (key_at i d 0 h) ∙ sym (equal n (get_or keys i 0) p.1))

  pub found_alone : (n i : ℕ) → position (nat_eq n) keys ≡ Some i → (k : ℕ) (d : Incarnation O) → k < length is → (place (get_or is k d).origin).number ≡ n → k ≡ i
  found_alone n i at k d h its = let f = found_number n i at in same_at k i d h f.0 (its ∙ sym (f.1 d))

  pub not_found : (n : ℕ) → position (nat_eq n) keys ≡ None → (k : ℕ) (d : Incarnation O) → k < length is → (place (get_or is k d).origin).number ≢ n
  not_found n none k d h its = not_equal n (get_or keys k 0) (none_passes (nat_eq n) keys none k 0 (omega (arith, h, keys_len))) (sym its ∙ sym (key_at k d 0 h))

  -- no list is of an incarnation whose number is not found, or is that of a list of another
  pub none_of_number : (o : Place) (n : ℕ) → n ≡ o.number → position (nat_eq n) keys ≡ None → has_list (lists_of place is) o ≡ false
  none_of_number o n is_n none = no_place place is o (λ k e h same. not_found n none k e h (ap (λ (p : Place). p.number) same ∙ sym is_n))

  pub none_but : (o : Place) (n i : ℕ) → n ≡ o.number → position (nat_eq n) keys ≡ Some i → ((e : Incarnation O) → same_place (place (get_or is i e).origin) o ≡ false) → has_list (lists_of place is) o ≡ false
  none_but o n i is_n at other = no_place place is o (λ k e h same.
      let here : k ≡ i = found_alone n i at k e h (ap (λ (p : Place). p.number) same ∙ sym is_n) in
      true≢false (sym (same_self o) ∙ ap (λ (p : Place). same_place p o) (sym same) ∙ ap (λ (j : ℕ). same_place (place (get_or is j e).origin) o) here ∙ other e))

-- the lists and the index without the one at i
pub indexed_take : {O : Type 0} (place : O → Place) (is js : List (Incarnation O)) (i : ℕ) (x : Incarnation O) (keys keys' : List ℕ) (r : Option ℕ) → i < length is → js ≡ swap_remove is i x → r ≡ slice_get keys i →
    IfSome r (λ n. keys' ≡ swap_remove keys i n) → IsDistinct nat_eq keys' → AreIndexed place is keys false → AreIndexed place js keys' false
indexed_take {O} place is js i x keys keys' r h of at said apart ix = record { distinct = apart; numbers = λ _. step r at said }
  where
    step : (r : Option ℕ) → r ≡ slice_get keys i → IfSome r (λ n. keys' ≡ swap_remove keys i n) → keys' ≡ numbers_of place js
    step None at said = absurd (none_is_some (at ∙ get_is keys i (omega (arith, h, keys_len place is keys ix))))
      where
        none_is_some : {n : ℕ} → None ≡ Some n → ⊥
        none_is_some e = cc

        get_is : (ks : List ℕ) (m : ℕ) → m < length ks → slice_get ks m ≡ Some (get_or ks m 0)
        get_is ks m l = slice_get-get_or ks m 0 l
    step (Some n) at said = said ∙ ap (λ (ks : List ℕ). swap_remove ks i n) (ix.numbers refl) ∙ numbers_take place is i x n h ∙ ap (numbers_of place) (sym of)

-- and with one more; `searched` and `searched'` say whether the index was not used, and is not used now
pub indexed_push : {O : Type 0} (place : O → Place) (is : List (Incarnation O)) (j : Incarnation O) (keys keys' : List ℕ) (searched added searched' : Bool) (n : ℕ) → n ≡ (place j.origin).number → (added ≡ true → keys' ≡ keys ++ n ∷ []) →
    IsDistinct nat_eq keys' → (searched' ≡ false → (searched ≡ false) × (added ≡ true)) → AreIndexed place is keys searched → AreIndexed place (is ++ j ∷ []) keys' searched'
indexed_push place is j keys keys' searched added searched' n is_n said apart only ix = record {
  distinct = apart;
  numbers = λ used. said (only used).1 ∙ ap₂ (λ (ks : List ℕ) (m : ℕ). ks ++ m ∷ []) (ix.numbers (only used).0) is_n ∙ sym (numbers_push place is j);
}

pub not_false : (b : Bool) → not b ≡ false → b ≡ true
not_false true e = refl
not_false false e = absurd (true≢false e)

-- the list of a name's current incarnation, by its number
module _ {O : Type 0} (place : O → Place) (is : List (Incarnation O)) (keys : List ℕ) (ix : AreIndexed place is keys false) (d : Directory) (p n : List ℕ) (number : ℕ) (its : Some number ≡ option_map (λ (q : Place). q.number) (current d p n)) where
  pub none_named : position (nat_eq number) keys ≡ None → IsListOf place d p n is None
  none_named none k e h = other_number d p n (place (get_or is k e).origin) number its (not_found place is keys ix number none k e h)

  pub other_named : (i : ℕ) (x : Incarnation O) → position (nat_eq number) keys ≡ Some i → x ≡ get_or is i x → is_removed_by d p (Some n) (place x.origin) ≡ false → IsListOf place d p n is None
  other_named i x at here isnt k e h = ⊎_elim
      (λ same. ap (λ (j : ℕ). is_removed_in place d p (Some n) (get_or is j e)) same ∙ ap (is_removed_in place d p (Some n)) (get_or_default is i e x (key_within place is keys ix number i at) ∙ sym here) ∙ isnt)
      (λ other. other_number d p n (place (get_or is k e).origin) number its (λ m. other (found_alone place is keys ix number i at k e h m)))
      (cases_eq k i)

  pub this_named : (i : ℕ) (x : Incarnation O) → position (nat_eq number) keys ≡ Some i → x ≡ get_or is i x → is_removed_by d p (Some n) (place x.origin) ≡ true → IsListOf place d p n is (Some i)
  this_named i x at here is_it = (key_within place is keys ix number i at, λ e. ap (is_removed_in place d p (Some n)) (get_or_default is i e x (key_within place is keys ix number i at) ∙ sym here) ∙ is_it)
