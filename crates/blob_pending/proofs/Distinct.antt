-- No two lists have one origin: that is, no two are of one incarnation.
use Rattle.std.proofs.Common.{◌≡◌, ◌≢◌, ⊎_elim, ℕ, suc, ◌<◌, false, List, [], ◌∷◌, ◌++◌, length, get_or, set, sym, ◌∙◌, ap, arith, true≢false}
use Rattle.std.proofs.lemmas.Bool.{cases_Bool, cases_eq}
use Rattle.std.proofs.lemmas.List.{get_or_default, get_or-set_same, get_or-set_other, length-set}
use Rattle.std.proofs.lemmas.List.Kept.{AllPairs-cons}
use Rattle.std.proofs.lemmas.List.Quantifiers.{all_pairs_push}
use Rattle.blob_model.specs.Order.{ListAt, has_list, ArePlacesApart}
use Rattle.blob_model.specs.Places.{Place, same_place}
use Rattle.blob_model.specs.SamePlace.{same_place_exact, same_self}
use Rattle.blob_pending.specs.declared.incarnation.Incarnation.{Incarnation}
use Rattle.blob_pending.specs.Lists.{lists_of, held_by, is_list_of, AreDistinct}
use Rattle.blob_pending.proofs.ListSteps.{has_none, is_not_of, held_get, held_len}

-- whose a list is
pub of_origin : {O : Type 0} (place : O → Place) (is : List (Incarnation O)) (o : Place) (k : ℕ) (d : ListAt) (e : Incarnation O) → k < length is → is_list_of o (get_or (lists_of place is) k d) ≡ same_place (place (get_or is k e).origin) o
of_origin {O} place is o k d e h = ap (λ (x : ListAt). is_list_of o x) (held_get place is k d e h)

pub distinct_of : {O : Type 0} (place : O → Place) (is : List (Incarnation O)) → ArePlacesApart (lists_of place is) → AreDistinct is
distinct_of place [] apart = λ i j d l h. absurd (omega arith)
distinct_of {O} place (x ∷ is) apart = AllPairs-cons (λ a b. a.origin ≢ b.origin) x is
    (λ k d h same. true≢false (sym (same_self (place x.origin)) ∙ ap (λ (o : O). same_place (place o) (place x.origin)) same
    ∙ sym (of_origin place is (place x.origin) k (held_by place x) d h) ∙ is_not_of (lists_of place is) (place x.origin) apart.0 k (held_by place x) (omega (arith, h, held_len place is))))
    (distinct_of place is apart.1)

pub apart_of : {O : Type 0} (place : O → Place) (is : List (Incarnation O)) → ((a b : O) → place a ≡ place b → a ≡ b) → AreDistinct is → ArePlacesApart (lists_of place is)
apart_of place [] one distinct = tt
apart_of {O} place (x ∷ is) one distinct = (
  has_none (lists_of place is) (place x.origin) (λ k d h. let l : k < length is = omega (arith, h, held_len place is) in of_origin place is (place x.origin) k d x l ∙ ⊎_elim
      (λ y. absurd (distinct 0 (suc k) x (omega arith) (omega arith) (sym (one _ _ (same_place_exact _ _ y)))))
      (λ n. n)
      (cases_Bool (same_place (place (get_or is k x).origin) (place x.origin)))),
  apart_of place is one (λ i j d l h. distinct (suc i) (suc j) d (omega arith) (omega arith)),
)

-- one more, of an incarnation that has none
pub distinct_push : {O : Type 0} (place : O → Place) (is : List (Incarnation O)) (j : Incarnation O) (o : O) → j.origin ≡ o → has_list (lists_of place is) (place o) ≡ false → AreDistinct is → AreDistinct (is ++ j ∷ [])
distinct_push {O} place is j o of none distinct = all_pairs_push (λ a b. a.origin ≢ b.origin) is j distinct
    (λ k d h same. true≢false (sym (same_self (place o)) ∙ ap (λ (p : O). same_place (place p) (place o)) (sym of ∙ sym same)
    ∙ sym (of_origin place is (place o) k (held_by place j) d h) ∙ is_not_of (lists_of place is) (place o) none k (held_by place j) (omega (arith, h, held_len place is))))

-- the one at k made new, of the same incarnation
pub same_origin : {O : Type 0} (is : List (Incarnation O)) (k : ℕ) (e j : Incarnation O) → e ≡ get_or is k e → j.origin ≡ e.origin → (d : Incarnation O) → k < length is → j.origin ≡ (get_or is k d).origin
same_origin is k e j at same d h = same ∙ ap (λ x. x.origin) (at ∙ get_or_default is k e d h)

origin_set : {O : Type 0} (is : List (Incarnation O)) (k : ℕ) (j : Incarnation O) → ((d : Incarnation O) → k < length is → j.origin ≡ (get_or is k d).origin) → (m : ℕ) (d : Incarnation O) → m < length is → (get_or (set is k j) m d).origin ≡ (get_or is m d).origin
origin_set {O} is k j same m d h = ⊎_elim
    (λ here. let l : k < length is = omega (arith, h, here) in
    ap (λ (n : ℕ). (get_or (set is k j) n d).origin) here ∙ ap (λ (x : Incarnation O). x.origin) (get_or-set_same is k j d l) ∙ same d l ∙ ap (λ (n : ℕ). (get_or is n d).origin) (sym here))
    (λ other. ap (λ (x : Incarnation O). x.origin) (get_or-set_other is k m j d other))
    (cases_eq m k)

pub distinct_set : {O : Type 0} (is : List (Incarnation O)) (k : ℕ) (j : Incarnation O) → ((d : Incarnation O) → k < length is → j.origin ≡ (get_or is k d).origin) → AreDistinct is → AreDistinct (set is k j)
distinct_set is k j same distinct = λ m n d l h e.
    let hn : n < length is = omega (arith, h, length-set is k j) in
    distinct m n d l hn (sym (origin_set is k j same m d (omega (arith, l, hn))) ∙ e ∙ origin_set is k j same n d hn)
