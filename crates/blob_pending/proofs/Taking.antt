-- A list is taken out, and the last one takes its place. No two are of one incarnation.
use Rattle.std.proofs.Common.{◌≡◌, ◌≢◌, ◌⊎◌, inl, inr, ⊎_elim, ℕ, zero, suc, ◌+◌, ◌-◌, ◌<◌, true, false, List, [], ◌∷◌, length, get_or, refl, sym, ◌∙◌, ap, arith, true≢false}
use Rattle.std.proofs.lemmas.Bool.{cases_Bool, cases_eq, cond-true, cond-false, cases_lt}
use Rattle.blob_model.specs.Durable.{with_at}
use Rattle.blob_model.specs.Order.{ListAt, held_at, has_list}
use Rattle.blob_model.specs.Places.{Place, same_place}
use Rattle.blob_model.specs.SamePlace.{same_place_exact}
use Rattle.blob_pending.specs.declared.incarnation.Incarnation.{Incarnation}
use Rattle.blob_pending.specs.Lists.{lists_of, held_by, list_of, IsAt, AreDistinct, TakesList}
use Rattle.blob_pending.specs.Views.{left_in}
use Rattle.blob_pending.proofs.Distinct.{of_origin}
use Rattle.blob_pending.proofs.ListSteps.{held_get, held_here, held_len}

-- a list that is of an incarnation is the first that is
pub at_of : {O : Type 0} (place : O → Place) (is : List (Incarnation O)) (k : ℕ) (e : Incarnation O) (o : Place) → ((a b : O) → place a ≡ place b → a ≡ b) → AreDistinct is → k < length is →
    same_place (place (get_or is k e).origin) o ≡ true → IsAt (lists_of place is) k o
at_of place is k e o one distinct h his = record {
  inside = omega (arith, held_len place is, h);
  here = λ d. of_origin place is o k d e h ∙ his;
  before = λ j d l. of_origin place is o j d e (omega (arith, l, h)) ∙ ⊎_elim
      (λ y. absurd (distinct j k e l h (one _ _ (same_place_exact _ _ y ∙ sym (same_place_exact _ _ his)))))
      (λ n. n)
      (cases_Bool (same_place (place (get_or is j e).origin) o));
}

entries_at : {O : Type 0} (place : O → Place) (is : List (Incarnation O)) (k : ℕ) (e : Incarnation O) (o : Place) → k < length is → IsAt (lists_of place is) k o → left_in (get_or is k e).entries.items ≡ list_of place is o
entries_at place is k e o h at = sym (ap (λ (x : ListAt). x.1) (held_get place is k (held_by place e) e h)) ∙ held_here (lists_of place is) k (held_by place e) o at

pub none_of : {O : Type 0} (place : O → Place) (is : List (Incarnation O)) (a : Place) → ((k : ℕ) (e : Incarnation O) → k < length is → same_place (place (get_or is k e).origin) a ≡ false) → list_of place is a ≡ []
none_of place [] a none = refl
none_of place (x ∷ is) a none = cond-false (same_place (place x.origin) a) _ _ (none 0 x (omega arith)) ∙ none_of place is a (λ k e h. none (suc k) e (omega arith))

-- where a list of an incarnation is, or that none is
abbrev pub Somewhere : {O : Type 0} → (O → Place) → List (Incarnation O) → Place → Type 0
Somewhere {O} place is a = (k : ℕ) × (k < length is) × ((e : Incarnation O) → same_place (place (get_or is k e).origin) a ≡ true)

abbrev pub Nowhere : {O : Type 0} → (O → Place) → List (Incarnation O) → Place → Type 0
Nowhere {O} place is a = (k : ℕ) (e : Incarnation O) → k < length is → same_place (place (get_or is k e).origin) a ≡ false

nowhere_more : {O : Type 0} (place : O → Place) (x : Incarnation O) (is : List (Incarnation O)) (a : Place) → same_place (place x.origin) a ≡ false → Nowhere place is a → Nowhere place (x ∷ is) a
nowhere_more place x is a other rest zero e h = other
nowhere_more place x is a other rest (suc k) e h = rest k e (omega arith)

pub look : {O : Type 0} (place : O → Place) (is : List (Incarnation O)) (a : Place) → Somewhere place is a ⊎ Nowhere place is a
look place [] a = inr (λ k e h. absurd (omega arith))
look {O} place (x ∷ is) a = ⊎_elim
    (λ his. inl (0, omega arith, λ e. his))
    (λ other. ⊎_elim
    (λ (there : Somewhere place is a). inl (suc there.0, omega (arith, there.1), there.2))
    (λ (none : Nowhere place is a). inr (nowhere_more place x is a other none))
    (look place is a))
    (cases_Bool (same_place (place x.origin) a))

-- an incarnation without a list
pub no_list : (hs : List ListAt) (o a : Place) → has_list hs o ≡ false → held_at hs a ≡ with_at (held_at hs) o [] a
no_list hs o a none = ⊎_elim
    (λ it. ap (held_at hs) (sym (same_place_exact o a it)) ∙ nothing hs o none ∙ sym (cond-true (same_place o a) _ _ it))
    (λ not_it. sym (cond-false (same_place o a) _ _ not_it))
    (cases_Bool (same_place o a))
  where
    nothing : (hs : List ListAt) (o : Place) → has_list hs o ≡ false → held_at hs o ≡ []
    nothing [] o none = refl
    nothing (h ∷ hs) o none = ⊎_elim
        (λ y. absurd (true≢false (sym (cond-true (same_place h.0 o) true (has_list hs o) y) ∙ none)))
        (λ n. cond-false (same_place h.0 o) _ _ n ∙ nothing hs o (sym (cond-false (same_place h.0 o) true (has_list hs o) n) ∙ none))
        (cases_Bool (same_place h.0 o))

-- what is left after the list at i was taken out
pub record IsTaken {O : Type 0} (is js : List (Incarnation O)) (i : ℕ) : Type 0 where
  pub inside : i < length is
  pub len : length js + 1 ≡ length is
  pub moved : (d : Incarnation O) → i + 1 < length is → get_or js i d ≡ get_or is (length is - 1) d
  pub same : (k : ℕ) (d : Incarnation O) → k ≢ i → k + 1 < length is → get_or js k d ≡ get_or is k d

-- as the code tells it
pub taken_of : {O : Type 0} (is js : List (Incarnation O)) (i n : ℕ) → n ≡ length is → i < length is → length js + 1 ≡ n →
    ((d : Incarnation O) → i + 1 < n → get_or js i d ≡ get_or is (n - 1) d) × ((k : ℕ) (d : Incarnation O) → k ≢ i → k + 1 < n → get_or js k d ≡ get_or is k d) → IsTaken is js i
taken_of {O} is js i n count inside len by = record {
  inside = inside;
  len = omega (arith, len, count);
  moved = λ d h. by.0 d (omega (arith, count, h)) ∙ ap (λ (m : ℕ). get_or is (m - 1) d) count;
  same = λ k d ne h. by.1 k d ne (omega (arith, count, h));
}

-- from where one that is left comes
pub source : {O : Type 0} (is js : List (Incarnation O)) (i : ℕ) → IsTaken is js i → (k : ℕ) (e : Incarnation O) → k < length js → (m : ℕ) × (m < length is) × (m ≢ i) × (get_or js k e ≡ get_or is m e)
source {O} is js i taken k e h = ⊎_elim
    (λ here. (length is - 1, omega (arith, taken.len), (λ last. omega (arith, taken.len, h, here, last)), ap (λ (n : ℕ). get_or js n e) here ∙ taken.moved e (omega (arith, taken.len, h, here))))
    (λ other. (k, omega (arith, taken.len, h), other, taken.same k e other (omega (arith, taken.len, h))))
    (cases_eq k i)

-- and where one goes
target : {O : Type 0} (is js : List (Incarnation O)) (i : ℕ) → IsTaken is js i → (m : ℕ) (e : Incarnation O) → m < length is → m ≢ i → (k : ℕ) × (k < length js) × (get_or js k e ≡ get_or is m e)
target {O} is js i taken m e h other = ⊎_elim
    (λ last. (i, omega (arith, taken.len, taken.inside, h, other, last), taken.moved e (omega (arith, taken.inside, h, other, last)) ∙ ap (λ (n : ℕ). get_or is n e) (sym last)))
    (λ front. (m, omega (arith, taken.len, h, front), taken.same m e other (omega (arith, h, front))))
    (cases_eq m (length is - 1))

differ : {O : Type 0} (is : List (Incarnation O)) → AreDistinct is → (m n : ℕ) (e : Incarnation O) → m ≢ n → m < length is → n < length is → (get_or is m e).origin ≢ (get_or is n e).origin
differ is distinct m n e ne lm ln same = ⊎_elim (λ lt. distinct m n e lt ln same) (λ le. distinct n m e (omega (arith, le, ne)) lm (sym same)) (cases_lt m n)

pub distinct_taken : {O : Type 0} (is js : List (Incarnation O)) (i : ℕ) → IsTaken is js i → AreDistinct is → AreDistinct js
distinct_taken {O} is js i taken distinct a b e l h same = ⊎_elim
    (λ first. differ is distinct (length is - 1) b e (λ x. omega (arith, taken.len, l, h, x)) (omega (arith, taken.inside)) (omega (arith, taken.len, h))
    (sym (moved a first (omega (arith, l, h))) ∙ same ∙ stays b (λ x. omega (arith, l, first, x)) h))
    (λ other. ⊎_elim
    (λ second. distinct a (length is - 1) e (omega (arith, taken.len, l, h)) (omega (arith, taken.inside)) (sym (stays a other (omega (arith, l, h))) ∙ same ∙ moved b second h))
    (λ neither. distinct a b e l (omega (arith, taken.len, h)) (sym (stays a other (omega (arith, l, h))) ∙ same ∙ stays b neither h))
    (cases_eq b i))
    (cases_eq a i)
  where
    stays : (k : ℕ) → k ≢ i → k < length js → (get_or js k e).origin ≡ (get_or is k e).origin
    stays k ne lk = ap (λ (x : Incarnation O). x.origin) (taken.same k e ne (omega (arith, taken.len, lk)))

    moved : (k : ℕ) → k ≡ i → k < length js → (get_or js k e).origin ≡ (get_or is (length is - 1) e).origin
    moved k at lk = ap (λ (x : Incarnation O). x.origin) (ap (λ (n : ℕ). get_or js n e) at ∙ taken.moved e (omega (arith, taken.len, at, lk)))

-- what is pending of each incarnation then
pub taken_list : {O : Type 0} (place : O → Place) (is js : List (Incarnation O)) (i : ℕ) (e : Incarnation O) (o a : Place) → ((x y : O) → place x ≡ place y → x ≡ y) → AreDistinct is → IsAt (lists_of place is) i o → IsTaken is js i →
    list_of place js a ≡ with_at (list_of place is) o [] a
taken_list {O} place is js i e o a one distinct at taken = ⊎_elim
    (λ it. none_of place js a (λ k d h. let from = source is js i taken k d h in
    ap (λ (x : Incarnation O). same_place (place x.origin) a) from.3 ∙ ⊎_elim
    (λ y. absurd (differ is distinct from.0 i d from.2 from.1 taken.inside (one _ _ (same_place_exact _ _ y ∙ sym (same_place_exact o a it) ∙ sym (of_o d)))))
    (λ n. n)
    (cases_Bool (same_place (place (get_or is from.0 d).origin) a)))
    ∙ sym (cond-true (same_place o a) _ _ it))
    (λ not_it. ⊎_elim
    (λ (there : Somewhere place is a). kept there not_it)
    (λ (none : Nowhere place is a). none_of place js a (λ k d h. let from = source is js i taken k d h in ap (λ (x : Incarnation O). same_place (place x.origin) a) from.3 ∙ none from.0 d from.1)
    ∙ sym (none_of place is a none) ∙ sym (cond-false (same_place o a) _ _ not_it))
    (look place is a))
    (cases_Bool (same_place o a))
  where
    of_o : (e : Incarnation O) → place (get_or is i e).origin ≡ o
    of_o e = same_place_exact _ _ (sym (of_origin place is o i (held_by place e) e taken.inside) ∙ at.here (held_by place e))

    kept : Somewhere place is a → same_place o a ≡ false → list_of place js a ≡ with_at (list_of place is) o [] a
    kept there not_it =
        let here = there.2 e in
        let ne : there.0 ≢ i = λ x. true≢false (sym here ∙ ap (λ (n : ℕ). same_place (place (get_or is n e).origin) a) x ∙ ap (λ (p : Place). same_place p a) (of_o e) ∙ not_it) in
        let to = target is js i taken there.0 e there.1 ne in
        sym (entries_at place js to.0 e a to.1 (at_of place js to.0 e a one (distinct_taken is js i taken distinct) to.1 (ap (λ (x : Incarnation O). same_place (place x.origin) a) to.2 ∙ here)))
        ∙ ap (λ (x : Incarnation O). left_in x.entries.items) to.2
        ∙ entries_at place is there.0 e a there.1 (at_of place is there.0 e a one distinct there.1 here)
        ∙ sym (cond-false (same_place o a) _ _ not_it)

pub takes : {O : Type 0} (place : O → Place) (is js : List (Incarnation O)) (i n : ℕ) (e : Incarnation O) → ((x y : O) → place x ≡ place y → x ≡ y) → AreDistinct is → n ≡ length is → length js + 1 ≡ n →
    ((d : Incarnation O) → i + 1 < n → get_or js i d ≡ get_or is (n - 1) d) × ((k : ℕ) (d : Incarnation O) → k ≢ i → k + 1 < n → get_or js k d ≡ get_or is k d) → TakesList place is js i
takes place is js i n e one distinct count len by o at a = taken_list place is js i e o a one distinct at (taken_of is js i n count (omega (arith, at.inside, held_len place is)) len by)
