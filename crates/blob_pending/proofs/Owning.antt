-- The map that finds a marker's list, step by step.
use Rattle.std.proofs.Common.{◌≡◌, ◌≢◌, ⊎_elim, ℕ, ◌<◌, ◌≤◌, Bool, true, false, cond, nat_eq, eqb, ◌||◌, List, [], ◌∷◌, ◌++◌, length, get_or, set, zero, suc, Option, None, Some, refl, sym, ◌∙◌, ap, ap₂, subst, arith, true≢false, position}
use Rattle.std.specs.Cmp.{nat_eq_equiv}
use Rattle.std.specs.List.{All, AllByRecursion, IsDistinct, list_any}
use Rattle.std.proofs.lemmas.Bool.{cases_Bool, cases_eq, cases_lt, cond-true, cond-false}
use Rattle.std.proofs.lemmas.Bool.Decides.{nat_tests}
use Rattle.std.proofs.lemmas.List.{get_or_default, get_or-set_same, get_or-set_other, length-set}
use Rattle.std.proofs.lemmas.List.Elements.{All-set, All-push}
use Rattle.std.proofs.lemmas.List.Folds.{list_any-append}
use Rattle.std.proofs.lemmas.Map.Keys.{IsDistinct-head, IsDistinct-tail, IsDistinct-push, IsDistinct-from_apart}
use Rattle.blob_model.specs.Order.{ListAt, held_at, has_list}
use Rattle.blob_model.specs.Pending.{Pending, Waiting, Cut, Again, Marker, has_mark, entries_after, finish}
use Rattle.blob_model.specs.Places.{Place, same_place}
use Rattle.blob_model.specs.SamePlace.{same_place_exact, same_self}
use Rattle.blob_pending.specs.declared.incarnation.Incarnation.{Incarnation}
use Rattle.blob_pending.specs.Lists.{lists_of, list_of, held_by, AreDistinct}
use Rattle.blob_pending.specs.Marks.{marks_of, left_marks}
use Rattle.blob_pending.specs.Numbers.{AreIndexed}
use Rattle.blob_pending.specs.Owners.{IsOwned, AreOwned, AreFound, IsStartedIn}
use Rattle.blob_pending.specs.Views.{left_in, views}
use Rattle.blob_pending.proofs.Distinct.{same_origin}
use Rattle.blob_pending.proofs.ListSteps.{held_get, held_len, held_set, changed_list, found}
use Rattle.blob_pending.proofs.Marking.{marks-left, marks-mark}
use Rattle.blob_pending.proofs.Numbering.{equal, indexed_set, key_within, same_at, none_of_number, none_but}
use Rattle.blob_pending.proofs.Taking.{at_of, no_list, IsTaken, source}

or_first : (a b : Bool) → (a || b) ≡ false → a ≡ false
or_first true b e = e
or_first false b e = refl

or_second : (a b : Bool) → (a || b) ≡ false → b ≡ false
or_second true b e = absurd (true≢false e)
or_second false b e = e

or_true : (a b : Bool) → b ≡ true → (a || b) ≡ true
or_true true b e = refl
or_true false b e = e

or_left : (a b : Bool) → a ≡ true → (a || b) ≡ true
or_left true b e = refl
or_left false b e = absurd (true≢false (sym e))

some_is : {n m : ℕ} → Some n ≡ Some m → n ≡ m
some_is e = cc

not_none : {n : ℕ} → None ≡ Some n → ⊥
not_none e = cc

not_mark : (m j : ℕ) → nat_eq m j ≡ false → eqb j m ≡ false
not_mark m j n = grind (arith, nat_tests)

-- a number that is none of a list's markers
pub no_mark : (m : ℕ) (q : List Pending) → list_any (nat_eq m) (marks_of q) ≡ false → has_mark m q ≡ false
no_mark m [] none = refl
no_mark m (Waiting n ∷ q) none = no_mark m q none
no_mark m (Cut n ∷ q) none = no_mark m q none
no_mark m (Again o b ∷ q) none = no_mark m q none
no_mark m (Marker j ∷ q) none = ap₂ (λ (a b : Bool). a || b) (not_mark m j (or_first (nat_eq m j) _ none)) (no_mark m q (or_second (nat_eq m j) _ none))

pub not_finished : (m : ℕ) (q : List Pending) → has_mark m q ≡ false → q ≡ finish m q
not_finished m q none = sym (cond-false (has_mark m q) (entries_after m q) q none)

none_in : (x : ℕ) (zs : List ℕ) → AllByRecursion (λ y. nat_eq x y ≡ false) zs → list_any (nat_eq x) zs ≡ false
none_in x [] h = refl
none_in x (z ∷ zs) h = ap₂ (λ (a b : Bool). a || b) h.0 (none_in x zs h.1)

distinct_rest : (xs ys : List ℕ) → IsDistinct nat_eq (xs ++ ys) → IsDistinct nat_eq ys
distinct_rest [] ys d = d
distinct_rest (x ∷ xs) ys d = distinct_rest xs ys (IsDistinct-tail nat_eq x (xs ++ ys) d)

-- of distinct numbers, none of the front is in the rest
apart : (xs ys : List ℕ) (m : ℕ) → IsDistinct nat_eq (xs ++ ys) → list_any (nat_eq m) xs ≡ true → list_any (nat_eq m) ys ≡ false
apart [] ys m d has = absurd (true≢false (sym has))
apart (x ∷ xs) ys m d has = ⊎_elim
    (λ y. or_second (list_any (nat_eq m) xs) _ (sym (list_any-append (nat_eq m) xs ys) ∙ ap (λ (n : ℕ). list_any (nat_eq n) (xs ++ ys)) (equal m x y) ∙ none_in x (xs ++ ys) (IsDistinct-head nat_eq x (xs ++ ys) d)))
    (λ n. apart xs ys m (IsDistinct-tail nat_eq x (xs ++ ys) d) (ap (λ (b : Bool). b || list_any (nat_eq m) xs) (sym n) ∙ has))
    (cases_Bool (nat_eq m x))

-- the lists have the markers that they had
pub kept_marks : {O : Type 0} (e j : Incarnation O) → j.marks ≡ e.marks → marks_of (left_in j.entries.items) ≡ marks_of (left_in e.entries.items)
kept_marks e j same = marks-left (views j.entries.items) ∙ sym j.marked ∙ ap left_marks same ∙ e.marked ∙ sym (marks-left (views e.entries.items))

pub marks_are : {O : Type 0} (e : Incarnation O) → marks_of (left_in e.entries.items) ≡ left_marks e.marks
marks_are e = marks-left (views e.entries.items) ∙ sym e.marked

owned_same : (owner : ℕ → Option ℕ) (h j : ListAt) → j.0.number ≡ h.0.number → marks_of j.1 ≡ marks_of h.1 → IsOwned owner h → IsOwned owner j
owned_same owner h j number marks o = record {
  once = subst (λ (ms : List ℕ). IsDistinct nat_eq ms) (sym marks) o.once;
  owned = λ m has. o.owned m (ap (list_any (nat_eq m)) (sym marks) ∙ has) ∙ ap Some (sym number);
}

owned_at : {O : Type 0} (place : O → Place) (is : List (Incarnation O)) (owner : ℕ → Option ℕ) (k : ℕ) (e : Incarnation O) → k < length is → AreOwned place is owner → IsOwned owner (held_by place (get_or is k e))
owned_at place is owner k e h all = subst (λ (x : ListAt). IsOwned owner x) (held_get place is k (held_by place e) e h) (all k (held_by place e) (omega (arith, h, held_len place is)))

owned_here : {O : Type 0} (place : O → Place) (is : List (Incarnation O)) (owner : ℕ → Option ℕ) (k : ℕ) (e : Incarnation O) → k < length is → e ≡ get_or is k e → AreOwned place is owner → IsOwned owner (held_by place e)
owned_here {O} place is owner k e h at all = subst (λ (x : Incarnation O). IsOwned owner (held_by place x)) (sym at) (owned_at place is owner k e h all)

set_past : {O : Type 0} (is : List (Incarnation O)) (k : ℕ) (j : Incarnation O) → length is ≤ k → set is k j ≡ is
set_past [] k j past = refl
set_past (x ∷ is) zero j past = absurd (omega arith)
set_past {O} (x ∷ is) (suc k) j past = ap (λ (js : List (Incarnation O)). x ∷ js) (set_past is k j (omega arith))

-- a list that is changed in place keeps its number and its markers
pub found_set : {O : Type 0} (place : O → Place) (is : List (Incarnation O)) (k : ℕ) (e j : Incarnation O) (keys : List ℕ) (searched : Bool) (owner : ℕ → Option ℕ) (unmapped : Bool) → e ≡ get_or is k e → j.origin ≡ e.origin →
    marks_of (left_in j.entries.items) ≡ marks_of (left_in e.entries.items) → AreFound place is keys searched owner unmapped → AreFound place (set is k j) keys searched owner unmapped
found_set {O} place is k e j keys searched owner unmapped at same marks ix = record {
  lists = indexed_set place is k j keys searched (same_origin is k e j at same) ix.lists;
  indexed = ix.indexed;
  markers = λ u. ⊎_elim
      (λ h. subst (λ (hs : List ListAt). All (IsOwned owner) hs) (sym (held_set place is k j)) (All-set (IsOwned owner) (lists_of place is) k (held_by place j)
      (owned_same owner (held_by place e) (held_by place j) (ap (λ (o : O). (place o).number) same) marks (owned_here place is owner k e h at (ix.markers u))) (ix.markers u)))
      (λ past. subst (λ (js : List (Incarnation O)). AreOwned place js owner) (sym (set_past is k j past)) (ix.markers u))
      (cases_lt k (length is));
}

-- a map with the same numbers
pub found_map : {O : Type 0} (place : O → Place) (is : List (Incarnation O)) (keys : List ℕ) (searched : Bool) (owner now : ℕ → Option ℕ) (unmapped : Bool) → ((m : ℕ) → now m ≡ owner m) → AreFound place is keys searched owner unmapped → AreFound place is keys searched now unmapped
found_map place is keys searched owner now unmapped same ix = record {
  lists = ix.lists;
  indexed = ix.indexed;
  markers = λ u k d h. let o = ix.markers u k d h in record { once = o.once; owned = λ m has. same m ∙ o.owned m has };
}

-- the same lists
pub found_held : {O : Type 0} (place : O → Place) (is js : List (Incarnation O)) (keys : List ℕ) (searched : Bool) (owner : ℕ → Option ℕ) (unmapped : Bool) → lists_of place js ≡ lists_of place is → AreIndexed place js keys searched → AreFound place is keys searched owner unmapped →
    AreFound place js keys searched owner unmapped
found_held place is js keys searched owner unmapped same lists ix = record {
  lists = lists;
  indexed = ix.indexed;
  markers = λ u. subst (λ (hs : List ListAt). All (IsOwned owner) hs) (sym same) (ix.markers u);
}

-- without the map
pub found_unmapped : {O : Type 0} (place : O → Place) (is : List (Incarnation O)) (keys : List ℕ) (searched : Bool) (owner : ℕ → Option ℕ) (unmapped : Bool) → unmapped ≡ true → AreIndexed place is keys searched → AreFound place is keys searched owner unmapped
found_unmapped place is keys searched owner unmapped on lists = record {
  lists = lists;
  indexed = λ u. absurd (true≢false (sym on ∙ u));
  markers = λ u. absurd (true≢false (sym on ∙ u));
}

pub owned_none : {O : Type 0} (place : O → Place) (owner : ℕ → Option ℕ) → AreOwned {O = O} place [] owner
owned_none place owner k d h = absurd (omega arith)

-- one list more, with nothing in it
pub owned_push : {O : Type 0} (place : O → Place) (is js : List (Incarnation O)) (o : Place) (owner : ℕ → Option ℕ) → lists_of place js ≡ lists_of place is ++ (o, []) ∷ [] → AreOwned place is owner → AreOwned place js owner
owned_push place is js o owner more all = subst (λ (hs : List ListAt). All (IsOwned owner) hs) (sym more) (All-push (IsOwned owner) (lists_of place is) (o, []) all
    (record { once = IsDistinct-from_apart nat_eq [] (λ i j d a b. absurd (omega arith)); owned = λ m has. absurd (true≢false (sym has)) }))

-- a list with a new marker
pub owned_mark : {O : Type 0} (place : O → Place) (is : List (Incarnation O)) (k : ℕ) (e j : Incarnation O) (owner now : ℕ → Option ℕ) (number : ℕ) → k < length is → e ≡ get_or is k e → j.origin ≡ e.origin → left_in j.entries.items ≡ left_in e.entries.items ++ Marker number ∷ [] →
    owner number ≡ None → ((m : ℕ) → now m ≡ cond (nat_eq number m) (Some (place j.origin).number) (owner m)) → AreOwned place is owner → AreOwned place (set is k j) now
owned_mark {O} place is k e j owner now number h at same list absent mapped all =
    subst (λ (hs : List ListAt). All (IsOwned now) hs) (sym (held_set place is k j)) (All-set (IsOwned now) (lists_of place is) k (held_by place j) here (λ n d l. other (get_or (lists_of place is) n d) (all n d l)))
  where
    other : (x : ListAt) → IsOwned owner x → IsOwned now x
    other x o = record {
      once = o.once;
      owned = λ m has. mapped m ∙ ⊎_elim
          (λ y. absurd (not_none (sym absent ∙ ap owner (equal number m y) ∙ o.owned m has)))
          (λ n. cond-false (nat_eq number m) _ _ n ∙ o.owned m has)
          (cases_Bool (nat_eq number m));
    }

    was : IsOwned owner (held_by place e)
    was = owned_here place is owner k e h at all

    marks : marks_of (left_in j.entries.items) ≡ marks_of (left_in e.entries.items) ++ number ∷ []
    marks = ap marks_of list ∙ marks-mark (left_in e.entries.items) number

    fresh : list_any (nat_eq number) (marks_of (left_in e.entries.items)) ≡ false
    fresh = ⊎_elim (λ y. absurd (not_none (sym absent ∙ was.owned number y))) (λ n. n) (cases_Bool (list_any (nat_eq number) (marks_of (left_in e.entries.items))))

    not_new : (m : ℕ) → nat_eq number m ≡ false → nat_eq m number ≡ false
    not_new m n = grind (arith, nat_tests)

    old_mark : (a b : Bool) → b ≡ false → (a || (b || false)) ≡ true → a ≡ true
    old_mark true b n e = refl
    old_mark false true n e = absurd (true≢false n)
    old_mark false false n e = e

    here : IsOwned now (held_by place j)
    here = record {
      once = subst (λ (ms : List ℕ). IsDistinct nat_eq ms) (sym marks) (IsDistinct-push nat_eq_equiv (marks_of (left_in e.entries.items)) number was.once fresh);
      owned = λ m has. mapped m ∙ ⊎_elim
          (λ y. cond-true (nat_eq number m) _ _ y)
          (λ n. cond-false (nat_eq number m) _ _ n ∙ was.owned m (old_mark (list_any (nat_eq m) (marks_of (left_in e.entries.items))) (nat_eq m number) (not_new m n)
          (sym (list_any-append (nat_eq m) (marks_of (left_in e.entries.items)) (number ∷ [])) ∙ ap (list_any (nat_eq m)) (sym marks) ∙ has)) ∙ ap (λ (o : O). Some (place o).number) (sym same))
          (cases_Bool (nat_eq number m));
    }

module _ {O : Type 0} (place : O → Place) (is : List (Incarnation O)) (keys : List ℕ) (ix : AreIndexed place is keys false) (owner : ℕ → Option ℕ) (all : AreOwned place is owner) where
  -- no two lists have one marker
  one_list : (k n : ℕ) (e : Incarnation O) (m : ℕ) → k < length is → n < length is → n ≢ k → list_any (nat_eq m) (marks_of (left_in (get_or is n e).entries.items)) ≡ true → list_any (nat_eq m) (marks_of (left_in (get_or is k e).entries.items)) ≡ false
  one_list k n e m hk hn other has = ⊎_elim
      (λ y. absurd (other (same_at place is keys ix n k e hn hk (some_is (sym ((owned_at place is owner n e hn all).owned m has) ∙ (owned_at place is owner k e hk all).owned m y)))))
      (λ no. no)
      (cases_Bool (list_any (nat_eq m) (marks_of (left_in (get_or is k e).entries.items))))

  -- a list whose first markers are forgotten
  pub owned_finish : (k : ℕ) (e j : Incarnation O) (now : ℕ → Option ℕ) (marker : ℕ) (done : List ℕ) → k < length is → e ≡ get_or is k e → j.origin ≡ e.origin → left_in j.entries.items ≡ finish marker (left_in e.entries.items) →
      done ++ marks_of (finish marker (left_in e.entries.items)) ≡ marks_of (left_in e.entries.items) → ((m : ℕ) → list_any (nat_eq m) done ≡ false → now m ≡ owner m) → AreOwned place (set is k j) now
  owned_finish k e j now marker done h at same list dropped others = subst (λ (hs : List ListAt). All (IsOwned now) hs) (sym (held_set place is k j)) each
    where
      rest : List ℕ
      rest = marks_of (finish marker (left_in e.entries.items))

      was : IsOwned owner (held_by place e)
      was = owned_here place is owner k e h at all

      distinct : IsDistinct nat_eq (done ++ rest)
      distinct = subst (λ (ms : List ℕ). IsDistinct nat_eq ms) (sym dropped) was.once

      not_done : (m : ℕ) → list_any (nat_eq m) rest ≡ true → list_any (nat_eq m) done ≡ false
      not_done m has = ⊎_elim (λ y. absurd (true≢false (sym has ∙ apart done rest m distinct y))) (λ n. n) (cases_Bool (list_any (nat_eq m) done))

      here : IsOwned now (held_by place j)
      here = record {
        once = subst (λ (q : List Pending). IsDistinct nat_eq (marks_of q)) (sym list) (distinct_rest done rest distinct);
        owned = λ m has. let left : list_any (nat_eq m) rest ≡ true = ap (λ (q : List Pending). list_any (nat_eq m) (marks_of q)) (sym list) ∙ has in
            others m (not_done m left) ∙ was.owned m (ap (list_any (nat_eq m)) (sym dropped) ∙ list_any-append (nat_eq m) done rest ∙ or_true (list_any (nat_eq m) done) (list_any (nat_eq m) rest) left)
            ∙ ap (λ (o : O). Some (place o).number) (sym same);
      }

      away : (n : ℕ) (m : ℕ) → n < length is → n ≢ k → list_any (nat_eq m) (marks_of (left_in (get_or is n e).entries.items)) ≡ true → list_any (nat_eq m) done ≡ false
      away n m hn other has = or_first (list_any (nat_eq m) done) (list_any (nat_eq m) rest) (sym (list_any-append (nat_eq m) done rest) ∙ ap (list_any (nat_eq m)) dropped
          ∙ ap (λ (x : Incarnation O). list_any (nat_eq m) (marks_of (left_in x.entries.items))) at ∙ one_list k n e m h hn other has)

      each : All (IsOwned now) (set (lists_of place is) k (held_by place j))
      each n d l = ⊎_elim
          (λ it. subst (λ (x : ListAt). IsOwned now x) (sym (ap (λ (i : ℕ). get_or (set (lists_of place is) k (held_by place j)) i d) it ∙ get_or-set_same (lists_of place is) k (held_by place j) d (omega (arith, h, held_len place is)))) here)
          (λ other.
          let hn : n < length is = omega (arith, l, length-set (lists_of place is) k (held_by place j), held_len place is) in
          let o = owned_at place is owner n e hn all in
          subst (λ (x : ListAt). IsOwned now x) (sym (get_or-set_other (lists_of place is) k n (held_by place j) d other ∙ held_get place is n d e hn))
          (record { once = o.once; owned = λ m has. others m (away n m hn other has) ∙ o.owned m has }))
          (cases_eq n k)

  -- without the list at i, whose markers are forgotten
  pub owned_taken : (js : List (Incarnation O)) (i : ℕ) (e : Incarnation O) (now : ℕ → Option ℕ) → IsTaken is js i → ((m : ℕ) → list_any (nat_eq m) (marks_of (left_in (get_or is i e).entries.items)) ≡ false → now m ≡ owner m) → AreOwned place js now
  owned_taken js i e now taken others k d l =
      let hk : k < length js = omega (arith, l, held_len place js) in
      let from = source is js i taken k e hk in
      let o = owned_at place is owner from.0 e from.1 all in
      subst (λ (x : ListAt). IsOwned now x) (sym (held_get place js k d e hk ∙ ap (held_by place) from.3))
      (record { once = o.once; owned = λ m has. others m (one_list i from.0 e m taken.inside from.1 from.2 has) ∙ o.owned m has })

-- whose a marker is
owner_at : (hs : List ListAt) (owner : ℕ → Option ℕ) (a : Place) (m : ℕ) → All (IsOwned owner) hs → list_any (nat_eq m) (marks_of (held_at hs a)) ≡ true → owner m ≡ Some a.number
owner_at [] owner a m all has = absurd (true≢false (sym has))
owner_at (x ∷ hs) owner a m all has = ⊎_elim
    (λ y. (all 0 x (omega arith)).owned m (ap (λ (q : List Pending). list_any (nat_eq m) (marks_of q)) (sym (cond-true (same_place x.0 a) x.1 (held_at hs a) y)) ∙ has) ∙ ap (λ (p : Place). Some p.number) (same_place_exact x.0 a y))
    (λ n. owner_at hs owner a m (λ k d h. all (suc k) d (omega arith)) (ap (λ (q : List Pending). list_any (nat_eq m) (marks_of q)) (sym (cond-false (same_place x.0 a) x.1 (held_at hs a) n)) ∙ has))
    (cases_Bool (same_place x.0 a))

nothing_at : (hs : List ListAt) (o : Place) → has_list hs o ≡ false → held_at hs o ≡ []
nothing_at hs o none = no_list hs o o none ∙ cond-true (same_place o o) _ _ (same_self o)

-- a list that has no marker, since none would be its owner
unless_owned : {O : Type 0} (place : O → Place) (is : List (Incarnation O)) (owner : ℕ → Option ℕ) (a : Place) (m : ℕ) → AreOwned place is owner → (owner m ≡ Some a.number → has_list (lists_of place is) a ≡ false) → has_mark m (list_of place is a) ≡ false
unless_owned place is owner a m all not_owned = no_mark m (list_of place is a) (⊎_elim
    (λ y. ap (λ (q : List Pending). list_any (nat_eq m) (marks_of q)) (nothing_at (lists_of place is) a (not_owned (owner_at (lists_of place is) owner a m all y))))
    (λ n. n)
    (cases_Bool (list_any (nat_eq m) (marks_of (list_of place is a)))))

module _ {O : Type 0} (place : O → Place) (is : List (Incarnation O)) (keys : List ℕ) (ix : AreIndexed place is keys false) (owner : ℕ → Option ℕ) (all : AreOwned place is owner) (m : ℕ) where
  pub started_unmapped : owner m ≡ None → IsStartedIn place is m None
  started_unmapped none a = unless_owned place is owner a m all (λ its. absurd (not_none (sym none ∙ its)))

  pub started_nowhere : (n : ℕ) → owner m ≡ Some n → position (nat_eq n) keys ≡ None → IsStartedIn place is m None
  started_nowhere n owned none a = unless_owned place is owner a m all (λ its. none_of_number place is keys ix a n (some_is (sym owned ∙ its)) none)

  pub started_at : (n i : ℕ) → owner m ≡ Some n → position (nat_eq n) keys ≡ Some i → i < length is → IsStartedIn place is m (Some i)
  started_at n i owned at h = (
    h,
    λ a e other. unless_owned place is owner a m all (λ its. none_but place is keys ix a n i (some_is (sym owned ∙ its)) at
        (λ d. ap (λ (x : Incarnation O). same_place (place x.origin) a) (get_or_default is i d e h) ∙ other)),
  )

  pub started_by : (n : ℕ) (r : Option ℕ) → owner m ≡ Some n → r ≡ position (nat_eq n) keys → IsStartedIn place is m r
  started_by n None owned at = started_nowhere n owned (sym at)
  started_by n (Some i) owned at = started_at n i owned (sym at) (key_within place is keys ix n i (sym at))

-- what is pending after a started sync is finished in the one list that has its marker
pub finished_at : {O : Type 0} (place : O → Place) (is : List (Incarnation O)) (i : ℕ) (e j : Incarnation O) (m : ℕ) (o : Place) → ((a b : O) → place a ≡ place b → a ≡ b) → AreDistinct is → IsStartedIn place is m (Some i) → e ≡ get_or is i e → j.origin ≡ e.origin →
    left_in j.entries.items ≡ finish m (left_in e.entries.items) → list_of place (set is i j) o ≡ finish m (list_of place is o)
finished_at {O} place is i e j m o one distinct started at same list =
    let its = place e.origin in
    let here = at_of place is i e its one distinct started.0 (ap (λ (x : Incarnation O). same_place (place x.origin) its) (sym at) ∙ same_self its) in
    changed_list place is i e j its (finish m (left_in e.entries.items)) o started.0 at same here list
    ∙ ⊎_elim
    (λ y. cond-true (same_place its o) _ _ y ∙ ap (finish m) (found place is i e its started.0 at here ∙ ap (list_of place is) (same_place_exact its o y)))
    (λ n. cond-false (same_place its o) _ _ n ∙ not_finished m (list_of place is o) (started.1 o e (ap (λ (x : Incarnation O). same_place (place x.origin) o) (sym at) ∙ n)))
    (cases_Bool (same_place its o))
