-- Lists by their incarnations, after one of them changed.
use Rattle.std.proofs.Common.{◌≡◌, ⊎_elim, ℕ, zero, suc, ◌+◌, ◌-◌, ◌<◌, Bool, true, false, cond, not, ◌&&◌, ◌||◌, List, [], ◌∷◌, ◌++◌, length, get_or, set, map, refl, sym, ◌∙◌, ap, ap₂, subst, arith, true≢false}
use Rattle.std.specs.List.{filter, All}
use Rattle.std.proofs.lemmas.Bool.{cond_both, cases_Bool, cases_eq, cond-true, cond-false}
use Rattle.std.proofs.lemmas.List.{set-get_or, length-set, get_or-set_same, get_or-set_other, length-append, get_or_append_left, get_or-append_right}
use Rattle.blob_model.specs.Holes.{Holes}
use Rattle.blob_model.specs.Places.{Place, same_place}
use Rattle.blob_model.specs.SamePlace.{same_place_exact, same_back, same_self, apart_at}
use Rattle.blob_model.specs.Durable.{with_at}
use Rattle.blob_model.specs.Order.{ListAt, held_at, has_list, ArePlacesApart}
use Rattle.blob_model.specs.Pending.{Pending, finish}
use Rattle.blob_pending.specs.Rooms.{HasRoomsFor}
use Rattle.blob_pending.specs.Views.{left_in}
use Rattle.blob_pending.specs.Lists.{is_list_of, IsAt, held_by, lists_of, list_of, HasRoom, HasRoomIn, HasRangesAt, finished_in}
use Rattle.blob_pending.specs.declared.incarnation.Incarnation.{Incarnation}
use Rattle.blob_pending.specs.declared.room.Room.{Room}

-- equal places are apart from the same ones
pub other_than : (o a i : Place) → i ≡ o → same_place i a ≡ same_place o a
other_than o a i e = ap (λ (p : Place). same_place p a) e

-- no list is of it
pub has_none : (hs : List ListAt) (o : Place) → ((k : ℕ) (d : ListAt) → k < length hs → is_list_of o (get_or hs k d) ≡ false) → has_list hs o ≡ false
has_none [] o h = refl
has_none (x ∷ hs) o h = cond-false (is_list_of o x) true (has_list hs o) (h 0 x (omega arith)) ∙ has_none hs o (λ k d l. h (suc k) d (omega arith))

pub is_not_of : (hs : List ListAt) (o : Place) → has_list hs o ≡ false → (k : ℕ) (d : ListAt) → k < length hs → is_list_of o (get_or hs k d) ≡ false
is_not_of [] o n k d h = absurd (omega arith)
is_not_of (x ∷ hs) o n k d h = ⊎_elim (λ y. absurd (true≢false (sym (cond-true (is_list_of o x) true (has_list hs o) y) ∙ n)))
    (λ no. at k (λ j l. is_not_of hs o (sym (cond-false (is_list_of o x) true (has_list hs o) no) ∙ n) j d l) no h) (cases_Bool (is_list_of o x))
  where
    at : (k : ℕ) → ((j : ℕ) → j < length hs → is_list_of o (get_or hs j d) ≡ false) → is_list_of o x ≡ false → k < suc (length hs) → is_list_of o (get_or (x ∷ hs) k d) ≡ false
    at zero rest isnt l = isnt
    at (suc j) rest isnt l = rest j (omega arith)

-- what is read of the lists as the code has them
pub held_get : {O : Type 0} (place : O → Place) (is : List (Incarnation O)) (k : ℕ) (d : ListAt) (e : Incarnation O) → k < length is → get_or (lists_of place is) k d ≡ held_by place (get_or is k e)
held_get place [] k d e h = absurd (omega arith)
held_get place (x ∷ is) zero d e h = refl
held_get place (x ∷ is) (suc k) d e h = held_get place is k d e (omega arith)

-- whose it is, by the code's own
pub of_item : {O : Type 0} (place : O → Place) (is : List (Incarnation O)) (k : ℕ) (d : ListAt) (e : Incarnation O) (o : Place) → k < length is → e ≡ get_or is k e → is_list_of o (get_or (lists_of place is) k d) ≡ same_place (place e.origin) o
of_item {O} place is k d e o h at = ap (λ (x : ListAt). is_list_of o x) (held_get place is k d e h) ∙ ap (λ (x : Incarnation O). same_place (place x.origin) o) (sym at)

pub held_len : {O : Type 0} (place : O → Place) (is : List (Incarnation O)) → length (lists_of place is) ≡ length is
held_len place [] = refl
held_len place (x ∷ is) = ap suc (held_len place is)

pub held_set : {O : Type 0} (place : O → Place) (is : List (Incarnation O)) (k : ℕ) (j : Incarnation O) → lists_of place (set is k j) ≡ set (lists_of place is) k (held_by place j)
held_set place [] k j = refl
held_set place (x ∷ is) zero j = refl
held_set place (x ∷ is) (suc k) j = ap (λ (hs : List ListAt). held_by place x ∷ hs) (held_set place is k j)

pub held_push : {O : Type 0} (place : O → Place) (is : List (Incarnation O)) (j : Incarnation O) → lists_of place (is ++ j ∷ []) ≡ lists_of place is ++ held_by place j ∷ []
held_push place [] j = refl
held_push place (x ∷ is) j = ap (λ (hs : List ListAt). held_by place x ∷ hs) (held_push place is j)

pub held_filter : {O : Type 0} (place : O → Place) (stays : Place → Bool) (is : List (Incarnation O)) → lists_of place (filter (λ i. stays (place i.origin)) is) ≡ filter (λ h. stays h.0) (lists_of place is)
held_filter place stays [] = refl
held_filter {O} place stays (x ∷ is) = step (stays (place x.origin)) (held_filter place stays is)
  where
    left : List (Incarnation O)
    left = filter (λ i. stays (place i.origin)) is

    step : (b : Bool) → lists_of place (filter (λ i. stays (place i.origin)) is) ≡ filter (λ h. stays h.0) (lists_of place is) →
        lists_of place (cond b (x ∷ filter (λ i. stays (place i.origin)) is) (filter (λ i. stays (place i.origin)) is)) ≡ cond b (held_by place x ∷ filter (λ h. stays h.0) (lists_of place is)) (filter (λ h. stays h.0) (lists_of place is))
    step true e = ap (λ (hs : List ListAt). held_by place x ∷ hs) e
    step false e = e

-- one list more, with nothing in it
pub held_at_add : (hs : List ListAt) (o a : Place) → held_at (hs ++ (o, []) ∷ []) a ≡ held_at hs a
held_at_add [] o a = cond_both (same_place o a) [] [] (λ (r : List Pending). r ≡ []) (λ _. refl) (λ _. refl)
held_at_add (x ∷ hs) o a = ap (λ (r : List Pending). cond (same_place x.0 a) x.1 r) (held_at_add hs o a)

has_add : (hs : List ListAt) (h : ListAt) (a : Place) → has_list hs a ≡ false → same_place h.0 a ≡ false → has_list (hs ++ h ∷ []) a ≡ false
has_add [] j a h n = cond-false (same_place j.0 a) true false n
has_add (i ∷ is) j a h n = ⊎_elim (λ y. absurd (true≢false (sym (cond-true (is_list_of a i) true (has_list is a) y) ∙ h)))
    (λ no. cond-false (is_list_of a i) true _ no ∙ has_add is j a (sym (cond-false (is_list_of a i) true (has_list is a) no) ∙ h) n) (cases_Bool (is_list_of a i))

pub apart_add : (hs : List ListAt) (h : ListAt) → ArePlacesApart hs → has_list hs h.0 ≡ false → ArePlacesApart (hs ++ h ∷ [])
apart_add [] j a n = (refl, tt)
apart_add (i ∷ is) j a n = ⊎_elim (λ y. absurd (true≢false (sym (cond-true (is_list_of j.0 i) true (has_list is j.0) y) ∙ n)))
    (λ no. (has_add is j i.0 a.0 (same_back j.0 i.0 ∙ no), apart_add is j a.1 (sym (cond-false (is_list_of j.0 i) true (has_list is j.0) no) ∙ n)))
    (cases_Bool (is_list_of j.0 i))

pub at_add : (hs : List ListAt) (h : ListAt) → has_list hs h.0 ≡ false → IsAt (hs ++ h ∷ []) (length hs) h.0
at_add hs h n = record {
  inside = omega (arith, length-append hs (h ∷ []));
  here = λ d. ap (λ (x : ListAt). is_list_of h.0 x) (get_or-append_right hs (h ∷ []) (length hs) (length hs) d refl (omega arith) ∙ ap (λ (k : ℕ). get_or (h ∷ []) k d) none) ∙ same_self h.0;
  before = λ k d l. ap (λ (x : ListAt). is_list_of h.0 x) (get_or_append_left hs (h ∷ []) d k l) ∙ is_not_of hs h.0 n k d l;
}
  where
    none : length hs - length hs ≡ 0
    none = omega arith

-- lists taken out, by their incarnations
pub held_at_filter : (hs : List ListAt) (gone : Place → Bool) (a : Place) → held_at (filter (λ h. not (gone h.0)) hs) a ≡ cond (gone a) [] (held_at hs a)
held_at_filter [] gone a = cond_both (gone a) [] [] (λ (r : List Pending). [] ≡ r) (λ _. refl) (λ _. refl)
held_at_filter (x ∷ hs) gone a = cond_both (not (gone x.0)) (x ∷ filter (λ h. not (gone h.0)) hs) (filter (λ h. not (gone h.0)) hs)
    (λ r. held_at r a ≡ cond (gone a) [] (cond (same_place x.0 a) x.1 (held_at hs a)))
    (λ stays. ⊎_elim
    (λ y. cond-true (same_place x.0 a) _ _ y ∙ sym (cond-false (gone a) _ _ (ap gone (sym (same_place_exact x.0 a y)) ∙ not_true _ stays) ∙ cond-true (same_place x.0 a) _ _ y))
    (λ n. cond-false (same_place x.0 a) _ _ n ∙ held_at_filter hs gone a ∙ ap (λ (r : List Pending). cond (gone a) [] r) (sym (cond-false (same_place x.0 a) _ _ n)))
    (cases_Bool (same_place x.0 a)))
    (λ goes. held_at_filter hs gone a ∙ ⊎_elim
    (λ y. let g : gone a ≡ true = ap gone (sym (same_place_exact x.0 a y)) ∙ not_false _ goes in cond-true (gone a) _ _ g ∙ sym (cond-true (gone a) _ _ g))
    (λ n. ap (λ (r : List Pending). cond (gone a) [] r) (sym (cond-false (same_place x.0 a) _ _ n)))
    (cases_Bool (same_place x.0 a)))
  where
    not_true : (b : Bool) → not b ≡ true → b ≡ false
    not_true true e = sym e
    not_true false e = refl

    not_false : (b : Bool) → not b ≡ false → b ≡ true
    not_false true e = refl
    not_false false e = sym e

-- one list made new in place
pub held_at_set : (hs : List ListAt) (k : ℕ) (h : ListAt) (o a : Place) → IsAt hs k o → h.0 ≡ (get_or hs k h).0 → held_at (set hs k h) a ≡ with_at (held_at hs) o h.1 a
held_at_set [] k h o a i e = absurd (omega (arith, i.inside))
held_at_set (x ∷ hs) zero h o a i e =
    let at : x.0 ≡ o = same_place_exact x.0 o (i.here x) in
    ap (λ (b : Bool). cond b h.1 (held_at hs a)) (other_than o a h.0 (e ∙ at))
    ∙ both (same_place o a) h.1 x.1 (held_at hs a)
    ∙ ap (λ (b : Bool). cond (same_place o a) h.1 (cond b x.1 (held_at hs a))) (sym (other_than o a x.0 at))
  where
    both : (b : Bool) (x y z : List Pending) → cond b x z ≡ cond b x (cond b y z)
    both true x y z = refl
    both false x y z = refl
held_at_set (x ∷ hs) (suc k) h o a i e = ⊎_elim
    (λ y. cond-true (same_place x.0 a) _ _ y ∙ sym (cond-false (same_place o a) _ _ (apart_at o a x.0 (i.before 0 x (omega arith)) y) ∙ cond-true (same_place x.0 a) _ _ y))
    (λ n. cond-false (same_place x.0 a) _ _ n ∙ held_at_set hs k h o a (record { inside = omega (arith, i.inside); here = λ d. i.here d; before = λ m d l. i.before (suc m) d (omega arith) }) e
    ∙ ap (λ (r : List Pending). cond (same_place o a) h.1 r) (sym (cond-false (same_place x.0 a) _ _ n)))
    (cases_Bool (same_place x.0 a))

-- the list that is found
pub held_here : (hs : List ListAt) (k : ℕ) (d : ListAt) (o : Place) → IsAt hs k o → (get_or hs k d).1 ≡ held_at hs o
held_here [] k d o i = absurd (omega (arith, i.inside))
held_here (x ∷ hs) zero d o i = sym (cond-true (is_list_of o x) _ _ (i.here x))
held_here (x ∷ hs) (suc k) d o i = held_here hs k d o (record { inside = omega (arith, i.inside); here = λ e. i.here e; before = λ m e l. i.before (suc m) e (omega arith) })
    ∙ sym (cond-false (is_list_of o x) _ _ (i.before 0 x (omega arith)))

pub at_set : (hs : List ListAt) (k : ℕ) (h : ListAt) (o : Place) → h.0 ≡ (get_or hs k h).0 → IsAt hs k o → IsAt (set hs k h) k o
at_set hs k h o e i = record {
  inside = omega (arith, length-set hs k h, i.inside);
  here = λ d. ap (λ (x : ListAt). is_list_of o x) (get_or-set_same hs k h d i.inside) ∙ ap (λ (p : Place). same_place p o) e ∙ i.here h;
  before = λ m d l. ap (λ (x : ListAt). is_list_of o x) (get_or-set_other hs k m h d (λ is. omega arith)) ∙ i.before m d l;
}

-- a list that is added, as the code has it
pub added : {O : Type 0} (place : O → Place) (new old : List (Incarnation O)) (j : Incarnation O) (o : O) → new ≡ old ++ j ∷ [] → j.origin ≡ o → j.entries.items ≡ [] → lists_of place new ≡ lists_of place old ++ (place o, []) ∷ []
added {O} place new old j o e of none = ap (lists_of place) e ∙ held_push place old j ∙ ap₂ (λ (p : O) (q : List Pending). lists_of place old ++ (place p, q) ∷ []) of (ap left_in none)

-- a list that is changed in place, as the code has it
place_at : {O : Type 0} (place : O → Place) (is : List (Incarnation O)) (k : ℕ) (e j : Incarnation O) → k < length is → e ≡ get_or is k e → j.origin ≡ e.origin → place j.origin ≡ (get_or (lists_of place is) k (held_by place j)).0
place_at {O} place is k e j h at same = ap place (same ∙ ap (λ (x : Incarnation O). x.origin) at) ∙ sym (ap (λ (x : ListAt). x.0) (held_get place is k (held_by place j) e h))

pub found : {O : Type 0} (place : O → Place) (is : List (Incarnation O)) (k : ℕ) (e : Incarnation O) (o : Place) → k < length is → e ≡ get_or is k e → IsAt (lists_of place is) k o → left_in e.entries.items ≡ list_of place is o
found {O} place is k e o h at i = ap (λ (x : Incarnation O). left_in x.entries.items) at ∙ sym (ap (λ (x : ListAt). x.1) (held_get place is k (held_by place e) e h)) ∙ held_here (lists_of place is) k (held_by place e) o i

pub changed_list : {O : Type 0} (place : O → Place) (is : List (Incarnation O)) (k : ℕ) (e j : Incarnation O) (o : Place) (q : List Pending) (a : Place) → k < length is → e ≡ get_or is k e → j.origin ≡ e.origin → IsAt (lists_of place is) k o → left_in j.entries.items ≡ q →
    list_of place (set is k j) a ≡ with_at (list_of place is) o q a
changed_list place is k e j o q a h at same i is_q = ap (λ (hs : List ListAt). held_at hs a) (held_set place is k j) ∙ held_at_set (lists_of place is) k (held_by place j) o a i (place_at place is k e j h at same)
    ∙ ap (λ (r : List Pending). with_at (list_of place is) o r a) is_q

pub changed_at : {O : Type 0} (place : O → Place) (is : List (Incarnation O)) (k : ℕ) (e j : Incarnation O) (o : Place) → k < length is → e ≡ get_or is k e → j.origin ≡ e.origin → IsAt (lists_of place is) k o → IsAt (lists_of place (set is k j)) k o
changed_at place is k e j o h at same i = subst (λ (hs : List ListAt). IsAt hs k o) (sym (held_set place is k j)) (at_set (lists_of place is) k (held_by place j) o (place_at place is k e j h at same) i)

-- one that only got room
pub held_same : {O : Type 0} (place : O → Place) (is : List (Incarnation O)) (k : ℕ) (e j : Incarnation O) → k < length is → e ≡ get_or is k e → j.origin ≡ e.origin → left_in j.entries.items ≡ left_in e.entries.items → lists_of place (set is k j) ≡ lists_of place is
held_same {O} place is k e j h at same v = held_set place is k j
    ∙ ap (λ (x : ListAt). set (lists_of place is) k x) (ap₂ (λ (p : Place) (q : List Pending). pair p q) (ap place same) v ∙ ap (held_by place) at ∙ sym (held_get place is k (held_by place e) e h))
    ∙ set-get_or (lists_of place is) k (held_by place e)
  where
    pair : Place → List Pending → ListAt
    pair p q = (p, q)

pub room_in : {O : Type 0} (is : List (Incarnation O)) (k : ℕ) (what : Room) (j : Incarnation O) → k < length is → HasRoom what j → HasRoomIn (set is k j) k what
room_in {O} is k what j h room = record {
  inside = omega (arith, length-set is k j, h);
  room = λ d. subst (λ (x : Incarnation O). HasRoom what x) (sym (get_or-set_same is k j d h)) room;
}

pub ranges_at : {O : Type 0} (is : List (Incarnation O)) (k : ℕ) (hs : Holes) (j : Incarnation O) → k < length is → HasRoomsFor hs j.entries → HasRangesAt (set is k j) k hs
ranges_at {O} is k hs j h room d = subst (λ (x : Incarnation O). HasRoomsFor hs x.entries) (sym (get_or-set_same is k j d h)) room

pub rooms_of : {O : Type 0} (is : List (Incarnation O)) (k : ℕ) (hs : Holes) (e : Incarnation O) → e ≡ get_or is k e → HasRangesAt is k hs → HasRoomsFor hs e.entries
rooms_of {O} is k hs e at h = subst (λ (x : Incarnation O). HasRoomsFor hs x.entries) (sym at) (h e)

-- what holds of those before k, and now of the one at k
pub below_set : {X : Type 0} (P : X → Type 0) (xs : List X) (k : ℕ) (x : X) → k < length xs → ((m : ℕ) (d : X) → m < k → P (get_or xs m d)) → P x → (m : ℕ) (d : X) → m < k + 1 → P (get_or (set xs k x) m d)
below_set {X} P xs k x h below one m d l = ⊎_elim
    (λ is. subst P (sym (ap (λ (j : ℕ). get_or (set xs k x) j d) is ∙ get_or-set_same xs k x d h)) one)
    (λ ne. subst P (sym (get_or-set_other xs k m x d ne)) (below m d (omega arith)))
    (cases_eq m k)

-- each list changed by its own place
pub held_at_finished : (marker : ℕ) (hs : List ListAt) (o : Place) → held_at (map (finished_in marker) hs) o ≡ finish marker (held_at hs o)
held_at_finished marker [] o = refl
held_at_finished marker (x ∷ hs) o = cond_both (same_place x.0 o) x.1 (held_at hs o) (λ r. cond (same_place x.0 o) (finish marker x.1) (held_at (map (finished_in marker) hs) o) ≡ finish marker r)
    (λ y. cond-true (same_place x.0 o) _ _ y) (λ n. cond-false (same_place x.0 o) _ _ n ∙ held_at_finished marker hs o)

has_finished : (marker : ℕ) (hs : List ListAt) (o : Place) → has_list (map (finished_in marker) hs) o ≡ has_list hs o
has_finished marker [] o = refl
has_finished marker (x ∷ hs) o = ap (λ (b : Bool). cond (same_place x.0 o) true b) (has_finished marker hs o)

pub apart_finished : (marker : ℕ) (hs : List ListAt) → ArePlacesApart hs → ArePlacesApart (map (finished_in marker) hs)
apart_finished marker [] a = tt
apart_finished marker (x ∷ hs) a = (has_finished marker hs x.0 ∙ a.0, apart_finished marker hs a.1)

-- tests that agree on the elements
pub filter_on : {X : Type 0} (p q : X → Bool) (xs : List X) → All (λ x. p x ≡ q x) xs → filter p xs ≡ filter q xs
filter_on p q [] all = refl
filter_on {X} p q (x ∷ xs) all = step (q x) (p x) (all 0 x (omega arith)) (filter_on p q xs (λ k d h. all (suc k) d (omega arith)))
  where
    step : (b a : Bool) → a ≡ b → filter p xs ≡ filter q xs → cond a (x ∷ filter p xs) (filter p xs) ≡ cond b (x ∷ filter q xs) (filter q xs)
    step b a e rest = ap₂ (λ (t : Bool) (ys : List X). cond t (x ∷ ys) ys) e rest

-- what stays where those go that have ended
pub stays_is : (was now : Bool) → (not was || now) ≡ not (was && not now)
stays_is true true = refl
stays_is true false = refl
stays_is false true = refl
stays_is false false = refl
