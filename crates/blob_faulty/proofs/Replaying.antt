-- The replays of a crash, entry by entry and list by list.
use Rattle.std.proofs.Common.{◌≡◌, ⊎_elim, ℕ, zero, suc, ◌+◌, ◌-◌, ◌<◌, ◌≤◌, max, min, Bool, true, false, not, ◌&&◌, List, [], ◌∷◌, length, get_or, drop, replicate, Option, Some, None, refl, sym, ◌∙◌, ap, ap₂, subst, arith, true≢false, nat_lt, take, ◌++◌}
use Rattle.std.specs.Prelude.{option_map, is_some, nat_le, Result, Ok, OnOk, IfSome}
use Rattle.std.proofs.lemmas.Bool.{cases_Bool, cases_eq, cond_both, cond-true, cond-false, and_parts, leb-true, ltb-true, le-leb, lt-ltb, cases_lt}
use Rattle.std.proofs.lemmas.List.{get_or-replicate, get_or_default, at_drop_more, length-append, length-take, length-drop, length-replicate, get_or-drop, take_all, get_or_append_left, get_or-take, get_or-append_right, get_or_past}
use Rattle.blob_model.specs.Bytes.{overlay_by, between, reach}
use Rattle.blob_model.specs.Directory.{Directory, is_current}
use Rattle.blob_model.specs.Durable.{Durable, with_changed}
use Rattle.blob_model.specs.Holes.{Holes, AreApart, in_holes, need_in}
use Rattle.blob_model.specs.Log.{Choices, Write}
use Rattle.blob_model.specs.Order.{ListAt, held_at, has_list}
use Rattle.blob_model.specs.Pending.{Pending, replay, bare_choices, ends}
use Rattle.blob_model.specs.Places.{Place, same_place}
use Rattle.blob_model.specs.Runs.{is_chosen}
use Rattle.blob_model.specs.SamePlace.{same_place_exact}
use Rattle.blob_model.specs.Stands.{replayed_at}
use Rattle.blob_model.proofs.Agrees.{overlay_same}
use Rattle.blob_model.proofs.Bytes.{lies_in, reach_below}
use Rattle.blob_memory.specs.declared.storage.Storage.{Storage}
use Rattle.blob_memory.specs.Store.{directory, HasCrashRoom}
use Rattle.blob_pending.specs.declared.entry.Entry.{Entry}
use Rattle.blob_pending.specs.declared.extent.Extent.{Extent}
use Rattle.blob_pending.specs.declared.incarnation.Incarnation.{Incarnation}
use Rattle.blob_pending.specs.declared.write.PendingWrite.{PendingWrite}
use Rattle.blob_pending.specs.Ranges.{ranges}
use Rattle.blob_pending.specs.Lists.{lists_of, held_by}
use Rattle.blob_pending.specs.Replays.{unmarked}
use Rattle.blob_faulty.specs.Ready.{IsReady}
use Rattle.blob_pending.specs.Views.{view, is_left, left_in}

-- what a call ensures if it returned Ok
pub ok_is : {T E P : Type 0} (r : Result T E) (x : T) → r ≡ Ok x → OnOk r P → P
ok_is {T} {E} {P} r x e h = subst (λ (q : Result T E). OnOk q P) e h

-- what holds of a value, if it exists
pub if_some : {T : Type 0} (r : Option T) (x : T) (P : T → Type 0) → r ≡ Some x → IfSome r P → P x
if_some {T} r x P e h = subst (λ (q : Option T). IfSome q P) e h

-- no chosen byte lies past the write
pub reach_within : (o n : ℕ) (c : ℕ → Bool) → reach o n c ≤ o + n
reach_within o n c = reach_below o n c (o + n) (λ i h _. omega arith)

-- each entry of which something is left needs no more of what f counts than the list, whose greatest need is g
pub most_in : (f : Pending → ℕ) (g : List Pending → ℕ) → ((e : Pending) (r : List Pending) → g (e ∷ r) ≡ max (f e) (g r)) → (q : List Entry) (i : ℕ) (d : Entry) → i < length q → is_left (view (get_or q i d)) ≡ true →
    f (view (get_or q i d)) ≤ g (left_in q)
most_in f g step [] i d h y = absurd (omega arith)
most_in f g step (x ∷ q) zero d h y = let is = ap g (cond-true (is_left (view x)) (view x ∷ left_in q) (left_in q) y) in omega (arith, is, step (view x) (left_in q))
most_in f g step (x ∷ q) (suc i) d h y =
    let rest = most_in f g step q i d (omega arith) y in
    cond_both (is_left (view x)) (view x ∷ left_in q) (left_in q) (λ r. f (view (get_or q i d)) ≤ g r) (λ _. omega (arith, rest, step (view x) (left_in q))) (λ _. rest)

-- as an index of the write
same_test : (a b : Bool) → (a ≡ true → b ≡ true) → (b ≡ true → a ≡ true) → a ≡ b
same_test true b f g = sym (f refl)
same_test false true f g = g refl
same_test false false f g = refl

in_between : (s e p : ℕ) → between s e p ≡ true → (s ≤ p) × (p < e)
in_between s e p y = let a = and_parts (nat_le s p) (nat_lt p e) y in (leb-true s p a.0, ltb-true p e a.1)

between_in : (s e p : ℕ) → s ≤ p → p < e → between s e p ≡ true
between_in s e p a b = ap₂ (λ (x y : Bool). x && y) (le-leb s p a) (lt-ltb p e b)

not_between : (s e p : ℕ) → (s ≤ p → p < e → ⊥) → between s e p ≡ false
not_between s e p never = ⊎_elim (λ y. let r = in_between s e p y in absurd (never r.0 r.1)) (λ n. n) (cases_Bool (between s e p))

-- as an index of the write, of a hole that lies in it
pub covered_at : (start end o k : ℕ) → o ≤ start → between (start - o) ((start - o) + ((end - o) - (start - o))) k ≡ between start end (o + k)
covered_at start end o k low = same_test (between (start - o) ((start - o) + ((end - o) - (start - o))) k) (between start end (o + k))
    (λ y. let r : (start - o ≤ k) × (k < (start - o) + ((end - o) - (start - o))) = in_between (start - o) ((start - o) + ((end - o) - (start - o))) k y in between_in start end (o + k) (omega (arith, low, r.0, r.1)) (omega (arith, low, r.0, r.1)))
    (λ y. let r : (start ≤ o + k) × (o + k < end) = in_between start end (o + k) y in between_in (start - o) ((start - o) + ((end - o) - (start - o))) k (omega (arith, low, r.0, r.1)) (omega (arith, low, r.0, r.1)))

-- a part of the choices is cleared
pub cleared_at : (a n k : ℕ) (xs ys : List Bool) → a + n ≤ length xs → ys ≡ replicate n false → get_or (take a xs ++ (ys ++ drop n (drop a xs))) k false ≡ (not (between a (a + n) k) && get_or xs k false)
cleared_at a n k xs ys fits is =
    let front : length (take a xs) ≡ a = omega (arith, length-take a xs, fits) in
    let mid : length ys ≡ n = ap length is ∙ length-replicate n false in
    let rest : List Bool = drop n (drop a xs) in
    ⊎_elim
    (λ before. get_or_append_left (take a xs) (ys ++ rest) false k (omega (arith, front, before)) ∙ get_or-take a xs k false before
    ∙ sym (ap (λ (b : Bool). not b && get_or xs k false) (not_between a (a + n) k (λ l h. omega (arith, before, l)))))
    (λ from. get_or-append_right (take a xs) (ys ++ rest) a k false front from ∙ ⊎_elim
    (λ here. get_or_append_left ys rest false (k - a) (omega (arith, mid, here)) ∙ ap (λ (l : List Bool). get_or l (k - a) false) is ∙ get_or-replicate n (k - a) false false here
    ∙ sym (ap (λ (b : Bool). not b && get_or xs k false) (between_in a (a + n) k from (omega (arith, here)))))
    (λ past. get_or-append_right ys rest n (k - a) false mid past ∙ get_or-drop n (drop a xs) ((k - a) - n) false ∙ get_or-drop a xs (n + ((k - a) - n)) false ∙ ap (λ (j : ℕ). get_or xs j false) (at a n k from past)
    ∙ sym (ap (λ (b : Bool). not b && get_or xs k false) (not_between a (a + n) k (λ l h. omega (arith, past, h)))))
    (cases_lt (k - a) n))
    (cases_lt k a)
  where
    at : (a n k : ℕ) → a ≤ k → n ≤ k - a → a + (n + ((k - a) - n)) ≡ k
    at a n k low high = omega (arith, low, high)

pub cleared_len : (a n : ℕ) (xs ys : List Bool) → a + n ≤ length xs → ys ≡ replicate n false → length (take a xs ++ (ys ++ drop n (drop a xs))) ≡ length xs
cleared_len a n xs ys fits is =
    omega (arith, fits, ap length is, length-replicate n false, length-append (take a xs) (ys ++ drop n (drop a xs)), length-append ys (drop n (drop a xs)), length-take a xs, length-drop n (drop a xs), length-drop a xs)

-- the choices that are applied are those of the bare bytes
pub masked : (w : Write) (hs : Holes) (t : Choices) (kept : List Bool) (x : List ℕ) → ((i : ℕ) → i < length w.bytes → get_or kept i false ≡ (not (in_holes hs (w.offset + i)) && t w.number i)) →
    overlay_by x w.offset w.bytes (is_chosen kept) ≡ overlay_by x w.offset w.bytes (bare_choices (need_in w hs) t)
masked w hs t kept x h = overlay_same x w.offset w.bytes _ _ (λ i l. h i l ∙ sym (ap (λ (b : Bool). (b && not (in_holes hs (w.offset + i))) && t w.number i) (lies_in w.offset (length w.bytes) (w.offset + i) (omega arith) (omega arith))))

-- an incarnation that ended has none
pub changed_ended : (f : Durable) (o : Place) (g : List ℕ → List ℕ) (a : Place) → is_some (f o) ≡ false → f a ≡ with_changed f o g a
changed_ended f o g a n = sym (⊎_elim
    (λ y. cond-true (same_place o a) _ _ y ∙ go (f a) (sym (ap (λ (p : Place). is_some (f p)) (same_place_exact o a y)) ∙ n))
    (λ other. cond-false (same_place o a) _ _ other)
    (cases_Bool (same_place o a)))
  where
    go : (x : Option (List ℕ)) → is_some x ≡ false → option_map g x ≡ x
    go None e = refl
    go (Some x) e = absurd (true≢false e)

none_held : (hs : List ListAt) (o : Place) → has_list hs o ≡ false → held_at hs o ≡ []
none_held [] o n = refl
none_held (h ∷ hs) o n = ⊎_elim
    (λ y. absurd (true≢false (sym (cond-true (same_place h.0 o) true (has_list hs o) y) ∙ n)))
    (λ isnt. cond-false (same_place h.0 o) _ _ isnt ∙ none_held hs o (sym (cond-false (same_place h.0 o) true (has_list hs o) isnt) ∙ n))
    (cases_Bool (same_place h.0 o))

-- the first list is replayed, the others are still to be
pub replay_first : (t : Choices) (h : ListAt) (hs : List ListAt) (f f' : Durable) (a : Place) → has_list hs h.0 ≡ false → f' a ≡ with_changed f h.0 (λ x. replay h.1 t x) a → replayed_at t (held_at hs a) (f' a) ≡ replayed_at t (held_at (h ∷ hs) a) (f a)
replay_first t h hs f f' a alone told = ap (replayed_at t (held_at hs a)) told ∙ ⊎_elim
    (λ y. ap₂ (λ (q : List Pending) (b : Option (List ℕ)). replayed_at t q b) (none_held hs a (ap (has_list hs) (sym (same_place_exact h.0 a y)) ∙ alone)) (cond-true (same_place h.0 a) _ _ y) ∙ go (f a)
    ∙ ap (λ (q : List Pending). replayed_at t q (f a)) (sym (cond-true (same_place h.0 a) _ _ y)))
    (λ n. ap (replayed_at t (held_at hs a)) (cond-false (same_place h.0 a) _ _ n) ∙ ap (λ (q : List Pending). replayed_at t q (f a)) (sym (cond-false (same_place h.0 a) _ _ n)))
    (cases_Bool (same_place h.0 a))
  where
    go : (b : Option (List ℕ)) → replayed_at t [] (option_map (λ x. replay h.1 t x) b) ≡ replayed_at t h.1 b
    go None = refl
    go (Some x) = refl

-- no list needs more than all lists, whose greatest need is `all`
pub most_of_all : {O : Type 0} (place : O → Place) (g : List Pending → ℕ) (all : List ListAt → ℕ) → ((h : ListAt) (hs : List ListAt) → all (h ∷ hs) ≡ max (g (unmarked h.1)) (all hs)) → (is : List (Incarnation O)) (i : ℕ) (x : Incarnation O) →
    i < length is → x ≡ get_or is i x → g (unmarked (left_in x.entries.items)) ≤ all (lists_of place is)
most_of_all place g all step [] i x h e = absurd (omega arith)
most_of_all {O} place g all step (y ∷ is) zero x h e = omega (arith, ap (λ (z : Incarnation O). g (unmarked (left_in z.entries.items))) e, step (held_by place y) (lists_of place is))
most_of_all place g all step (y ∷ is) (suc i) x h e = omega (arith, most_of_all place g all step is i x (omega arith) e, step (held_by place y) (lists_of place is))

-- a store that keeps its directory and lowers no capacity stays ready
pub still_ready : (s s' : Storage) (h : ListAt) → directory s' ≡ directory s → ((o : Place) (n : ℕ) → HasCrashRoom s o n → HasCrashRoom s' o n) → IsReady s h → IsReady s' h
still_ready s s' h same room ready current = let r = ready (sym (ap (λ (d : Directory). is_current d h.0) same) ∙ current) in (r.0, room h.0 (ends (unmarked h.1)) r.1)

pub ready_more : (s s' : Storage) (is : List (Incarnation Place)) (i : ℕ) (x : Incarnation Place) → i < length is → x ≡ get_or is i x → directory s' ≡ directory s → ((o : Place) (n : ℕ) → HasCrashRoom s o n → HasCrashRoom s' o n) →
    ((k : ℕ) (d : Incarnation Place) → k < i → IsReady s (held_by (λ (o : Place). o) (get_or is k d))) → IsReady s' (held_by (λ (o : Place). o) x) →
    (k : ℕ) (d : Incarnation Place) → k < i + 1 → IsReady s' (held_by (λ (o : Place). o) (get_or is k d))
ready_more s s' is i x h e same room before here k d l = ⊎_elim
    (λ at. subst (λ (y : Incarnation Place). IsReady s' (held_by (λ (o : Place). o) y)) (e ∙ get_or_default is i x d h ∙ ap (λ (j : ℕ). get_or is j d) (sym at)) here)
    (λ other. still_ready s s' (held_by (λ (o : Place). o) (get_or is k d)) same room (before k d (omega arith)))
    (cases_eq k i)

-- one list further
pub held_more : (is : List (Incarnation Place)) (i : ℕ) (x : Incarnation Place) → i < length is → x ≡ get_or is i x → lists_of (λ (o : Place). o) (drop i is) ≡ held_by (λ (o : Place). o) x ∷ lists_of (λ (o : Place). o) (drop (i + 1) is)
held_more is i x h e = at_drop_more (λ (l : List (Incarnation Place)). lists_of (λ (o : Place). o) l) is i x h ∙ ap (λ (y : Incarnation Place). held_by (λ (o : Place). o) y ∷ lists_of (λ (o : Place). o) (drop (i + 1) is)) (sym e)

-- each hole of a write lies in it
pub record LiesIn (w : PendingWrite) (h : Extent) : Type 0 where
  pub low : w.offset ≤ h.start
  pub some : h.start < h.end
  pub high : h.end ≤ w.offset + length w.bytes

hole_at : (from : ℕ) (hs : List Extent) (end j : ℕ) (d : Extent) → AreApart from (ranges hs) end → j < length hs → (from ≤ (get_or hs j d).start) × ((get_or hs j d).start < (get_or hs j d).end) × ((get_or hs j d).end ≤ end)
hole_at from [] end j d a l = absurd (omega arith)
hole_at from (h ∷ hs) end zero d a l = (a.0, a.1, a.2)
hole_at from (h ∷ hs) end (suc j) d a l = let r = hole_at (suc h.end) hs end j d a.3 (omega arith) in (omega (arith, r.0, a.0, a.1), r.1, r.2)

pub hole_in : (w : PendingWrite) (hs : List Extent) (j : ℕ) (d : Extent) → hs ≡ w.holes.items → j < length hs → LiesIn w (get_or hs j d)
hole_in w hs j d same l =
    let r = hole_at w.offset hs (w.offset + length w.bytes) j d (subst (λ (l : List Extent). AreApart w.offset (ranges l) (w.offset + length w.bytes)) (sym same) w.apart) l in
    record { low = r.0; some = r.1; high = r.2 }

-- a prefix of a row, and false after it
pub padded : (row xs ys : List Bool) (count len : ℕ) → count ≡ min (length row) len → xs ≡ take count row → ys ≡ take len xs ++ replicate (len - length xs) false → (i : ℕ) → i < len → get_or ys i false ≡ get_or row i false
padded row xs ys count len are front all i h =
    let short : length xs ≡ count = omega (arith, ap (λ (x : List Bool). length x) front, length-take count row, are) in
    let same : ys ≡ xs ++ replicate (len - length xs) false = all ∙ ap (λ (x : List Bool). x ++ replicate (len - length xs) false) (take_all len xs (omega (arith, short, are))) in
    ap (λ (x : List Bool). get_or x i false) same ∙ ⊎_elim
    (λ near. get_or_append_left xs (replicate (len - length xs) false) false i (omega (arith, near, short)) ∙ ap (λ (x : List Bool). get_or x i false) front ∙ get_or-take count row i false near)
    (λ past. get_or-append_right xs (replicate (len - length xs) false) count i false short past ∙ get_or-replicate (len - length xs) (i - count) false false (omega (arith, short, past, h)) ∙ sym (get_or_past row i false (omega (arith, past, are, h))))
    (cases_lt i count)
