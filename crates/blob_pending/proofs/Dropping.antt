-- Entries that a finished sync drops where they are.
use Rattle.std.proofs.Common.{◌≡◌, ⊎_elim, ℕ, zero, suc, ◌+◌, ◌-◌, ◌/◌, ◌<◌, ◌≤◌, Bool, false, true≢false, cond, not, ◌||◌, ltb, List, [], ◌∷◌, ◌++◌, length, get_or, set, drop, map, refl, sym, ◌∙◌, ap, subst, arith}
use Rattle.std.specs.List.{filter}
use Rattle.std.proofs.lemmas.Bool.{cond_both, cond-true, cond-false, cases_eq, cases_Bool, lt-ltb}
use Rattle.std.proofs.lemmas.List.{get_or-map, get_or_append_left, get_or-set_same, get_or-set_other, length-append, length-map, length-set, map-set}
use Rattle.std.proofs.lemmas.List.Sums.{sum_by-set, sum_by-append}
use Rattle.blob_model.specs.Bytes.{lies}
use Rattle.blob_model.specs.Log.{has_bare}
use Rattle.blob_model.specs.Pending.{Pending, Waiting, Cut, Again, Marker, is_barrier, has_barrier, is_mark, finish}
use Rattle.blob_model.proofs.Needs.{fewer_at}
use Rattle.blob_pending.specs.Blocks.{AreBoundedBy, AreBounded, is_within}
use Rattle.blob_pending.specs.Marks.{barriers_in}
use Rattle.blob_pending.specs.Views.{view, views, nothing, pared_by, is_left, left_in, AreDropped, CountsCovered}
use Rattle.blob_pending.specs.declared.extent.Extent.{Extent}
use Rattle.blob_pending.specs.declared.bounds.BlockBounds.{BlockBounds}
use Rattle.blob_pending.specs.declared.entry.Entry.{Entry}
use Rattle.blob_pending.specs.declared.entry.Entry.TheVariants as entry
use Rattle.blob_pending.proofs.HoleRoom.{count-cons}
use Rattle.blob_pending.proofs.Left.{finished_left, left_size, bit_le}

-- an entry more, and a durable range
pub dropped_push : (n : ℕ) (q : List Pending) (e : Pending) → AreDropped n q → AreDropped n (q ++ e ∷ [])
dropped_push n q e h k p l = let old = h k p l in (omega (arith, old.0, length-append q (e ∷ [])), ap is_left (get_or_append_left q (e ∷ []) p k old.0) ∙ old.1)

pared_none : (o n : ℕ) (p : Pending) → is_left p ≡ false → is_left (pared_by o n p) ≡ false
pared_none o n (Waiting m) none = fewer_at m.write.offset (length m.write.bytes) m.bare (λ p. not (lies o n p)) none
pared_none o n (Cut m) none = none
pared_none o n (Again p b) none = none
pared_none o n (Marker k) none = none

pub dropped_pared : (count : ℕ) (q r : List Pending) (o n : ℕ) → AreDropped count q → r ≡ map (pared_by o n) q → AreDropped count r
dropped_pared count q r o n h is k p l =
    let old = h k p l in
    (omega (arith, old.0, ap length is, length-map q (pared_by o n)), ap (λ (x : List Pending). is_left (get_or x k p)) is ∙ ap is_left (get_or-map (pared_by o n) q k p p old.0) ∙ pared_none o n (get_or q k p) old.1)

-- such an entry is no marker
pub no_mark : (m : ℕ) (p : Pending) → is_left p ≡ false → is_mark m p ≡ false
no_mark m (Waiting n) none = refl
no_mark m (Cut n) none = refl
no_mark m (Again o b) none = refl
no_mark m (Marker k) none = absurd (true≢false none)

pub no_mark_at : (m n : ℕ) (q : List Entry) → AreDropped n (views q) → (k : ℕ) (e : Entry) → k < n → is_mark m (view (get_or q k e)) ≡ false
no_mark_at m n q h k e l =
    let old = h k (view e) l in
    no_mark m _ (ap is_left (sym (get_or-map view q k e (view e) (omega (arith, old.0, length-map q view)))) ∙ old.1)

pub dropped_within : (n : ℕ) (q : List Entry) → AreDropped n (views q) → n ≤ length q
dropped_within zero q h = omega arith
dropped_within (suc n) q h = let last = h n nothing (omega arith) in omega (arith, last.0, length-map q view)

-- what is left of a list lies after them
skip : (n : ℕ) (q : List Entry) → AreDropped n (views q) → left_in q ≡ left_in (drop n q)
skip zero q h = refl
skip (suc n) [] h = refl
skip (suc n) (x ∷ q) h = cond-false (is_left (view x)) _ _ (h 0 nothing (omega arith)).1 ∙ skip n q (λ k p l. let o = h (suc k) p (omega arith) in (omega (arith, o.0), o.1))

pub left_finished : (m end : ℕ) (q r : List Entry) → AreDropped end (views r) → drop end r ≡ drop end q → views (drop end q) ≡ finish m (views q) → left_in r ≡ finish m (left_in q)
left_finished m end q r dropped rest is =
    skip end r dropped ∙ ap (λ (x : List Entry). left_in x) rest ∙ ap (filter is_left) is ∙ sym (finished_left m (views q))

-- how many those are
left_drop : (n : ℕ) (q : List Entry) → length (left_in q) ≤ n + length (left_in (drop n q))
left_drop zero q = omega arith
left_drop (suc n) [] = omega arith
left_drop (suc n) (x ∷ q) = omega (arith, left_drop n q, left_size (view x) (left_in q), bit_le (is_left (view x)))

left_between : (from n end : ℕ) (q : List Entry) → end ≡ from + n → length (left_in (drop from q)) ≤ n + length (left_in (drop end q))
left_between zero n end q is = let same : n ≡ end = omega (arith, is) in subst (λ (k : ℕ). length (left_in q) ≤ n + length (left_in (drop k q))) same (left_drop n q)
left_between (suc from) n zero q is = absurd (omega (arith, is))
left_between (suc from) n (suc end) [] is = omega arith
left_between (suc from) n (suc end) (x ∷ q) is = left_between from n end q (omega (arith, is))

pub counts_dropped : (c from end : ℕ) (q r : List Entry) → AreDropped from (views q) → AreDropped end (views r) → drop end r ≡ drop end q → from ≤ end → length r ≡ length q → CountsCovered c (views q) → CountsCovered (c + (end - from)) (views r)
counts_dropped c from end q r before after rest order len counted =
    omega (arith, counted, order, len, length-map q view, length-map r view, ap length (skip from q before), ap length (skip end r after), ap (λ (x : List Entry). length (left_in x)) rest, left_between from (end - from) end q (omega (arith, order)))

-- one of them is dropped
pub dropped_set : (i : ℕ) (q : List Entry) → i < length q → AreDropped i (views q) → AreDropped (i + 1) (views (set q i entry.Dropped))
dropped_set i q inside h k p l =
    let len : length (views (set q i entry.Dropped)) ≡ length q = length-map (set q i entry.Dropped) view ∙ length-set q i entry.Dropped in
    let told : get_or (views (set q i entry.Dropped)) k p ≡ get_or (set (views q) i nothing) k p = ap (λ (x : List Pending). get_or x k p) (map-set view q i entry.Dropped) in
    ⊎_elim
    (λ is. (omega (arith, len, inside, is), ap is_left (told ∙ ap (λ (j : ℕ). get_or (set (views q) i nothing) j p) is ∙ get_or-set_same (views q) i nothing p (omega (arith, inside, length-map q view)))))
    (λ ne. let old = h k p (omega (arith, l, ne)) in (omega (arith, len, old.0, length-map q view), ap is_left (told ∙ get_or-set_other (views q) i k nothing p ne) ∙ old.1))
    (cases_eq k i)

bounded_set : (size : ℕ) (bs : List Extent) (q : List Pending) (i : ℕ) → AreBoundedBy size bs q → AreBoundedBy size bs (set q i nothing)
bounded_set size bs q i h k b e l =
    let old = h k b e l in (
      omega (arith, old.0, length-set q i nothing),
      ⊎_elim
          (λ is. ap (λ (p : Pending). is_within (get_or bs (k / size) b) p) (ap (λ (j : ℕ). get_or (set q i nothing) j e) is ∙ get_or-set_same q i nothing e (omega (arith, old.0, is))))
          (λ ne. ap (λ (p : Pending). is_within (get_or bs (k / size) b) p) (get_or-set_other q i k nothing e ne) ∙ old.1)
          (cases_eq k i),
    )

pub bounded_dropped : (bs : BlockBounds) (q : List Entry) (i : ℕ) → AreBounded bs (views q) → AreBounded bs (views (set q i entry.Dropped))
bounded_dropped bs q i h =
    subst (λ (p : List Pending). AreBounded bs p) (sym (map-set view q i entry.Dropped)) (bounded_set 64 bs.blocks.items (views q) i h.0, bounded_set 4096 bs.groups.items (views q) i h.1)

pub barriers_dropped : (q : List Entry) (i : ℕ) (d : Entry) → i < length q → barriers_in (views (set q i entry.Dropped)) + cond (is_barrier (view (get_or q i d))) 1 0 ≡ barriers_in (views q)
barriers_dropped q i d inside =
    let bit : Pending → ℕ = λ p. cond (is_barrier p) 1 0 in
    let at : bit (get_or (views q) i (view d)) ≡ bit (view (get_or q i d)) = ap bit (get_or-map view q i d (view d) inside) in
    let told : barriers_in (views (set q i entry.Dropped)) ≡ barriers_in (set (views q) i nothing) = ap barriers_in (map-set view q i entry.Dropped) in
    omega (arith, at, told, sum_by-set bit (views q) i nothing (view d) (omega (arith, inside, length-map q view)))

-- the number of barriers
pub barriers_push : (q : List Pending) (e : Pending) → barriers_in (q ++ e ∷ []) ≡ barriers_in q + cond (is_barrier e) 1 0
barriers_push q e = let bit : Pending → ℕ = λ p. cond (is_barrier p) 1 0 in omega (arith, sum_by-append bit q (e ∷ []), count-cons is_barrier e [])

pub some_barrier : (q : List Pending) → ltb 0 (barriers_in q) ≡ has_barrier q
some_barrier [] = refl
some_barrier (e ∷ q) = ⊎_elim
    (λ y. lt-ltb _ _ (omega (arith, count-cons is_barrier e q, cond-true {A = ℕ} (is_barrier e) 1 0 y)) ∙ sym (ap (λ (b : Bool). b || has_barrier q) y))
    (λ n. let same : barriers_in (e ∷ q) ≡ barriers_in q = omega (arith, count-cons is_barrier e q, cond-false {A = ℕ} (is_barrier e) 1 0 n) in ap (ltb 0) same ∙ some_barrier q ∙ sym (ap (λ (b : Bool). b || has_barrier q) n))
    (cases_Bool (is_barrier e))

barriers_more : (e : Pending) (q r : List Pending) → barriers_in q ≡ barriers_in r → barriers_in (e ∷ q) ≡ barriers_in (e ∷ r)
barriers_more e q r same = omega (arith, count-cons is_barrier e q, count-cons is_barrier e r, same)

pub barriers_left : (q : List Pending) → barriers_in (filter is_left q) ≡ barriers_in q
barriers_left [] = refl
barriers_left (Waiting m ∷ q) = cond_both (has_bare m) (Waiting m ∷ filter is_left q) (filter is_left q) (λ r. barriers_in r ≡ barriers_in (Waiting m ∷ q)) (λ _. barriers_more (Waiting m) (filter is_left q) q (barriers_left q)) (λ _. barriers_left q)
barriers_left (Cut n ∷ q) = barriers_more (Cut n) (filter is_left q) q (barriers_left q)
barriers_left (Again o b ∷ q) = barriers_more (Again o b) (filter is_left q) q (barriers_left q)
barriers_left (Marker k ∷ q) = barriers_more (Marker k) (filter is_left q) q (barriers_left q)

barriers_cut : (o n : ℕ) (q : List Pending) → barriers_in (map (pared_by o n) q) ≡ barriers_in q
barriers_cut o n [] = refl
barriers_cut o n (Waiting m ∷ q) = barriers_cut o n q
barriers_cut o n (Cut m ∷ q) = barriers_more (Cut m) (map (pared_by o n) q) q (barriers_cut o n q)
barriers_cut o n (Again p b ∷ q) = barriers_more (Again p b) (map (pared_by o n) q) q (barriers_cut o n q)
barriers_cut o n (Marker k ∷ q) = barriers_more (Marker k) (map (pared_by o n) q) q (barriers_cut o n q)

pub barriers_same : (q r : List Pending) → filter is_left r ≡ filter is_left q → barriers_in r ≡ barriers_in q
barriers_same q r same = sym (barriers_left r) ∙ ap barriers_in same ∙ barriers_left q

-- a durable range, and those may go of which nothing is left
pub compacted_barriers : (old cut new : List Pending) (o n : ℕ) → cut ≡ map (pared_by o n) old → filter is_left new ≡ filter is_left cut → barriers_in new ≡ barriers_in old
compacted_barriers old cut new o n is same = barriers_same cut new same ∙ ap barriers_in is ∙ barriers_cut o n old
