-- Parts of a list of entries with bounds: a part more, an entry more, entries that are passed over.
use Rattle.std.proofs.Common.{◌≡◌, ℕ, suc, ◌+◌, ◌-◌, ◌*◌, ◌/◌, ◌<◌, ◌≤◌, min, max, ⊎_elim, Bool, true, false, eqb, ◌||◌, ◌&&◌, List, [], ◌∷◌, ◌++◌, length, get_or, set, take, drop, map, refl, sym, subst, ◌∙◌, ap, ap₂, arith}
use Rattle.std.proofs.lemmas.Bool.{and_parts, ne_eqb, cases_Bool, cases_lt, cond-false, cond_both, leb-true, le-ltb}
use Rattle.std.proofs.lemmas.List.{get_or-map, get_or_append_left, get_or-drop, get_or-take, length-append, length-map, length-take, length-drop}
use Rattle.std.proofs.Math.Seq.{get_or-append_seam}
use Rattle.std.proofs.Math.Nat.{div-mul-le_self, lt-div-mul-add, mul-le-mul_right, suc-mul}
use Rattle.std.specs.Prelude.{nat_le, nat_lt}
use Rattle.std.specs.List.{All}
use Rattle.blob_model.specs.Holes.{Holes, need_in}
use Rattle.blob_model.proofs.Holes.{need_dug}
use Rattle.blob_model.specs.Log.{Need, has_bare}
use Rattle.blob_model.specs.Pending.{Pending, Waiting, Cut, Again, Marker, is_barrier, has_barrier, cut_by, pared_one}
use Rattle.blob_pending.specs.Blocks.{AreBoundedBy, AreBounded, LiesApart, IsPassed, is_within, is_apart}
use Rattle.blob_pending.specs.Ranges.{ranges}
use Rattle.blob_pending.specs.Rooms.{AreWithin, meets, HasRoomFor}
use Rattle.blob_pending.specs.Views.{view, views, write_of, pared_by}
use Rattle.blob_pending.specs.declared.extent.Extent.{Extent}
use Rattle.blob_pending.specs.declared.bounds.BlockBounds.{BlockBounds}
use Rattle.blob_pending.specs.declared.write.PendingWrite.{PendingWrite}
use Rattle.blob_pending.specs.declared.entry.Entry.{Entry}
use Rattle.blob_pending.specs.declared.entry.Entry.TheVariants as entry
use Rattle.blob_pending.proofs.CutSteps.{below_set, later_set}
use Rattle.blob_pending.proofs.HoleRoom.{met_few, count-cons}

-- an entry more
push_by : (size : ℕ) (bs : List Extent) (q : List Pending) (e : Pending) → AreBoundedBy size bs q → AreBoundedBy size bs (q ++ e ∷ [])
push_by size bs q e h k b d l =
    let old = h k b d l in
    (omega (arith, old.0, length-append q (e ∷ [])), ap (λ (p : Pending). is_within (get_or bs (k / size) b) p) (get_or_append_left q (e ∷ []) d k old.0) ∙ old.1)

pub bounded_push : (bs : BlockBounds) (q : List Pending) (e : Pending) → AreBounded bs q → AreBounded bs (q ++ e ∷ [])
bounded_push bs q e h = (push_by 64 bs.blocks.items q e h.0, push_by 4096 bs.groups.items q e h.1)

or_false : (a : Bool) → (a || false) ≡ a
or_false true = refl
or_false false = refl

or_more : (a b c : Bool) → (a || (b || c)) ≡ ((a || b) || c)
or_more true b c = refl
or_more false b c = refl

barrier_push : (q : List Pending) (e : Pending) → has_barrier (q ++ e ∷ []) ≡ (has_barrier q || is_barrier e)
barrier_push [] e = or_false (is_barrier e)
barrier_push (x ∷ q) e = ap (λ (b : Bool). is_barrier x || b) (barrier_push q e) ∙ or_more (is_barrier x) (has_barrier q) (is_barrier e)

-- a durable range takes no barrier
pub barrier_cut : (o n : ℕ) (q : List Pending) → has_barrier (cut_by o n q) ≡ has_barrier q
barrier_cut o n [] = refl
barrier_cut o n (Waiting m ∷ q) = cond_both (has_bare (pared_one o n m)) (Waiting (pared_one o n m) ∷ cut_by o n q) (cut_by o n q) (λ r. has_barrier r ≡ has_barrier q) (λ _. barrier_cut o n q) (λ _. barrier_cut o n q)
barrier_cut o n (Cut m ∷ q) = refl
barrier_cut o n (Again p b ∷ q) = refl
barrier_cut o n (Marker k ∷ q) = barrier_cut o n q

-- so many parts lie within a list that has more
pub parts_fit : (parts size len : ℕ) → parts < len / size → parts * size + size ≤ len
parts_fit parts size len more =
    let low : len / size * size ≤ len = div-mul-le_self len size in
    let less : suc parts * size ≤ len / size * size = mul-le-mul_right size more in
    omega (arith, low, less, suc-mul parts size)

-- what lies in a part that begins at `start`
in_part : (part k start size : ℕ) → part ≤ k → k < part + size → part ≡ start → (start ≤ k) × (k < start + size)
in_part part k start size low high same = (omega (arith, low, same), omega (arith, high, same))

-- a part more
pub bounded_more : (size : ℕ) (bs : List Extent) (b : Extent) (q : List Entry) (start : ℕ) → 0 < size → start ≡ length bs * size → start + size ≤ length q
    → All (λ (e : Entry). is_within b (view e) ≡ true) (take size (drop start q)) → AreBoundedBy size bs (views q) → AreBoundedBy size (bs ++ b ∷ []) (views q)
bounded_more size bs b q start some at fits part old k c e l = ⊎_elim
    (λ here. let o = old k c e here in (o.0, ap (λ (x : Extent). is_within x (get_or (views q) k e)) (get_or_append_left bs (b ∷ []) c (k / size) here) ∙ o.1))
    (λ there.
    let d : Entry = entry.Resize 0 in
    let last : k / size ≡ length bs = only_last (k / size) (length bs) there (subst (λ (n : ℕ). k / size < n) (length-append bs (b ∷ [])) l) in
    let within = in_part (k / size * size) k start size (div-mul-le_self k size) (lt-div-mul-add some) (ap (λ (n : ℕ). n * size) last ∙ sym at) in
    let inside : k < length q = omega (arith, within.1, fits) in
    let off : start + (k - start) ≡ k = omega (arith, within.0) in
    let near : k - start < size = omega (arith, within.0, within.1) in (
      omega (arith, inside, length-map q view),
      ap (λ (x : Extent). is_within x (get_or (views q) k e)) (ap (λ (j : ℕ). get_or (bs ++ b ∷ []) j c) last ∙ get_or-append_seam bs b [] c)
          ∙ ap (λ (p : Pending). is_within b p) (get_or-map view q k d e inside)
          ∙ ap (λ (x : Entry). is_within b (view x)) (sym (get_or-take size (drop start q) (k - start) d near ∙ get_or-drop start q (k - start) d ∙ ap (λ (j : ℕ). get_or q j d) off))
          ∙ part (k - start) d (omega (arith, near, fits, length-take size (drop start q), length-drop start q)),
    ))
    (cases_lt (k / size) (length bs))
  where
    only_last : (part count : ℕ) → count ≤ part → part < count + 1 → part ≡ count
    only_last part count low high = omega (arith, low, high)

-- what lies within bounds that are apart from a range doesn't meet it
apart_le : (b : Extent) (o e start end : ℕ) → nat_le b.start o ≡ true → nat_le e b.end ≡ true → is_apart start end b ≡ true → min end e ≤ max start o
apart_le b o e start end low high apart =
    let l : b.start ≤ o = leb-true b.start o low in
    let h : e ≤ b.end = leb-true e b.end high in
    ⊎_elim
    (λ y. let x : b.end ≤ start = leb-true b.end start y in omega (arith, l, h, x))
    (λ n. let x : end ≤ b.start = leb-true end b.start (ap (λ (c : Bool). c || nat_le end b.start) (sym n) ∙ apart) in omega (arith, l, h, x))
    (cases_Bool (nat_le b.end start))

lies_within : (b : Extent) (w : PendingWrite) → is_within b (view (entry.Write w)) ≡ true → (nat_le b.start w.offset ≡ true) × (nat_le (w.offset + length w.bytes) b.end ≡ true)
lies_within b w within =
    let some : eqb (length w.bytes) 0 ≡ false = ne_eqb _ _ (λ none. omega (arith, none, w.some)) in
    and_parts (nat_le b.start w.offset) _ (sym (ap (λ (c : Bool). c || (nat_le b.start w.offset && nat_le (w.offset + length w.bytes) b.end)) some) ∙ within)

pub room_apart : (b : Extent) (e : Entry) (start end count : ℕ) (hs : Holes) → is_within b (view e) ≡ true → is_apart start end b ≡ true → AreWithin start end count hs → HasRoomFor hs e
room_apart b (entry.Write w) start end count hs within apart few =
    let a = lies_within b w within in
    let met = met_few w.offset (w.offset + length w.bytes) start end count hs (omega (arith, w.some)) few in
    omega (arith, met, apart_le b w.offset (w.offset + length w.bytes) start end a.0 a.1 apart, w.holes.ok)
room_apart b (entry.Resize n) start end count hs within apart few = tt
room_apart b (entry.Range r) start end count hs within apart few = tt
room_apart b (entry.Marker k) start end count hs within apart few = tt
room_apart b entry.Dropped start end count hs within apart few = tt

pub pared_apart : (b : Extent) (e : Entry) (o n : ℕ) → is_within b (view e) ≡ true → is_apart o (o + n) b ≡ true → pared_by o n (view e) ≡ view e
pared_apart b (entry.Write w) o n within apart =
    let a = lies_within b w within in
    let le : min (o + n) (w.offset + length w.bytes) ≤ max o w.offset = apart_le b w.offset (w.offset + length w.bytes) o (o + n) a.0 a.1 apart in
    ap Waiting (sym (need_dug o n (write_of w) (ranges w.holes.items)) ∙ ap (λ (hs : Holes). need_in (write_of w) hs) (cond-false (nat_lt (max o w.offset) (min (o + n) (w.offset + length w.bytes))) _ _ (le-ltb _ _ le)))
pared_apart b (entry.Resize m) o n within apart = refl
pared_apart b (entry.Range r) o n within apart = refl
pared_apart b (entry.Marker k) o n within apart = refl
pared_apart b entry.Dropped o n within apart = refl

within_pared : (b : Extent) (p : Pending) (o n : ℕ) → is_within b p ≡ true → is_within b (pared_by o n p) ≡ true
within_pared b (Waiting m) o n h = h
within_pared b (Cut m) o n h = refl
within_pared b (Again p x) o n h = refl
within_pared b (Marker k) o n h = refl

-- an entry that is passed over
none : Extent
none = record { start = 0; end = 0 }

-- some bounds around it lie elsewhere
record IsElsewhere (e : Entry) (start end : ℕ) : Type 0 where
  bounds : Extent
  within : is_within bounds (view e) ≡ true
  apart : is_apart start end bounds ≡ true

passed_by : (size : ℕ) (bs : List Extent) (q : List Entry) (k start end : ℕ) (d : Entry) → AreBoundedBy size bs (views q) → LiesApart bs (k / size) start end → IsElsewhere (get_or q k d) start end
passed_by size bs q k start end d bounded apart =
    let a = apart none in
    let w = bounded k none (view d) a.0 in
    let inside : k < length q = omega (arith, w.0, length-map q view) in
    record {
      bounds = get_or bs (k / size) none;
      within = ap (λ (x : Pending). is_within (get_or bs (k / size) none) x) (sym (get_or-map view q k d (view d) inside)) ∙ w.1;
      apart = a.1;
    }

passed_at : (bs : BlockBounds) (q : List Entry) (k start end : ℕ) (d : Entry) → AreBounded bs (views q) → IsPassed bs k start end → IsElsewhere (get_or q k d) start end
passed_at bs q k start end d bounded passed = ⊎_elim
    (λ group. passed_by 4096 bs.groups.items q k start end d bounded.1 group)
    (λ block. passed_by 64 bs.blocks.items q k start end d bounded.0 block)
    passed

pub passed_room : (bs : BlockBounds) (q : List Entry) (k start end count : ℕ) (d : Entry) (hs : Holes) → AreBounded bs (views q) → IsPassed bs k start end → AreWithin start end count hs → HasRoomFor hs (get_or q k d)
passed_room bs q k start end count d hs bounded passed few =
    let e = passed_at bs q k start end d bounded passed in
    room_apart e.bounds (get_or q k d) start end count hs e.within e.apart few

pub passed_pared : (bs : BlockBounds) (q : List Entry) (k o n : ℕ) (d : Entry) → AreBounded bs (views q) → IsPassed bs k o (o + n) → view (get_or q k d) ≡ pared_by o n (view (get_or q k d))
passed_pared bs q k o n d bounded passed =
    let e = passed_at bs q k o (o + n) d bounded passed in
    sym (pared_apart e.bounds (get_or q k d) o n e.within e.apart)

-- all entries
pub views_each : (f : Pending → Pending) (q r : List Entry) → length q ≡ length r → ((k : ℕ) (d : Entry) → k < length r → view (get_or q k d) ≡ f (view (get_or r k d))) → views q ≡ map f (views r)
views_each f [] [] l h = refl
views_each f [] (y ∷ r) l h = absurd (omega (arith, l))
views_each f (x ∷ q) [] l h = absurd (omega (arith, l))
views_each f (x ∷ q) (y ∷ r) l h = ap₂ (λ (p : Pending) (ps : List Pending). p ∷ ps) (h 0 x (omega arith)) (views_each f q r (omega (arith, l)) (λ k d m. h (suc k) d (omega (arith, m))))

pared_in : (size : ℕ) (bs : List Extent) (q r : List Pending) (o n : ℕ) → AreBoundedBy size bs q → r ≡ map (pared_by o n) q → AreBoundedBy size bs r
pared_in size bs q r o n old is k b e l =
    let w = old k b e l in
    let len : length r ≡ length q = ap length is ∙ length-map q (pared_by o n) in
    let at : get_or r k e ≡ pared_by o n (get_or q k e) = ap (λ (x : List Pending). get_or x k e) is ∙ get_or-map (pared_by o n) q k e e w.0 in
    (omega (arith, w.0, len), ap (λ (p : Pending). is_within (get_or bs (k / size) b) p) at ∙ within_pared (get_or bs (k / size) b) (get_or q k e) o n w.1)

pub bounded_pared : (bs : BlockBounds) (q r : List Pending) (o n : ℕ) → AreBounded bs q → r ≡ map (pared_by o n) q → AreBounded bs r
bounded_pared bs q r o n old is = (pared_in 64 bs.blocks.items q r o n old.0 is, pared_in 4096 bs.groups.items q r o n old.1 is)

-- a loop that writes the entry at i and then passes over those up to j
pub jump : (P : ℕ → Entry → Entry → Type 0) (q q0 : List Entry) (i j : ℕ) (e : Entry) → i < length q → ((k : ℕ) (d : Entry) → k < i → P k d (get_or q k d)) → ((d : Entry) → P i d e) →
    ((k : ℕ) (d : Entry) → i ≤ k → get_or q k d ≡ get_or q0 k d) → ((k : ℕ) (d : Entry) → i + 1 ≤ k → k < j → P k d (get_or q0 k d)) → (k : ℕ) (d : Entry) → k < j → P k d (get_or (set q i e) k d)
jump P q q0 i j e h below one later far k d l = ⊎_elim
    (λ near. below_set P q i e h below one k d near)
    (λ past. subst (P k d) (sym (later_set q q0 i e later k d past)) (far k d past l))
    (cases_lt k (i + 1))

-- room for the ranges behind the first
pub rest_room : (e : Entry) (h : ℕ × ℕ) (hs : Holes) → HasRoomFor (h ∷ hs) e → HasRoomFor hs e
rest_room (entry.Write w) h hs room = omega (arith, room, count-cons (meets w.offset (w.offset + length w.bytes)) h hs)
rest_room (entry.Resize n) h hs room = tt
rest_room (entry.Range r) h hs room = tt
rest_room (entry.Marker k) h hs room = tt
rest_room entry.Dropped h hs room = tt

pub barrier_write : (q : List Pending) (m : Need) → has_barrier (q ++ Waiting m ∷ []) ≡ has_barrier q
barrier_write q m = barrier_push q (Waiting m) ∙ or_false (has_barrier q)

pub barrier_mark : (q : List Pending) (k : ℕ) → has_barrier (q ++ Marker k ∷ []) ≡ has_barrier q
barrier_mark q k = barrier_push q (Marker k) ∙ or_false (has_barrier q)

-- no part has bounds
pub none_by : (size : ℕ) (bs : List Extent) (q : List Pending) → bs ≡ [] → AreBoundedBy size bs q
none_by size bs q e k b p l = absurd (omega (arith, l, ap (λ (x : List Extent). length x) e))

or_true : (a : Bool) → (a || true) ≡ true
or_true true = refl
or_true false = refl

pub barrier_resize : (q : List Pending) (n : ℕ) → has_barrier (q ++ Cut n ∷ []) ≡ true
barrier_resize q n = barrier_push q (Cut n) ∙ or_true (has_barrier q)

pub barrier_again : (q : List Pending) (o : ℕ) (b : List ℕ) → has_barrier (q ++ Again o b ∷ []) ≡ true
barrier_again q o b = barrier_push q (Again o b) ∙ or_true (has_barrier q)
