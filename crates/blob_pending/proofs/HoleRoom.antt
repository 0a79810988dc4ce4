-- Room for the holes of ranges that are still to be laid.
use Rattle.std.proofs.Common.{◌≡◌, ℕ, suc, ◌+◌, ◌-◌, ◌<◌, ◌≤◌, min, max, Bool, true, false, cond, ltb, ◌&&◌, List, [], ◌∷◌, length, get_or, refl, sym, subst, arith}
use Rattle.std.specs.declared.vec.Vec.{Vec}
use Rattle.std.specs.declared.alloc.Global.{Global}
use Rattle.std.specs.List.{count_by}
use Rattle.std.proofs.lemmas.Bool.{cond_both, ltb-true}
use Rattle.std.proofs.lemmas.List.Sums.{sum_by-cons, count_by-le-length}
use Rattle.blob_model.specs.Holes.{Holes, AreApart}
use Rattle.blob_model.specs.Places.{Place}
use Rattle.blob_pending.specs.declared.entry.Entry.{Entry}
use Rattle.blob_pending.specs.declared.entry.Entry.TheVariants as entry
use Rattle.blob_pending.specs.declared.incarnation.Incarnation.{Incarnation}
use Rattle.blob_pending.specs.Lists.{HasRangesAt, HasRoomAt}
use Rattle.blob_pending.specs.Rooms.{AreWithin, meets, HasRoomFor, HasRoomsFor}

both_true : (a b : Bool) → (a && b) ≡ true → (a ≡ true) × (b ≡ true)
both_true true b e = (refl, e)
both_true false b e = cc

pub count-cons : {X : Type 0} (p : X → Bool) (x : X) (xs : List X) → count_by p (x ∷ xs) ≡ cond (p x) 1 0 + count_by p xs
count-cons p x xs = sum_by-cons (λ y. cond (p y) 1 0) x xs

-- of ranges that are apart no more meet a write than they have positions in common with it
pub met_most : (a b from : ℕ) (hs : Holes) (end : ℕ) → a < b → AreApart from hs end → count_by (meets a b) hs ≤ min end b - max from a
met_most a b from [] end some apart = omega arith
met_most a b from (h ∷ hs) end some apart =
    let rest = met_most a b (suc h.1) hs end some apart.3 in
    rw count-cons
    (cond_both (meets a b h) 1 0 (λ n. n + count_by (meets a b) hs ≤ min end b - max from a)
    (λ yes. let t = both_true (ltb a h.1) (ltb h.0 b) yes in
    let low : a < h.1 = ltb-true a h.1 t.0 in
    let high : h.0 < b = ltb-true h.0 b t.1 in
    omega (arith, rest, apart.0, apart.1, apart.2))
    (λ no. omega (arith, rest, apart.0, apart.1, apart.2)))

pub met_few : (a b start end count : ℕ) (hs : Holes) → a < b → AreWithin start end count hs → count_by (meets a b) hs ≤ min (min end b - max start a) count
met_few a b start end count hs some within = omega (arith, within.few, met_most a b start hs end some within.apart, count_by-le-length (meets a b) hs)

-- room for the first of some ranges, and for those behind it
pub first_room : (e : Entry) (h : ℕ × ℕ) (hs : Holes) → HasRoomFor (h ∷ hs) e → HasRoomFor (h ∷ []) e
first_room (entry.Write w) h hs room =
    let p = meets w.offset (w.offset + length w.bytes) in
    omega (arith, room, count-cons p h hs, count-cons p h [])
first_room (entry.Resize n) h hs room = tt
first_room (entry.Range r) h hs room = tt
first_room (entry.Marker k) h hs room = tt
first_room entry.Dropped h hs room = tt

first_rooms : (list : Vec Entry Global) (h : ℕ × ℕ) (hs : Holes) → HasRoomsFor (h ∷ hs) list → HasRoomsFor (h ∷ []) list
first_rooms list h hs room = record {
  entries = omega (arith, room.entries);
  holes = λ k d l. first_room (get_or list.items k d) h hs (room.holes k d l);
}

pub first_range : {O : Type 0} (is : List (Incarnation O)) (i : ℕ) (h : ℕ × ℕ) (hs : Holes) → HasRangesAt is i (h ∷ hs) → HasRangesAt is i (h ∷ [])
first_range is i h hs room d = first_rooms (get_or is i d).entries h hs (room d)

-- the same room, with the length told otherwise
pub room_stays : {O : Type 0} (is js : List (Incarnation O)) (i o n len : ℕ) (later : Holes) → js ≡ is → n ≡ len → HasRangesAt is i ((o, o + len) ∷ later) → HasRangesAt js i ((o, o + n) ∷ later)
room_stays {O} is js i o n len later same told room =
    subst (λ (m : ℕ). HasRangesAt js i ((o, o + m) ∷ later)) (sym told) (subst (λ (l : List (Incarnation O)). HasRangesAt l i ((o, o + len) ∷ later)) (sym same) room)

-- one range
pub one_within : (start end : ℕ) → start < end → AreWithin start end 1 ((start, end) ∷ [])
one_within start end some = record { few = omega arith; apart = (omega arith, some, omega arith, tt) }

-- the same of a list that is of an incarnation
pub first_at : {O : Type 0} (place : O → Place) (is : List (Incarnation O)) (i : ℕ) (o : Place) (h : ℕ × ℕ) (hs : Holes) → HasRoomAt place is i o (h ∷ hs) → HasRoomAt place is i o (h ∷ [])
first_at place is i o h hs room = record { at = room.at; inside = room.inside; ranges = first_range is i h hs room.ranges }
