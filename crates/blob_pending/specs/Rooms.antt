-- Capacity in a pending list for later durable ranges.
use Rattle.std.specs.Prelude.{ℕ, ◌+◌, ◌<◌, ◌≤◌, ◌^◌, List, [], ◌∷◌, Bool, ◌&&◌, All, count_by, length, nat_lt, vec_len, vec_capacity}
use Rattle.std.specs.declared.vec.Vec.{Vec}
use Rattle.std.specs.declared.alloc.Global.{Global}
use Rattle.blob_model.specs.Holes.{Holes, AreApart}
use Rattle.blob_pending.specs.declared.write.PendingWrite.{PendingWrite}
use Rattle.blob_pending.specs.declared.entry.Entry.{Entry}
use Rattle.blob_pending.specs.declared.entry.Entry.TheVariants as entry

-- at most `count` ranges, separate and sorted, between two bounds
pub record AreWithin (start end count : ℕ) (hs : Holes) : Type 0 where
  pub few : length hs ≤ count
  pub apart : AreApart start hs end

-- whether a range reaches into the positions from `start` up to `end`
abbrev pub meets : ℕ → ℕ → ℕ × ℕ → Bool
meets start end h = nat_lt start h.1 && nat_lt h.0 end

-- a write can take a hole for each of these ranges that meets it
abbrev pub HasHolesFor : Holes → PendingWrite → Type 0
HasHolesFor hs w = vec_len w.holes + count_by (meets w.offset (w.offset + length w.bytes)) hs ≤ vec_capacity w.holes

abbrev pub HasRoomFor : Holes → Entry → Type 0
HasRoomFor hs (entry.Write w) = HasHolesFor hs w
HasRoomFor hs (entry.Resize len) = Unit {0}
HasRoomFor hs (entry.Range r) = Unit {0}
HasRoomFor hs (entry.Marker k) = Unit {0}
HasRoomFor hs entry.Dropped = Unit {0}

-- each of these entries has capacity for the holes that the ranges make in it
abbrev pub EachHasRoom : List Entry → Holes → Type 0
EachHasRoom entries hs = All (HasRoomFor hs) entries

-- a list can take each of these ranges as an entry, and each of its writes the holes that they make in it
pub record HasRoomsFor (hs : Holes) (list : Vec Entry Global) : Type 0 where
  pub entries : vec_len list + length hs ≤ vec_capacity list
  pub holes : EachHasRoom list.items hs

-- a durable range of `len` bytes can be cut out of what has this capacity
pub record CanCut (start len : ℕ) (room : Holes → Type 0) : Type 0 where
  pub fits : start + len < 2 ^ 64
  pub room_for : room ((start, start + len) ∷ [])

-- what had capacity for that range and for others has capacity for those
abbrev pub KeepsRest : ℕ → ℕ → (Holes → Type 0) → (Holes → Type 0) → Type 0
KeepsRest start len before after = (later : Holes) → before ((start, start + len) ∷ later) → after later
