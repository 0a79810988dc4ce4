use Rattle.std.proofs.Common.{◌≡◌, ◌<◌, ◌≤◌, ◌+◌, ◌-◌, ◌∷◌, ℕ, length, vec_len, vec_capacity, get_or}
use Rattle.blob_pending.specs.Views.{view, pared_by, left_in}
use Rattle.blob_pending.specs.Rooms.{HasRoomFor}
use Rattle.blob_model.specs.Holes.{Holes}
use Rattle.blob_pending.specs.declared.entry.Entry.{Entry}
use Rattle.blob_pending.proofs.entries.cover_all.Given as goal

abbrev pub invariant-loop-i : goal.invariant-loop-i
invariant-loop-i l = record {
  inside : l.i ≤ l.count;
  few : l.covered ≤ l.i;
  len : vec_len l.entries ≡ vec_len l.fn.entries;
  capacity : vec_capacity l.entries ≡ vec_capacity l.fn.entries;
  left : length (left_in l.fn.entries.items) ≤ length (left_in l.entries.items) + l.covered;
  done : (k : ℕ) (d : Entry) → k < l.i → view (get_or l.entries.items k d) ≡ pared_by l.start l.len (view (get_or l.fn.entries.items k d));
  room : (k : ℕ) (d : Entry) → k < l.i → (later : Holes) → HasRoomFor ((l.start, l.start + l.len) ∷ later) (get_or l.fn.entries.items k d) → HasRoomFor later (get_or l.entries.items k d);
  later : (k : ℕ) (d : Entry) → l.i ≤ k → get_or l.entries.items k d ≡ get_or l.fn.entries.items k d;
}

abbrev pub decreases-loop-i : goal.decreases-loop-i
decreases-loop-i l = l.count - l.i
