use Rattle.std.proofs.Common.{◌≡◌, ◌<◌, ◌≤◌, ◌+◌, ◌-◌, ℕ, vec_len, vec_capacity, get_or}
use Rattle.blob_model.specs.Holes.{Holes}
use Rattle.blob_pending.specs.Rooms.{AreWithin, HasRoomFor}
use Rattle.blob_pending.specs.Views.{views}
use Rattle.blob_pending.specs.declared.entry.Entry.{Entry}
use Rattle.blob_pending.proofs.entries.reserve_ranges.Given as goal

abbrev pub invariant-loop-i : goal.invariant-loop-i
invariant-loop-i l = record {
  inside : l.i ≤ l.len;
  len : vec_len l.entries ≡ l.len;
  capacity : l.len + l.count ≤ vec_capacity l.entries;
  views : views l.entries.items ≡ views l.fn.entries.items;
  room : (k : ℕ) (d : Entry) → k < l.i → (ranges : Holes) → AreWithin l.start l.end l.count ranges → HasRoomFor ranges (get_or l.entries.items k d);
  later : (k : ℕ) (d : Entry) → l.i ≤ k → get_or l.entries.items k d ≡ get_or l.fn.entries.items k d;
}

abbrev pub decreases-loop-i : goal.decreases-loop-i
decreases-loop-i l = l.len - l.i
