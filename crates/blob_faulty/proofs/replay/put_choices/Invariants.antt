use Rattle.std.proofs.Common.{◌≡◌, ◌<◌, ◌≤◌, ◌+◌, ℕ, drop, get_or, not, ◌&&◌, false, vec_len, vec_capacity}
use Rattle.blob_model.specs.Holes.{in_holes}
use Rattle.blob_pending.specs.Ranges.{ranges}
use Rattle.blob_faulty.proofs.replay.put_choices.Given as goal

abbrev pub invariant-loop-hole : goal.invariant-loop-hole
invariant-loop-hole l = record {
  len : vec_len l.chosen ≡ l.len;
  capacity : vec_capacity l.fn.chosen ≤ vec_capacity l.chosen;
  each : (k : ℕ) → k < l.len → (not (in_holes (ranges (drop l.hole-index l.write.holes.items)) (l.write.offset + k)) && get_or l.chosen.items k false) ≡ (not (in_holes (ranges l.write.holes.items) (l.write.offset + k)) && get_or l.row k false);
}
