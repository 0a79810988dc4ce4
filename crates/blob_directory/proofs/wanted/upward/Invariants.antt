use Rattle.std.proofs.Common.{◌≡◌, ◌<◌, ℕ, get_or, true}
use Rattle.std.specs.List.{Contains}
use Rattle.blob_directory.specs.Syncs.{IsAbove, Upward, is_new}
use Rattle.blob_directory.proofs.wanted.upward.Given as goal

abbrev pub invariant-loop-at : goal.invariant-loop-at
invariant-loop-at l = record {
  only : (i : ℕ) → Contains l.found.items i → Upward l.edits l.fn.inode i;
  first : Contains l.found.items l.fn.inode;
  closed : (k d : ℕ) → k < l.at → IsAbove l.edits (get_or l.found.items k 0) d → is_new l.edits d ≡ true → Contains l.found.items d;
}
