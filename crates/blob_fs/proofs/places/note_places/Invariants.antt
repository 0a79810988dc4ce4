use Rattle.std.proofs.Common.{◌≡◌, ℕ, drop, false}
use Rattle.std.specs.BTreeMap.{get}
use Rattle.std.specs.Ordering.{nat_cmp}
use Rattle.blob_model.specs.Pending.{has_marker, waiting}
use Rattle.blob_pending.specs.Views.{left_in}
use Rattle.blob_fs.specs.PlaceMaps.{noted}
use Rattle.blob_fs.proofs.places.note_places.Given as goal

abbrev pub invariant-loop-entry : goal.invariant-loop-entry
invariant-loop-entry l = record {
  none : has_marker (left_in (drop l.entry-index l.entry-items)) ≡ false;
  so_far : (number : ℕ) → noted l.inode (waiting (left_in (drop l.entry-index l.entry-items))) number (get nat_cmp l.places number)
      ≡ noted l.inode (waiting (left_in l.entry-items)) number (get nat_cmp l.initial.places number);
}
