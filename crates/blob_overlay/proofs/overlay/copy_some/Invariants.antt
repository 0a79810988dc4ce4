use Rattle.std.proofs.Common.{◌≡◌, ◌≤◌, ◌<◌, ◌-◌, true, length}
use Rattle.blob_model.specs.Bytes.{reach, overlay_by}
use Rattle.blob_model.specs.Runs.{is_chosen}
use Rattle.blob_overlay.proofs.Overlays.{first}
use Rattle.blob_overlay.proofs.overlay.copy_some.Given as goal

abbrev pub invariant-loop-i : goal.invariant-loop-i
invariant-loop-i l = record {
  within : l.i ≤ length l.keep;
  stops : l.i < length l.keep → is_chosen l.keep l.i ≡ true;
  room : reach l.offset (length l.run) (is_chosen l.keep) ≤ length l.initial.bytes;
  laid : l.bytes ≡ overlay_by l.initial.bytes l.offset l.run (first l.i (is_chosen l.keep));
}

abbrev pub decreases-loop-i : goal.decreases-loop-i
decreases-loop-i l = length l.keep - l.i
