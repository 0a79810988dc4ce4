use Rattle.std.proofs.Common.{◌≡◌, ◌<◌, ◌||◌, ℕ, drop, false, length}
use Rattle.std.specs.Prelude.{slice_index_or}
use Rattle.blob_draws.specs.Rows.{rows_of}
use Rattle.blob_fs.specs.Truncations.{keeps_later, marks_from, puts_back}
use Rattle.blob_fs.proofs.truncations.mark_later.Given as goal

abbrev pub invariant-loop-i : goal.invariant-loop-i
invariant-loop-i l = record {
  size : length l.marks ≡ length l.initial.marks;
  each : (at : ℕ) → at < length l.initial.marks
      → (slice_index_or l.marks at false || marks_from l.truncation.length (keeps_later l.truncation.next_write l.inode (drop l.i (rows_of l.kept.rows)) (drop l.i l.kept.places.items)) at)
      ≡ (slice_index_or l.initial.marks at false || puts_back l.kept l.inode l.truncation at);
}
