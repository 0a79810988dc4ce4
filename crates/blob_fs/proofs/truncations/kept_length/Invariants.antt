use Rattle.std.proofs.Common.{◌≡◌, ◌+◌, drop, length, min, ◌-◌}
use Rattle.blob_fs.specs.Bytes.{common_length, kept_length}
use Rattle.blob_fs.proofs.truncations.kept_length.Given as goal

abbrev pub invariant-loop-at : goal.invariant-loop-at
invariant-loop-at l = l.at + common_length (drop l.at l.found) (drop l.at l.live) ≡ kept_length (min l.synced (length l.found)) l.live l.found

abbrev pub decreases-loop-at : goal.decreases-loop-at
decreases-loop-at l = length l.found - l.at
