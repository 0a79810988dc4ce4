use Rattle.std.proofs.Common.{◌≡◌, take}
use Rattle.std.specs.List.{fold}
use Rattle.blob_fs.specs.Truncations.{size_after}
use Rattle.blob_fs.proofs.truncations.cut_start.Given as goal

abbrev pub invariant-loop-truncation : goal.invariant-loop-truncation
invariant-loop-truncation l = l.start ≡ fold (size_after l.loss.lost.items) l.synced (take l.truncation-index l.truncations)
