use Rattle.std.proofs.Common.{◌≡◌, take}
use Rattle.std.specs.List.{fold}
use Rattle.blob_fs.specs.Truncations.{unless_lost}
use Rattle.blob_fs.proofs.truncations.truncate_all.Given as goal

abbrev pub invariant-loop-truncation : goal.invariant-loop-truncation
invariant-loop-truncation l =
    l.bytes.items ≡ fold (unless_lost l.kept l.loss.lost.items l.inode l.found) l.found (take l.truncation-index l.truncations)
