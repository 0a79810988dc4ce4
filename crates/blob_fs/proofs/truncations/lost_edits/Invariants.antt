use Rattle.std.proofs.Common.{◌≡◌, ◌++◌, drop}
use Rattle.blob_fs.specs.Truncations.{lost_of}
use Rattle.blob_fs.proofs.truncations.lost_edits.Given as goal

abbrev pub invariant-loop-i : goal.invariant-loop-i
invariant-loop-i l = l.lost.items ++ lost_of (drop l.i l.numbers) (drop l.i l.kept) ≡ lost_of l.numbers l.kept
