use Rattle.std.proofs.Common.{◌≡◌, ◌++◌, map, take, drop}
use Rattle.blob_directory.specs.Syncs.{marked}
use Rattle.blob_directory.specs.Wanted.{wants}
use Rattle.blob_directory.proofs.unsettled.want.Given as goal

abbrev pub invariant-loop-edit : goal.invariant-loop-edit
invariant-loop-edit l = l.edits ≡ map (marked (wants l.wanted)) (take l.edit-index l.fn.edits) ++ drop l.edit-index l.fn.edits
