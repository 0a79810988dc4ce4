use Rattle.std.proofs.Common.{◌≡◌, ◌++◌, map, take, drop}
use Rattle.blob_directory.specs.Syncs.{unbound}
use Rattle.blob_directory.proofs.unsettled.note_bound.Given as goal

abbrev pub invariant-loop-edit : goal.invariant-loop-edit
invariant-loop-edit l = l.edits ≡ map (unbound l.directory) (take l.edit-index l.fn.edits) ++ drop l.edit-index l.fn.edits
