use Rattle.std.proofs.Common.{take}
use Rattle.blob_directory.specs.Wanted.{HasAbove}
use Rattle.blob_directory.proofs.wanted.add_above.Given as goal

abbrev pub invariant-loop-edit : goal.invariant-loop-edit
invariant-loop-edit l = HasAbove l.edits (take l.edit-index l.edits) l.inode l.initial.numbers.items l.numbers.items
