use Rattle.std.proofs.Common.{take}
use Rattle.blob_directory.specs.Wanted.{IsLast}
use Rattle.blob_directory.proofs.wanted.last_of.Given as goal

abbrev pub invariant-loop-edit : goal.invariant-loop-edit
invariant-loop-edit l = IsLast (take l.edit-index l.edits) l.alone l.number l.last
