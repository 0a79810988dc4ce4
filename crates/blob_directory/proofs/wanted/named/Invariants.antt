use Rattle.std.proofs.Common.{◌≡◌, take}
use Rattle.blob_directory.specs.Syncs.{named}
use Rattle.blob_directory.proofs.wanted.named.Given as goal

abbrev pub invariant-loop-edit : goal.invariant-loop-edit
invariant-loop-edit l = l.to ≡ named (take l.edit-index l.edits) l.entry
