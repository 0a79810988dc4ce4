use Rattle.std.proofs.Common.{◌≡◌, false, take}
use Rattle.blob_directory.specs.Syncs.{is_new}
use Rattle.blob_directory.proofs.wanted.is_new.Given as goal

abbrev pub invariant-loop-edit : goal.invariant-loop-edit
invariant-loop-edit l = is_new (take l.edit-index l.edits) l.directory ≡ false
