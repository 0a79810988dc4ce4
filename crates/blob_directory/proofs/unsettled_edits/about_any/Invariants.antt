use Rattle.std.proofs.Common.{◌≡◌, false, take}
use Rattle.blob_directory.specs.Indexes.{about_any}
use Rattle.blob_directory.proofs.unsettled_edits.about_any.Given as goal

abbrev pub invariant-loop-edit : goal.invariant-loop-edit
invariant-loop-edit l = about_any l.number (take l.edit-index l.edits) ≡ false
