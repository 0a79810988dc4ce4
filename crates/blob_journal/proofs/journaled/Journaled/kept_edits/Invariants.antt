use Rattle.std.proofs.Common.{◌≡◌, take}
use Rattle.blob_journal.specs.Settling.{counted}
use Rattle.blob_journal.proofs.journaled.Journaled.kept_edits.Given as goal

abbrev pub invariant-loop-edit : goal.invariant-loop-edit
invariant-loop-edit g l = (l.edits.items ≡ counted l.kept (take l.edit-index l.self.unsettled.edits.items))
