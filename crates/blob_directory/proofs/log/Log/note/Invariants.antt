use Rattle.std.proofs.Common.{take}
use Rattle.std.specs.List.{fold}
use Rattle.blob_directory.specs.Logs.{with_logged}
use Rattle.blob_directory.specs.Names.{Same}
use Rattle.blob_directory.specs.Tables.{bound}
use Rattle.blob_directory.proofs.log.Log.note.Given as goal

abbrev pub invariant-loop-edit : goal.invariant-loop-edit
invariant-loop-edit l = Same (bound l.self.names) (fold with_logged (bound l.fn.self.names) (take l.edit-index l.edits))
