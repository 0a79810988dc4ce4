use Rattle.std.proofs.Common.{sym}
use Rattle.blob_journal.proofs.Telling.{told_count}
use Rattle.blob_journal.proofs.journaled.Journaled.told_edits.Goals as goal

pub returns : goal.returns
returns g c = let self = c.args.self.now in sym (told_count c.records.ensures.found self.store self.journal self.unsettled.edits.items self.kept)
