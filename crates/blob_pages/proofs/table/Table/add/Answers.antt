use Rattle.std.proofs.Common.{◌∙◌, ap, length}
use Rattle.blob_pages.proofs.Zeroed.{blank_length}
use Rattle.blob_pages.proofs.table.Table.add.Goals as goal

pub add_to-requires-clause-full : goal.add_to-requires-clause-full
add_to-requires-clause-full c = ap length c.in_ok-page.ensures.bytes ∙ blank_length
