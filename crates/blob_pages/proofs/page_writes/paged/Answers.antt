use Rattle.std.proofs.Common.{◌∙◌}
use Rattle.blob_pages.specs.Values.{bytes}
use Rattle.blob_pages.proofs.Paged.{overlay_all}
use Rattle.blob_pages.proofs.page_writes.paged.Goals as goal

pub returns-clause-bytes : goal.returns-clause-bytes
returns-clause-bytes c = c.in_ok-overlay.ensures.ok ∙ overlay_all (bytes c.new-pages.result) c.args.run.now c.new-pages.ensures.bytes
