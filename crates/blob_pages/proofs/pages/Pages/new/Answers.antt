use Rattle.blob_pages.proofs.Paged.{length-bytes_in}
use Rattle.blob_pages.proofs.pages.Pages.new.Goals as goal

pub returns-clause-bytes : goal.returns-clause-bytes
returns-clause-bytes c = length-bytes_in c.new.result 0
