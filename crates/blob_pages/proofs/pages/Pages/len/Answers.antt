use Rattle.std.proofs.Common.{sym}
use Rattle.blob_pages.proofs.Paged.{length-bytes_in}
use Rattle.blob_pages.proofs.pages.Pages.len.Goals as goal

pub returns-clause-len : goal.returns-clause-len
returns-clause-len c = sym (length-bytes_in c.args.self.now.pages c.args.self.now.len)
