use Rattle.std.proofs.Common.{arith}
use Rattle.blob_pages.proofs.Paged.{taken_bytes}
use Rattle.blob_pages.proofs.pages.Pages.copy.Goals as goal

pub returns : goal.returns
returns c = taken_bytes c.args.self.now.pages c.in_ok-pages.pages _ c.args.self.now.len (omega (arith, c.count.ensures.low, c.in_ok-pages.ensures.there)) c.in_ok-pages.ensures.bytes
