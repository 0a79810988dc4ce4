use Rattle.std.proofs.Common.{ap, length, arith}
use Rattle.blob_pages.specs.Paged.{page_bytes}
use Rattle.blob_pages.proofs.Zeroed.{blank_length}
use Rattle.blob_pages.proofs.page.put.Goals as goal

pub put_first-requires-clause-within : goal.put_first-requires-clause-within
put_first-requires-clause-within c = omega (arith, c.requires.within, ap length (ap page_bytes c.in-Blank.is), blank_length)
