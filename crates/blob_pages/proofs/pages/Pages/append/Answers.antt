use Rattle.std.proofs.Common.{◌^◌, ◌<◌, arith}
use Rattle.blob_pages.proofs.Paged.{length-bytes_in}
use Rattle.blob_pages.proofs.pages.Pages.append.Goals as goal

pub append_from-requires-clause-fits : goal.append_from-requires-clause-fits
append_from-requires-clause-fits c = omega (arith, c.requires.within, c.args.self.now.held, length-bytes_in c.args.self.now.pages c.args.self.now.len)

pub append_from-requires-clause-counted : goal.append_from-requires-clause-counted
append_from-requires-clause-counted c = let len : c.args.self.now.len < 2 ^ 64 = omega arith in omega (arith, len, c.requires.within, length-bytes_in c.args.self.now.pages c.args.self.now.len)

pub returns-clause-bytes : goal.returns-clause-bytes
returns-clause-bytes c = c.append_from.ensures.bytes c.args.self.now.len (omega (arith, c.requires.within, length-bytes_in c.args.self.now.pages c.args.self.now.len))
