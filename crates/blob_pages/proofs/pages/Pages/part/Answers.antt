use Rattle.std.proofs.Common.{◌^◌, ◌<◌, arith}
use Rattle.blob_pages.proofs.Paged.{length-bytes_in}
use Rattle.blob_pages.proofs.pages.Pages.part.Goals as goal

pub part_of-requires-clause-fits : goal.part_of-requires-clause-fits
part_of-requires-clause-fits c = omega (arith, c.requires.within, c.args.self.now.held, length-bytes_in c.args.self.now.pages c.args.self.now.len)

pub part_of-requires-clause-counted : goal.part_of-requires-clause-counted
part_of-requires-clause-counted c = let len : c.args.self.now.len < 2 ^ 64 = omega arith in omega (arith, len, c.requires.within, length-bytes_in c.args.self.now.pages c.args.self.now.len)

pub returns-clause-part : goal.returns-clause-part
returns-clause-part c = c.part_of.ensures.part c.args.self.now.len (omega (arith, c.requires.within, length-bytes_in c.args.self.now.pages c.args.self.now.len))
