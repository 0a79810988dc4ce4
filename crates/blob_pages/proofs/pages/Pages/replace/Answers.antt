use Rattle.std.proofs.Common.{arith}
use Rattle.blob_pages.proofs.Paged.{same_bytes_in, same_table, taken_bytes}
use Rattle.blob_pages.proofs.pages.Pages.replace.Goals as goal

pub returns-in_err-self-clause-other : goal.returns-in_err-self-clause-other
returns-in_err-self-clause-other c = same_bytes_in c.args.other.now.pages c.share.new.self c.args.other.now.len (λ p _. same_table c.args.other.now.pages c.share.new.self c.share.ensures.bytes p)

pub returns-clause-ok : goal.returns-clause-ok
returns-clause-ok c = taken_bytes c.args.other.now.pages _ _ c.args.other.now.len (omega (arith, c.count.ensures.low, c.in_ok-self.ensures.ok.there)) c.in_ok-self.ensures.ok.bytes

pub returns-clause-other : goal.returns-clause-other
returns-clause-other c = same_bytes_in c.args.other.now.pages c.share.new.self c.args.other.now.len (λ p _. same_table c.args.other.now.pages c.share.new.self c.share.ensures.bytes p)
