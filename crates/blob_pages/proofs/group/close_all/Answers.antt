use Rattle.std.proofs.Common.{ap, get_or, arith}
use Rattle.blob_pages.specs.Paged.{page_bytes}
use Rattle.blob_pages.proofs.Paged.{shared_more}
use Rattle.blob_pages.proofs.Groups.{closed_more}
use Rattle.blob_pages.proofs.group.close_all.Goals as goal

pub returns-in_err-close-clause-bytes : goal.returns-in_err-close-clause-bytes
returns-in_err-close-clause-bytes c = shared_more page_bytes c.args.pages.now c.loop-i.pages c.loop-i.i _ c.close.new.page c.loop-i.invariant.bytes (omega arith) (ap (get_or c.loop-i.pages c.loop-i.i) c.index-pages-i.is) c.close.ensures.bytes

pub loop-i-preserved : goal.loop-i-preserved
loop-i-preserved c = record {
  bytes = shared_more page_bytes c.args.pages.now c.loop-i.pages c.loop-i.i _ c.close.new.page c.loop-i.invariant.bytes (omega arith) (ap (get_or c.loop-i.pages c.loop-i.i) c.index-pages-i.is) c.close.ensures.bytes;
  shared = closed_more c.loop-i.pages c.loop-i.i c.close.new.page (omega arith) c.loop-i.invariant.shared c.in_ok-close.ensures.shared;
}

pub returns-clause-shared : goal.returns-clause-shared
returns-clause-shared c = λ j d h. c.loop-i.invariant.shared j d (omega (arith, h))
