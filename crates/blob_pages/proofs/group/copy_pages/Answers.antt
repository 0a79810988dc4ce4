use Rattle.std.proofs.Common.{◌∙◌, ap, map, arith}
use Rattle.std.proofs.lemmas.List.{length-map, take_all}
use Rattle.blob_pages.specs.Paged.{page_bytes, is_owned}
use Rattle.blob_pages.proofs.Groups.{copied_by}
use Rattle.blob_pages.proofs.group.copy_pages.Goals as goal

pub loop-i-preserved : goal.loop-i-preserved
loop-i-preserved c = record {
  bytes = ap (map page_bytes) c.in_ok-push.ensures.items
      ∙ copied_by page_bytes c.args.pages.now c.loop-i.copies.items c.loop-i.i _ c.in_ok-copy.copy c.loop-i.invariant.bytes (omega arith) c.index-pages-i.is c.in_ok-copy.ensures.bytes;
  owned = ap (map is_owned) c.in_ok-push.ensures.items
      ∙ copied_by is_owned c.args.pages.now c.loop-i.copies.items c.loop-i.i _ c.in_ok-copy.copy c.loop-i.invariant.owned (omega arith) c.index-pages-i.is c.in_ok-copy.ensures.shared;
}

pub returns-clause-bytes : goal.returns-clause-bytes
returns-clause-bytes c = c.loop-i.invariant.bytes ∙ take_all _ (map page_bytes c.args.pages.now) (omega (arith, length-map c.args.pages.now page_bytes))

pub returns-clause-owned : goal.returns-clause-owned
returns-clause-owned c = c.loop-i.invariant.owned ∙ take_all _ (map is_owned c.args.pages.now) (omega (arith, length-map c.args.pages.now is_owned))
