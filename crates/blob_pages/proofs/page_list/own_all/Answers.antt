use Rattle.blob_pages.proofs.Paged.{keeps_through, owned_next}
use Rattle.blob_pages.proofs.page_list.own_all.Goals as goal

pub returns-in_err-own-clause-keeps : goal.returns-in_err-own-clause-keeps
returns-in_err-own-clause-keeps c = keeps_through c.args.pages.now c.loop-i.pages c.own.new.self c.loop-i.invariant.keeps c.own.ensures.keeps

pub loop-i-preserved : goal.loop-i-preserved
loop-i-preserved c = record {
  keeps = keeps_through c.args.pages.now c.loop-i.pages c.own.new.self c.loop-i.invariant.keeps c.own.ensures.keeps;
  owned = owned_next c.loop-i.pages c.own.new.self c.args.from c.loop-i.i c.loop-i.invariant.owned c.own.ensures.keeps.owned c.in_ok-own.ensures.owned;
}
