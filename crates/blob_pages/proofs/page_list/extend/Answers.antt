use Rattle.std.proofs.Common.{arith}
use Rattle.blob_pages.proofs.Paged.{extends_through, owned_after}
use Rattle.blob_pages.proofs.page_list.extend.Goals as goal

pub returns-in_err-add-clause-extends : goal.returns-in_err-add-clause-extends
returns-in_err-add-clause-extends c = extends_through c.args.pages.now c.loop-have.pages c.add.new.self c.loop-have.invariant.extends c.add.ensures.extends

pub returns-in_err-add-clause-owned : goal.returns-in_err-add-clause-owned
returns-in_err-add-clause-owned c = owned_after c.loop-have.pages c.add.new.self _ c.loop-have.invariant.owned c.add.ensures.extends.owned c.add.ensures.owned

pub loop-have-preserved : goal.loop-have-preserved
loop-have-preserved c = record {
  extends = extends_through c.args.pages.now c.loop-have.pages c.add.new.self c.loop-have.invariant.extends c.add.ensures.extends;
  owned = owned_after c.loop-have.pages c.add.new.self _ c.loop-have.invariant.owned c.add.ensures.extends.owned c.add.ensures.owned;
  have = omega (arith, c.in_ok-add.ensures.one, c.loop-have.invariant.have);
}
