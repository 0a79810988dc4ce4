use Rattle.std.proofs.Common.{◌≡◌, ◌*◌, ◌-◌, ◌+◌, ℕ, List, ap, take, drop, arith}
use Rattle.blob_pages.specs.Paged.{page_size}
use Rattle.blob_pages.proofs.Paged.{extends_through}
use Rattle.blob_pages.proofs.Appending.{part_more}
use Rattle.blob_pages.proofs.page_list.append_whole.Goals as goal

pub loop-i-preserved : goal.loop-i-preserved
loop-i-preserved c =
    let i = c.loop-i.i in
    let at : ℕ = i * page_size - c.args.offset in
    let page : List ℕ = take (at + page_size - at) (drop at c.args.run.now) in
    let whole : page ≡ take page_size (drop at c.args.run.now) = let size : at + page_size - at ≡ page_size = omega arith in ap (λ (k : ℕ). take k (drop at c.args.run.now)) size in
    record {
      extends = extends_through c.args.pages.now c.loop-i.pages c.add_run.new.self c.loop-i.invariant.extends c.add_run.ensures.extends;
      here = omega (arith, c.in_ok-add_run.ensures.one, c.loop-i.invariant.here);
      bytes = part_more c.loop-i.pages c.add_run.new.self i c.len-have.result c.args.offset c.args.run.now page c.add_run.ensures.extends c.loop-i.invariant.here (omega arith) whole c.in_ok-add_run.ensures.bytes c.loop-i.invariant.bytes;
    }

pub returns-in_err-add_run-clause-extends : goal.returns-in_err-add_run-clause-extends
returns-in_err-add_run-clause-extends c = extends_through c.args.pages.now c.loop-i.pages c.add_run.new.self c.loop-i.invariant.extends c.add_run.ensures.extends

pub returns-clause-part : goal.returns-clause-part
returns-clause-part c = record {
  order = omega arith;
  within = omega arith;
  there = omega (arith, c.loop-i.invariant.here);
  bytes = λ p l m. c.loop-i.invariant.bytes p (omega (arith, l)) (omega (arith, m));
}
