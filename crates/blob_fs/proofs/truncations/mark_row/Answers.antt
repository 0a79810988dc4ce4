use Rattle.std.proofs.Common.{arith, ◌∙◌}
use Rattle.blob_fs.proofs.Truncating.{mark_more}
use Rattle.blob_fs.proofs.truncations.mark_row.Goals as goal

pub loop-i-preserved : goal.loop-i-preserved
loop-i-preserved c = record {
  size = c.mark.ensures.size ∙ c.loop-i.invariant.size;
  each = λ at low. mark_more c.args.from c.args.offset c.loop-i.i _ c.saturating_add-at.result at c.args.choices.now _ _ _ (omega arith) (omega arith) c.saturating_add-at.ensures (omega (arith, low))
      (c.mark.ensures.each at (omega (arith, low, c.loop-i.invariant.size))) (c.loop-i.invariant.each at low);
}
