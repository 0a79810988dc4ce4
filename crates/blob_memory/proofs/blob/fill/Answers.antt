use Rattle.std.proofs.Common.{◌∙◌, ◌++◌, ap, arith, length}
use Rattle.blob_memory.proofs.Parts.{part_behind}
use Rattle.blob_memory.proofs.blob.fill.Goals as goal

pub loop-done-preserved : goal.loop-done-preserved
loop-done-preserved c = record {
  within = omega arith;
  bytes = c.put_slice.ensures.bytes ∙ ap (λ l. l ++ c.part-part.result.now) c.loop-done.invariant.bytes ∙ part_behind c.args.live.now.items c.part-part.result.now c.args.at c.loop-done.done (length c.part-part.result.now) c.part-part.ensures.part;
  room = omega arith;
}
