use Rattle.std.proofs.Common.{◌∙◌}
use Rattle.blob_tree.specs.declared.choice.TheConstants.{DRAW}
use Rattle.blob_tree.proofs.Asking.{makes_again}
use Rattle.blob_tree.proofs.traversal.Traversal.make_draws.Goals as goal

pub loop-preserved : goal.loop-preserved
loop-preserved c = record {
  makes = makes_again c.loop.counter (DRAW, 1) _ _ _ _ _ _ c.loop.invariant.makes c.make.ensures.made;
  drawn = c.make.ensures.drawn ∙ c.loop.invariant.drawn;
  room = c.make.ensures.len ∙ c.loop.invariant.room;
}
