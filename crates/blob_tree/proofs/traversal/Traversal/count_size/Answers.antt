use Rattle.std.proofs.Common.{arith, ◌-◌, ◌∙◌, sym}
use Rattle.blob_tree.proofs.Asking.{makes_size}
use Rattle.blob_tree.proofs.traversal.Traversal.count_size.Goals as goal

pub returns-clause-made : goal.returns-clause-made
returns-clause-made c = λ e. makes_size _ (c.new_draws-more.result - 1) _ _ _ _ _ _ _ _ (sym c.new_draws-more.ensures ∙ grind (arith, c.if-more-eq0.false)) c.make_draws.ensures.made c.make.ensures.made
