use Rattle.std.proofs.Common.{rules}
use Rattle.blob_explain.proofs.Explaining.{begins}
use Rattle.blob_explain.proofs.explain.explained.Goals as goal

pub lines-init : goal.lines-init
lines-init c = begins _ _ (search rules)
