use Rattle.std.proofs.Common.{arith}
use Rattle.blob_tree.proofs.Visits.{extended-resized}
use Rattle.blob_tree.proofs.explorer.Explorer.extend.Goals as goal

pub returns-clause-ok : goal.returns-clause-ok
returns-clause-ok c = grind (arith, extended-resized)
