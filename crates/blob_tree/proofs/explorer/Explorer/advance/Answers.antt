use Rattle.std.proofs.Common.{rules}
use Rattle.blob_tree.proofs.Visits.{advances}
use Rattle.blob_tree.proofs.explorer.Explorer.advance.Goals as goal

pub returns-clause-leaves : goal.returns-clause-leaves
returns-clause-leaves c = advances _ _ _ (search rules)
