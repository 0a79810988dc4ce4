use Rattle.blob_tree.proofs.Visits.{first}
use Rattle.blob_tree.proofs.explorer.Explorer.new.Goals as goal

pub returns-clause-first : goal.returns-clause-first
returns-clause-first c = first
