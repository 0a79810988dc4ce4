use Rattle.blob_tree.proofs.ChoiceVisits.{first}
use Rattle.blob_tree.proofs.traversal.Traversal.new.Goals as goal

pub returns-clause-first : goal.returns-clause-first
returns-clause-first c = first
