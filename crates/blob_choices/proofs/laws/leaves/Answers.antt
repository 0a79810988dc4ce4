use Rattle.blob_choices.proofs.Runs.{leaf_of}
use Rattle.blob_choices.proofs.laws.leaves.Goals as goal

pub returns : goal.returns
returns c v w calls replies t = leaf_of v w calls replies t
