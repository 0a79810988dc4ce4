use Rattle.blob_directory.proofs.Settled.{settled_is_found}
use Rattle.blob_directory.proofs.laws.settled.Goals as goal

pub returns : goal.returns
returns c = settled_is_found
