use Rattle.blob_disk.proofs.Laying.{partly_refused}
use Rattle.blob_disk.proofs.laws.partial_resizes.Goals as goal

pub returns : goal.returns
returns c file e k = partly_refused file e k
