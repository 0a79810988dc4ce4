use Rattle.blob_fs.proofs.Unreached.{unreached_stays_fixed}
use Rattle.blob_fs.proofs.laws.fixed_bytes.Goals as goal

pub returns : goal.returns
returns g c = unreached_stays_fixed g.row.R.Denot
