use Rattle.blob_fs.proofs.Synced.{synced_is_found}
use Rattle.blob_fs.proofs.laws.synced_files.Goals as goal

pub returns : goal.returns
returns g c = record { found = synced_is_found g.row.R.Denot }
