use Rattle.blob_lab_model.proofs.Lasting.{run_persists}
use Rattle.blob_lab_model.proofs.laws.persistence.fixed_bytes_persist.Goals as goal

pub returns : goal.returns
returns c = run_persists
