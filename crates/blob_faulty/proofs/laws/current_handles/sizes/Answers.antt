use Rattle.blob_draws.proofs.Sizes.{sized_after_write, sized_after_resize}
use Rattle.blob_faulty.proofs.laws.current_handles.sizes.Goals as goal

pub returns-clause-writes : goal.returns-clause-writes
returns-clause-writes c config stream sync size live offset bytes answer found e = sized_after_write config stream sync size live offset bytes answer found e

pub returns-clause-resizes : goal.returns-clause-resizes
returns-clause-resizes c fate size live len answer e = sized_after_resize fate size live len answer e
