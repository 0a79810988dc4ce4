use Rattle.blob_draws.proofs.Unreached.{write_has}
use Rattle.blob_faulty.proofs.Laying.{live_laid, resize_live}
use Rattle.blob_faulty.proofs.laws.current_handles.live_bytes.Goals as goal

pub returns-clause-writes : goal.returns-clause-writes
returns-clause-writes c config stream sync live offset bytes answer found = live_laid config stream sync live offset bytes answer found

pub returns-clause-in_range : goal.returns-clause-in_range
returns-clause-in_range c = λ config stream sync p v offset bytes live answer out has. write_has p v offset bytes out live has config stream sync answer

pub returns-clause-resizes : goal.returns-clause-resizes
returns-clause-resizes c config size len stream live answer never = resize_live config size len stream live answer never
