use Rattle.blob_draws.proofs.Unreached.{write_out}
use Rattle.blob_faulty.proofs.Laying.{write_laid, resize_laid}
use Rattle.blob_faulty.proofs.laws.outcomes.entries.Goals as goal

pub returns-clause-writes : goal.returns-clause-writes
returns-clause-writes c config number stream sync offset bytes answer t = write_laid config number stream sync offset bytes answer t

pub returns-clause-in_range : goal.returns-clause-in_range
returns-clause-in_range c = λ config number stream sync p offset bytes answer out. write_out p offset bytes out config number stream sync answer

pub returns-clause-resizes : goal.returns-clause-resizes
returns-clause-resizes c config size len stream answer t never x = resize_laid config size len stream answer t never x
