use Rattle.blob_faulty.proofs.FittingWrites.{write_laid}
use Rattle.blob_faulty.proofs.laws.fits.writes.Goals as goal

pub returns : goal.returns
returns c = λ config number stream sync offset bytes x answer t. write_laid config number stream sync offset bytes x answer t
