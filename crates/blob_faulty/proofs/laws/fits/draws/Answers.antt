use Rattle.std.proofs.Common.{[]}
use Rattle.blob_faulty.proofs.FittingDraws.{rows_fit}
use Rattle.blob_faulty.proofs.laws.fits.draws.Goals as goal

pub returns : goal.returns
returns c = λ log next stream up. rows_fit log 0 next stream [] tt up
