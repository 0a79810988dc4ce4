use Rattle.blob_faulty.proofs.Following.{crashed_follow, durable_follow, fits_from, fits_to}
use Rattle.blob_faulty.proofs.laws.fits.entries.Goals as goal

pub returns : goal.returns
returns c = λ files o entries t. (crashed_follow files o entries t, durable_follow files o entries, (fits_from t files o entries, fits_to t files o entries))
