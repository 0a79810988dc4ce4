use Rattle.blob_model.specs.Places.{same_place}
use Rattle.blob_faulty.proofs.Following.{crashed_published, durable_published, fits_without}
use Rattle.blob_faulty.proofs.laws.fits.syncs.Goals as goal

pub returns : goal.returns
returns c = λ files o bytes t. (crashed_published files o bytes t, durable_published files o bytes, fits_without t files.log (same_place o))
