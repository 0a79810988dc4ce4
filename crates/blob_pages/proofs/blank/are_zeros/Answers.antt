use Rattle.std.proofs.lemmas.Bool.{OnTrue_from}
use Rattle.std.proofs.lemmas.Bool.Decides.{Decides-eqb}
use Rattle.std.proofs.lemmas.Slice.Eq.{slice_eq-Decides}
use Rattle.blob_pages.specs.Sizes.{blank_bytes}
use Rattle.blob_pages.proofs.blank.are_zeros.Goals as goal

pub returns : goal.returns
unfolding blank_bytes
returns c = OnTrue_from _ _ (slice_eq-Decides Decides-eqb _ _ c.eq.result c.eq.ensures).0
