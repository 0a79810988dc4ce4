use Rattle.blob_choices.proofs.Sizes.{sizes_have_words}
use Rattle.blob_choices.proofs.laws.sizes.Goals as goal

pub returns : goal.returns
returns c = sizes_have_words
