use Rattle.blob_choices.proofs.Seeds.{seeds_fit}
use Rattle.blob_choices.proofs.laws.seeds.Goals as goal

pub returns : goal.returns
returns c = seeds_fit
