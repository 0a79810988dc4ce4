use Rattle.blob_choices.proofs.TwoWords.{two_words}
use Rattle.blob_choices.proofs.laws.two_words.Goals as goal

pub returns : goal.returns
returns c v w calls replies = two_words calls replies v w
