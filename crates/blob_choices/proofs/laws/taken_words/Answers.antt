use Rattle.blob_choices.proofs.Counts.{left_counts}
use Rattle.blob_choices.proofs.laws.taken_words.Goals as goal

pub returns : goal.returns
returns c v w calls replies t path spare left D there run = left_counts v w calls replies t D there path spare left run
