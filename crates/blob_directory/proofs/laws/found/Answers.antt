use Rattle.blob_directory.proofs.Walks.{all_names, found_again}
use Rattle.blob_directory.proofs.laws.found.Goals as goal

pub returns : goal.returns
returns c = record { all = λ found told finds once e at. all_names found told finds once e at; again = found_again }
