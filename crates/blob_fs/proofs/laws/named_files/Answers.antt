use Rattle.blob_fs.proofs.Named.{named_there}
use Rattle.blob_fs.proofs.laws.named_files.Goals as goal

pub returns : goal.returns
returns g c = λ fs name inode is. named_there fs name inode is
