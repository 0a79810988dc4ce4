use Rattle.std.proofs.Common.{refl}
use Rattle.blob_memory.specs.Partitions.{item_at}
use Rattle.blob_memory.proofs.Directories.{same_directory, file_again, none_again}
use Rattle.blob_memory.proofs.contents.Contents.end_all.Goals as goal

pub returns-clause-directory : goal.returns-clause-directory
returns-clause-directory c = same_directory _ _ (λ _. refl) (file_again c.args.self.now.first c.args.self.now.next (item_at c.args.self.now.partitions) c.args.self.now.numbered) refl

pub returns-clause-durable : goal.returns-clause-durable
returns-clause-durable c = none_again c.args.self.now.next (item_at c.args.self.now.partitions) c.args.self.now.numbered
