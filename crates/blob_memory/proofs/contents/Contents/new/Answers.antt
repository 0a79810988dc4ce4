use Rattle.std.proofs.Common.{refl, ap}
use Rattle.blob_memory.specs.Contents.{file_of, vec_in, bytes_of}
use Rattle.blob_memory.proofs.Directories.{same_directory}
use Rattle.blob_memory.proofs.contents.Contents.new.Goals as goal

pub returns-clause-directory : goal.returns-clause-directory
returns-clause-directory c = same_directory _ _ c.new.ensures.partitions (λ q m. ap (file_of c.args.next) (c.new.ensures.items q m)) refl

pub returns-clause-durable : goal.returns-clause-durable
returns-clause-durable c = λ i o. bytes_of (vec_in c.args.next (c.new.ensures.items o.partition o.name i) o.number o.start)
