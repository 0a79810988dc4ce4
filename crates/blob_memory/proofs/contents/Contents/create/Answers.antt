use Rattle.blob_memory.specs.Partitions.{item_at}
use Rattle.blob_memory.proofs.Directories.{durable_begun}
use Rattle.blob_memory.proofs.contents.Contents.create.Goals as goal

pub returns-clause-durable : goal.returns-clause-durable
returns-clause-durable c = durable_begun c.args.self.now.first (item_at c.args.self.now.partitions) (item_at c.insert.new.self) c.args.partition.now c.args.name.now
    (record { number = c.args.self.now.next; layout = c.args.layout; version = c.args.version; bytes = c.args.bytes }) c.args.self.now.begun c.requires.free c.in_ok-insert.ensures.ok
