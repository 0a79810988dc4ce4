use Rattle.std.specs.String.{string_bytes}
use Rattle.std.specs.Prelude.{None}
use Rattle.blob_names.specs.Names.{value_at}
use Rattle.blob_memory.proofs.ByBytes.{found_after, below_gone, there_after}
use Rattle.blob_memory.proofs.partitions.Partitions.remove_partition.Goals as goal

pub returns-clause-items : goal.returns-clause-items
returns-clause-items c = below_gone (value_at (λ k. k.items)) (value_at string_bytes c.args.self.now.names) (value_at string_bytes c.remove.new.self) c.args.partition.now
    (found_after string_bytes c.args.partition.now c.args.self.now.names c.remove.new.self None c.remove.ensures.updates)

pub returns-clause-partitions : goal.returns-clause-partitions
returns-clause-partitions c = there_after (value_at string_bytes c.args.self.now.names) (value_at string_bytes c.remove.new.self) c.args.partition.now None
    (found_after string_bytes c.args.partition.now c.args.self.now.names c.remove.new.self None c.remove.ensures.updates)
