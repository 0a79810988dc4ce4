use Rattle.std.proofs.Common.{None}
use Rattle.std.specs.String.{string_bytes}
use Rattle.blob_names.specs.Names.{value_at}
use Rattle.blob_names.proofs.Maps.{found_after, gone_below}
use Rattle.blob_names.proofs.names.Names.remove_partition.Goals as goal

pub returns : goal.returns
returns g c = λ i q m. gone_below (value_at (λ k. k.items)) (value_at string_bytes c.args.self.now.partitions) (value_at string_bytes c.remove.new.self) c.args.partition.now
    (found_after string_bytes c.args.partition.now c.args.self.now.partitions c.remove.new.self None c.remove.ensures.updates) q m i
