use Rattle.std.proofs.Common.{rules}
use Rattle.std.specs.String.{string_bytes}
use Rattle.std.specs.Prelude.{Some, None}
use Rattle.blob_names.specs.Names.{value_at}
use Rattle.blob_memory.proofs.ByBytes.{found_after, below_after, there_still}
use Rattle.blob_memory.proofs.partitions.Partitions.remove.Goals as goal

pub returns-in-Some-clause-items : goal.returns-in-Some-clause-items
returns-in-Some-clause-items c =
    let made = c.remove.new.self in
    let last = c.get_mut.follows.lender made in
    below_after (value_at (λ k. k.items)) (value_at string_bytes c.args.self.now.names) (value_at string_bytes last) c.args.partition.now c.args.name.now c.in-Some.names.now made None
    (search rules)
    (found_after string_bytes c.args.partition.now c.args.self.now.names last (Some made) ((c.get_mut.follows.holds made).3 (search rules)))
    (found_after (λ k. k.items) c.args.name.now c.in-Some.names.now made None c.remove.ensures.updates)

pub returns-in-Some-clause-partitions : goal.returns-in-Some-clause-partitions
returns-in-Some-clause-partitions c =
    let made = c.remove.new.self in
    let last = c.get_mut.follows.lender made in
    there_still (value_at string_bytes c.args.self.now.names) (value_at string_bytes last) c.args.partition.now c.in-Some.names.now made
    (search rules)
    (found_after string_bytes c.args.partition.now c.args.self.now.names last (Some made) ((c.get_mut.follows.holds made).3 (search rules)))
