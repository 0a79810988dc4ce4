use Rattle.std.proofs.Common.{rules, ◌≡◌}
use Rattle.blob_memory.proofs.Lent.{where_some}
use Rattle.blob_memory.proofs.partitions.Partitions.exchange.Goals as goal

pub returns-clause-new : goal.returns-clause-new
returns-clause-new c =
    let given : c.swap.new.x ≡ c.args.item.now = search rules in
    rw (← given) (where_some _ _ c.in-Some.is (c.get_mut.follows.holds c.swap.new.x)).items

pub returns-clause-partitions : goal.returns-clause-partitions
returns-clause-partitions c = (where_some _ _ c.in-Some.is (c.get_mut.follows.holds c.swap.new.x)).partitions
