use Rattle.blob_memory.proofs.Forks.{item_copied, there_copied, listing_copied}
use Rattle.blob_memory.proofs.partitions.Partitions.copy.Goals as goal

pub returns-clause-items : goal.returns-clause-items
returns-clause-items c = item_copied c.args.self.now.names c.in_ok-clone.field-0 c.in_ok-clone.ensures.cases

pub returns-clause-partitions : goal.returns-clause-partitions
returns-clause-partitions c = there_copied c.args.self.now.names c.in_ok-clone.field-0 c.in_ok-clone.ensures.cases

pub returns-clause-listing : goal.returns-clause-listing
returns-clause-listing c = listing_copied c.args.self.now.names.entries c.in_ok-clone.field-0.entries c.in_ok-clone.ensures.cases
