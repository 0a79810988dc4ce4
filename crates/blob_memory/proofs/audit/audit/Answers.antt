use Rattle.blob_memory.proofs.ListingOf.{is_listing}
use Rattle.blob_memory.proofs.audit.audit.Goals as goal

pub returns-clause-listing : goal.returns-clause-listing
returns-clause-listing c = is_listing c.args.partitions.now c.feed_partitions.ensures.ordered c.feed_partitions.ensures.all_ordered
