use Rattle.blob_pending.proofs.Bounded.{none_by}
use Rattle.blob_pending.proofs.bounds.BlockBounds.clear.Goals as goal

pub returns : goal.returns
returns c entries = (none_by 64 c.clear.new.self.items entries c.clear.ensures.items, none_by 4096 c.clear-2.new.self.items entries c.clear-2.ensures.items)
