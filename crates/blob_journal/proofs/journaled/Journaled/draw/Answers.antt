use Rattle.std.proofs.Common.{refl}
use Rattle.blob_journal.proofs.Stores.{contents_drawn, holds_drawn}
use Rattle.blob_journal.proofs.journaled.Journaled.draw.Goals as goal

pub invariant_of-self : goal.invariant_of-self
invariant_of-self g c = holds_drawn c.args.self.now c.draw.new.self _ c.draw.ensures.set

pub returns-clause-contents : goal.returns-clause-contents
returns-clause-contents g c = contents_drawn c.args.self.now _ _ c.draw.ensures.set c.draw.ensures.files refl (record { names = refl; told = refl; unsettled = refl; log = refl })
