use Rattle.std.proofs.Common.{refl}
use Rattle.blob_journal.proofs.Stores.{contents_drawn, holds_drawn}
use Rattle.blob_journal.proofs.journaled.Journaled.replace_rng.Goals as goal

pub invariant_of-self : goal.invariant_of-self
invariant_of-self g c = holds_drawn c.args.self.now c.replace_rng.new.self c.args.rng c.replace_rng.ensures.set

pub returns-clause-contents : goal.returns-clause-contents
returns-clause-contents g c = contents_drawn c.args.self.now _ c.args.rng c.replace_rng.ensures.set c.replace_rng.ensures.files refl (record { names = refl; told = refl; unsettled = refl; log = refl })
