use Rattle.std.proofs.Common.{ap, refl}
use Rattle.blob_memory.specs.Store.{directory}
use Rattle.blob_faulty.specs.Keeps.{OverMemory}
use Rattle.blob_faulty.specs.Wrapper.{inner_of}
use Rattle.blob_journal.proofs.Found.{no_more_set}
use Rattle.blob_journal.proofs.Stores.{contents_set, holds_same}
use Rattle.blob_journal.proofs.journaled.Journaled.set_config.Goals as goal

pub invariant_of-self : goal.invariant_of-self
invariant_of-self g c =
    let self = c.args.self.now in
    let set = c.set_config.ensures.set in
    holds_same self c.set_config.new.self (ap (λ (s : OverMemory g.row.R.Denot). directory (inner_of s)) set) (λ test k. no_more_set self.store c.set_config.new.self c.args.config set _ test k)

pub returns-clause-contents : goal.returns-clause-contents
returns-clause-contents g c = contents_set c.args.self.now _ c.args.config c.set_config.ensures.set c.set_config.ensures.files refl (record { names = refl; told = refl; unsettled = refl; log = refl })
