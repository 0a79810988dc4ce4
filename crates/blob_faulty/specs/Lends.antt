-- A wrapper after its configuration was changed through a borrowed reference.
use Rattle.std.specs.Borrow.{Lends, Fml, RattleType, MutBor}
use Rattle.std.specs.declared.cmp.PartialEq as equality
use Rattle.blob_base.specs.declared.storage.Durable as stores
use Rattle.blob_draws.specs.declared.config.Config.{Config}
use Rattle.blob_faulty.specs.declared.storage.Storage.{Storage}
use Rattle.blob_draws.specs.contracts.config.Config as config
use Rattle.blob_faulty.specs.contracts.storage.Storage as wrapper

-- with another configuration; all else stays
abbrev pub with_config : {S R O : Type 0} → Storage S R O → Config → Storage S R O
with_config w config = record w { config = config }

-- with another generator; all else stays
abbrev pub with_rng : {S R O : Type 0} → Storage S R O → R → Storage S R O
with_rng w rng = record w { rng = rng }

-- w ends with the last configuration that r has
abbrev pub LendsConfig : (S R O : RattleType) → stores.Ghosts S.Denot O.Denot → equality.Ghosts O.Denot → MutBor (Storage S.Denot R.Denot O.Denot) → MutBor Config → Fml
LendsConfig S R O store same w r = Lends (wrapper.the_row S R O store same) config.the_row w r (with_config w.now)
