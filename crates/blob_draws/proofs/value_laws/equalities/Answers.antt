use Rattle.std.proofs.Common.{rules}
use Rattle.blob_draws.proofs.EqualConfigs.{configs_same}
use Rattle.blob_draws.proofs.value_laws.equalities.Goals as goal

pub returns-clause-configs : goal.returns-clause-configs
returns-clause-configs c = configs_same _ (search rules) _ (search rules) _ (search rules)
