use Rattle.std.proofs.Common.{rules}
use Rattle.blob_base.proofs.LowBits.{has_lowest-without}
use Rattle.blob_base.proofs.options.WriteOptions.without.Goals as goal

pub returns-clause-sync : goal.returns-clause-sync
returns-clause-sync c = search (rules, has_lowest-without c.args.self.bits c.args.other.bits (search rules))
