use Rattle.std.proofs.Common.{rules}
use Rattle.blob_base.proofs.LowBits.{has_lowest-or}
use Rattle.blob_base.proofs.options.WriteOptions.union.Goals as goal

pub returns-clause-sync : goal.returns-clause-sync
returns-clause-sync c = search (rules, has_lowest-or c.args.self.bits c.args.other.bits)
