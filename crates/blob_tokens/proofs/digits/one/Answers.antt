use Rattle.std.proofs.Common.{arith}
use Rattle.blob_tokens.proofs.Decimals.{one_at, mark_small}
use Rattle.blob_tokens.proofs.digits.one.Goals as goal

pub returns-clause-value : goal.returns-clause-value
returns-clause-value c = one_at c.args.digit (omega arith)

pub returns-clause-bound : goal.returns-clause-bound
returns-clause-bound c = omega (arith, one_at c.args.digit (omega arith), mark_small c.args.digit)
