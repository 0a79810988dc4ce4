use Rattle.std.proofs.Common.{arith}
use Rattle.blob_tokens.proofs.Decimals.{one_at, ten_at, mark_small}
use Rattle.blob_tokens.proofs.digits.pair.Goals as goal

pub overflow_add-result : goal.overflow_add-result
overflow_add-result c =
    omega (arith, ten_at c.args.first (omega arith), one_at c.args.second (omega arith), mark_small c.args.first, mark_small c.args.second)

pub returns-clause-value : goal.returns-clause-value
returns-clause-value c = omega (arith, ten_at c.args.first (omega arith), one_at c.args.second (omega arith))

pub returns-clause-bound : goal.returns-clause-bound
returns-clause-bound c =
    omega (arith, ten_at c.args.first (omega arith), one_at c.args.second (omega arith), mark_small c.args.first, mark_small c.args.second)
