use Rattle.std.proofs.Common.{rules, refl, ◌≡◌, ◌-◌, arith, length, vec_len}
use Rattle.blob_draws.proofs.SpanSteps.{extended}
use Rattle.blob_draws.proofs.runs.Span.join.Goals as goal

pub returns-clause-pieces : goal.returns-clause-pieces
returns-clause-pieces c offset bytes h =
    let len : vec_len c.args.spans.now ≡ length c.args.spans.now.items = search rules in
    extended offset c.args.position bytes c.args.spans.now.items (c.len-count.result - 1) c.index-next.result.now _ (omega (arith, len)) (search rules) (search rules) refl refl h
