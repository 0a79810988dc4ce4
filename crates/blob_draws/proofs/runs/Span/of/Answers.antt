use Rattle.std.proofs.Common.{◌∙◌, ◌-◌, ◌+◌, List, get_or, arith, length, ap}
use Rattle.blob_model.specs.Runs.{Run, with_byte}
use Rattle.blob_draws.proofs.SpanSteps.{left_out, joined_in, back_one}
use Rattle.blob_draws.proofs.runs.Span.of.Goals as goal

pub loop-i-preserved : goal.loop-i-preserved
loop-i-preserved c = record {
  within = omega arith;
  pieces = λ o bytes same. c.loop-i.invariant.pieces o bytes same ∙ back_one o c.loop-i.i bytes c.args.chosen.now (omega arith)
      ∙ left_out o (c.loop-i.i - 1) bytes c.args.chosen.now (omega arith) same c.if-chosen-i.false;
  inside = c.loop-i.invariant.inside;
}

pub loop-i-preserved-in-Continue-1 : goal.loop-i-preserved-in-Continue-1
loop-i-preserved-in-Continue-1 c = record {
  within = omega arith;
  pieces = λ o bytes same. c.in_ok-join.ensures.pieces o bytes (omega arith)
      ∙ ap (λ (rs : List Run). with_byte (o + (c.loop-i.i - 1)) (get_or bytes (c.loop-i.i - 1) 0) rs) (c.loop-i.invariant.pieces o bytes same ∙ back_one o c.loop-i.i bytes c.args.chosen.now (omega arith))
      ∙ joined_in o (c.loop-i.i - 1) bytes c.args.chosen.now (omega arith) same c.if-chosen-i.true;
  inside = c.in_ok-join.ensures.inside (length c.args.chosen.now) (omega arith) c.loop-i.invariant.inside;
}
