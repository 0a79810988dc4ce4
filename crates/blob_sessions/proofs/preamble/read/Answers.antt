use Rattle.std.proofs.Common.{arith}
use Rattle.blob_sessions.proofs.Adding.{begins, goes_on_by}
use Rattle.blob_sessions.proofs.preamble.read.Goals as goal

pub lines-init : goal.lines-init
lines-init c = (
  begins c.args.text.now c.new-reader.result c.new-reader.ensures.script c.new-reader.ensures.begun c.new-reader.ensures.number,
  (let n = c.new-reader.ensures.number in omega (arith, n)),
)

pub lines-preserved : goal.lines-preserved
lines-preserved c =
    let number = c.in_ok-add.ensures.number in
    let few = c.lines.invariant.1 in
    let shorter = c.in-Some.ensures.shorter in (
      goes_on_by c.args.text.now c.lines.rest.now c.in-Some.line.now c.in-Some.others.now c.lines.reader c.add.new.reader c.lines.invariant.0 c.in-Some.ensures.line number c.in_ok-add.ensures.ok,
      omega (arith, number, few, shorter),
    )
