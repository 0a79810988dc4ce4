use Rattle.std.proofs.Common.{rules, arith}
use Rattle.blob_states.proofs.Reading.{finished, goes_on, read_all}
use Rattle.blob_states.proofs.script.read_script.Goals as goal

pub lines-preserved : goal.lines-preserved
lines-preserved c =
    let number = c.in_ok-add.ensures.number in
    let few = c.lines.invariant.few in
    let shorter = c.in-Some.ensures.shorter in
    record {
      to = goes_on c.args.text.now c.lines.rest.now c.in-Some.line.now c.in-Some.others.now c.lines.reading c.add.new.self c.lines.invariant.to
          c.in-Some.ensures.line c.in_ok-add.ensures.line number;
      read = c.in_ok-add.ensures.read;
      few = omega (arith, number, few, shorter);
    }

pub returns-clause-script : goal.returns-clause-script
returns-clause-script c =
    finished c.lines.reading c.begin.result (c.args.text.now) (read_all c.args.text.now c.lines.rest.now c.lines.reading c.lines.invariant.to c.in_default.ensures.none) (search rules)
