use Rattle.std.proofs.Common.{rules, arith}
use Rattle.blob_explore.proofs.Adding.{finished}
use Rattle.blob_explore.proofs.Reading.{goes_on, read_all}
use Rattle.blob_explore.proofs.script.read_script.Goals as goal

pub lines-preserved : goal.lines-preserved
lines-preserved c =
    let number = c.in_ok-add.ensures.number in
    let few = c.lines.invariant.few in
    let shorter = c.in-Some.ensures.shorter in
    record {
      sizes = c.in_ok-add.ensures.sizes c.lines.invariant.sizes;
      read = goes_on c.args.text.now c.lines.rest.now c.in-Some.line.now c.in-Some.others.now c.lines.reading c.add.new.self c.lines.invariant.read
          c.in-Some.ensures.line c.in_ok-add.ensures.line number;
      plain = c.in_ok-add.ensures.plain;
      few = omega (arith, number, few, shorter);
    }

pub returns-clause-script : goal.returns-clause-script
returns-clause-script c =
    finished c.lines.reading c.begin.result (c.args.text.now) c.lines.invariant.plain (read_all c.args.text.now c.lines.rest.now c.lines.reading c.lines.invariant.read c.in_default.ensures.none) (search rules)
