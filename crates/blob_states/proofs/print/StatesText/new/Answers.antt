use Rattle.std.proofs.Common.{rules, arith, [], refl}
use Rattle.blob_states.proofs.Printing.{few_calls, none_printed}
use Rattle.blob_states.proofs.print.StatesText.new.Goals as goal

pub returns-in_err-first-clause-refused : goal.returns-in_err-first-clause-refused
returns-in_err-first-clause-refused c =
    let h = few_calls c.args.text.now c.args.at c.in_ok-run.run' c.in_err-first.field-0.0 c.in_ok-run.ensures.script c.in_err-first.ensures.refused in
    search (rules, h)

pub returns-in-Ok-clause-begun : goal.returns-in-Ok-clause-begun
returns-in-Ok-clause-begun c = record {
  is = c.in_ok-run.ensures.script;
  limit_is = refl;
  range = c.in_ok-first.ensures.range;
  printed = none_printed c.in_ok-run.run' c.args.limit c.in_ok-first.first _ [] c.new.result (omega arith) refl c.new.ensures;
  stands = λ _. c.in-Ok.ensures.stands;
  names = λ _. c.in-Ok.ensures.names;
}
