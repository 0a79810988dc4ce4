use Rattle.std.proofs.Common.{rules, ◌≡◌, ◌++◌, ◌∷◌, [], Err, refl, ap}
use Rattle.blob_script.specs.Acts.{act_of}
use Rattle.blob_script.specs.Lines.{line_of}
use Rattle.blob_script.specs.Readers.{MakesCall, MakesNoCall}
use Rattle.blob_states.specs.ScriptTexts.{IsRead, script_so_far}
use Rattle.blob_states.specs.declared.script.Reading.{Reading}
use Rattle.blob_states.proofs.Reading.{a_call, no_call}
use Rattle.blob_states.proofs.script.Reading.add.Goals as goal

pub returns-else-is_err-clause-line : goal.returns-else-is_err-clause-line
returns-else-is_err-clause-line c =
    let old : Reading = c.args.self.now in
    let new : Reading = record { reader = c.read.new.self; calls = c.push.new.self } in
    let makes : MakesCall old.reader (line_of c.args.line.now) (act_of c.in-Ok-Some.call) c.read.new.self = search rules in
    let calls : c.push.new.self.items ≡ old.calls.items ++ c.in-Ok-Some.call ∷ [] = search rules in
    (a_call old new c.args.line.now (search rules) c.in-Ok-Some.call makes calls).1

pub returns-in-Ok-None-clause-line : goal.returns-in-Ok-None-clause-line
returns-in-Ok-None-clause-line c =
    let old : Reading = c.args.self.now in
    let new : Reading = record { reader = c.read.new.self; calls = old.calls } in
    let makes : MakesNoCall old.reader (line_of c.args.line.now) c.read.new.self = search rules in
    (no_call old new c.args.line.now (search rules) makes refl).1

pub returns-in-Err-BadCall-clause-refused : goal.returns-in-Err-BadCall-clause-refused
returns-in-Err-BadCall-clause-refused c =
    let old : Reading = c.args.self.now in
    let read : IsRead old = search rules in
    let refuses = c.in-Err-BadCall.ensures.bad (ap Err c.in-Err-BadCall.field-0-is) in
    (c.number.ensures, refuses (script_so_far old) read)
