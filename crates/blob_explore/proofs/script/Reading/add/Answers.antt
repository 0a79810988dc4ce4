use Rattle.std.proofs.Common.{rules, Err, refl, sym, ap, subst}
use Rattle.std.proofs.lemmas.Result.{on_ok_weaker, IfErr-weaker}
use Rattle.blob_script.specs.declared.script.reader.Reader.{Reader}
use Rattle.blob_script.specs.Acts.{act_of}
use Rattle.blob_script.specs.Lines.{line_of}
use Rattle.blob_script.specs.Readers.{MakesCall, MakesNoCall, lines_read}
use Rattle.blob_explore.specs.ScriptTexts.{IsPlain, script_so_far}
use Rattle.blob_explore.proofs.Adding.{a_call, no_call, out_of_place, refuses_call, refuses_words, sizes_of}
use Rattle.blob_explore.proofs.script.Reading.add.Goals as goal

pub returns-in-Ok-Some-clause-plain : goal.returns-in-Ok-Some-clause-plain
returns-in-Ok-Some-clause-plain c =
    let old = c.args.self.now in
    let line = c.args.line.now in
    let asked : MakesCall old.reader (line_of line) (act_of c.in-Ok-Some.call) c.read.new.self = search rules in
    let makes = subst (λ (r : Reader). MakesCall old.reader (line_of line) (act_of c.in-Ok-Some.call) r) (sym c.add_call.ensures.reader) asked in
    on_ok_weaker c.add_call.result (λ calls. (a_call old c.add_call.new.self line (search rules) c.in-Ok-Some.call makes calls).0) c.add_call.ensures.call

pub returns-in-Ok-Some-clause-line : goal.returns-in-Ok-Some-clause-line
returns-in-Ok-Some-clause-line c =
    let old = c.args.self.now in
    let line = c.args.line.now in
    let asked : MakesCall old.reader (line_of line) (act_of c.in-Ok-Some.call) c.read.new.self = search rules in
    let makes = subst (λ (r : Reader). MakesCall old.reader (line_of line) (act_of c.in-Ok-Some.call) r) (sym c.add_call.ensures.reader) asked in
    on_ok_weaker c.add_call.result (λ calls. (a_call old c.add_call.new.self line (search rules) c.in-Ok-Some.call makes calls).1) c.add_call.ensures.call

pub returns-in-Ok-Some-clause-sizes : goal.returns-in-Ok-Some-clause-sizes
returns-in-Ok-Some-clause-sizes c =
    sizes_of c.add_call.result c.args.self.now.calls.items c.add_call.new.self.calls.items c.in-Ok-Some.call c.add_call.ensures.sizes c.add_call.ensures.call

pub returns-in-Ok-Some-clause-refused : goal.returns-in-Ok-Some-clause-refused
returns-in-Ok-Some-clause-refused c =
    let old = c.args.self.now in
    let line = c.args.line.now in
    let asked : MakesCall old.reader (line_of line) (act_of c.in-Ok-Some.call) c.read.new.self = search rules in
    rw c.add_call.ensures.reader (IfErr-weaker c.add_call.result _ _ (λ refused. refuses_call old c.read.new.self line (act_of c.in-Ok-Some.call) (lines_read c.read.new.self) refused (search rules) asked) c.add_call.ensures.refused)

pub returns-in-Ok-None-clause-plain : goal.returns-in-Ok-None-clause-plain
returns-in-Ok-None-clause-plain c =
    let old = c.args.self.now in
    let makes : MakesNoCall old.reader (line_of c.args.line.now) c.read.new.self = search rules in
    on_ok_weaker c.refuse_words.result (λ none. (no_call old (record { reader = c.read.new.self; calls = old.calls }) c.args.line.now (search rules) makes refl none).0) c.refuse_words.ensures.none

pub returns-in-Ok-None-clause-line : goal.returns-in-Ok-None-clause-line
returns-in-Ok-None-clause-line c =
    let old = c.args.self.now in
    let makes : MakesNoCall old.reader (line_of c.args.line.now) c.read.new.self = search rules in
    on_ok_weaker c.refuse_words.result (λ none. (no_call old (record { reader = c.read.new.self; calls = old.calls }) c.args.line.now (search rules) makes refl none).1) c.refuse_words.ensures.none

pub returns-in-Ok-None-clause-refused : goal.returns-in-Ok-None-clause-refused
returns-in-Ok-None-clause-refused c =
    let old = c.args.self.now in
    let makes : MakesNoCall old.reader (line_of c.args.line.now) c.read.new.self = search rules in
    IfErr-weaker c.refuse_words.result _ _ (λ refused. refuses_words old c.read.new.self c.args.line.now refused (search rules) makes) c.refuse_words.ensures.some

pub returns-in-Err-BadCall-clause-refused : goal.returns-in-Err-BadCall-clause-refused
returns-in-Err-BadCall-clause-refused c =
    let plain : IsPlain c.args.self.now = search rules in
    let refuses = c.in-Err-BadCall.ensures.bad (ap Err c.in-Err-BadCall.field-0-is) in
    (c.number.ensures, out_of_place (script_so_far c.args.self.now) (line_of c.args.line.now) (refuses (script_so_far c.args.self.now) plain.read))
