use Rattle.std.proofs.Common.{rules, ◌≡◌, ◌+◌, arith}
use Rattle.blob_script.specs.Acts.{act_of}
use Rattle.blob_script.specs.Lines.{line_of}
use Rattle.blob_script.specs.Readers.{MakesCall, lines_read}
use Rattle.blob_sessions.proofs.Adding.{refuses_call}
use Rattle.blob_sessions.proofs.preamble.add.Goals as goal

pub returns-in-Ok-Some-clause-bad : goal.returns-in-Ok-Some-clause-bad
returns-in-Ok-Some-clause-bad c =
    let r = c.args.reader.now in
    let makes : MakesCall r (line_of c.args.line.now) (act_of c.in-Ok-Some.call) c.read.new.self = search rules in
    let next : lines_read c.read.new.self ≡ lines_read r + 1 = (let n = c.read.ensures.number in let few = c.requires in omega (arith, n, few)) in
    refuses_call c.check_setting.result r c.read.new.self c.args.line.now c.number.result (act_of c.in-Ok-Some.call) next c.number.ensures makes c.check_setting.ensures.bad
