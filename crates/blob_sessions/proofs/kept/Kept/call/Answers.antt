use Rattle.std.proofs.Common.{◌≡◌, Some, Err, ap, rules}
use Rattle.blob_script.specs.Acts.{act_of}
use Rattle.blob_script.specs.Lines.{line_of}
use Rattle.blob_script.specs.Readers.{SaysCall, config_of}
use Rattle.blob_sessions.specs.Sessions.{settings_of}
use Rattle.blob_sessions.proofs.Answering.{declined, ran_line, said_call}
use Rattle.blob_sessions.proofs.kept.Kept.call.Goals as goal

pub returns-in-Ok-Some : goal.returns-in-Ok-Some
returns-in-Ok-Some c =
    let is : c.in-Ok-Some.field-0 ≡ Some c.in-Ok-Some.call = search rules in
    let asks = said_call c.in-Ok-Some.field-0 c.in-Ok-Some.call (λ call. SaysCall (settings_of c.args.self.now) (line_of c.args.line.now) (act_of call) (settings_of c.read_call.new.self)) is c.in-Ok-Some.ensures.call in
    ran_line c.args.self.now c.read_call.new.self c.run.new.self c.args.line.now (act_of c.in-Ok-Some.call) c.run.result _ _ asks c.in-Ok-Some.ensures.kept c.run.ensures

pub returns-in-Err-BadCall : goal.returns-in-Err-BadCall
returns-in-Err-BadCall c =
    declined _ _ c.args.line.now _ _ c.stopped-in-Err-BadCall.ensures (c.in-Err-BadCall.ensures.bad (ap Err c.in-Err-BadCall.field-0-is)) c.in-Err-BadCall.ensures.err
