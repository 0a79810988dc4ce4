use Rattle.std.proofs.Common.{rules, List, drop, take, subst}
use Rattle.blob_script.specs.declared.call.Call.{Call}
use Rattle.blob_lab_store.specs.LabRuns.{RunsTo}
use Rattle.blob_choices.specs.Outcomes.{NoneOutOfMemory}
use Rattle.blob_states.proofs.Replaying.{one_there, ran_one}
use Rattle.blob_states.proofs.replay.advance.Goals as goal

pub returns-clause-ok : goal.returns-clause-ok
returns-clause-ok c =
    let run = c.args.run.now in
    let i = c.args.index in
    let (x, one, is) = one_there run.calls.items i c.requires in
    let runs : RunsTo c.args.lab.now (take 1 (drop i run.calls.items)) c.in_ok-replies.replies.items c.run.new.self = search rules in
    let there : NoneOutOfMemory c.in_ok-replies.replies.items = search rules in
    ran_one c.args.lab.now c.run.new.self run i x c.in_ok-replies.replies.items c.requires is (subst (λ (calls : List Call). RunsTo c.args.lab.now calls c.in_ok-replies.replies.items c.run.new.self) one runs) there
