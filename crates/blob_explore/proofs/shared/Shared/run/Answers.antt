use Rattle.std.proofs.Common.{rules, arith, ◌≡◌, ◌-◌, ◌∙◌, List, ap, drop, length, subst, take}
use Rattle.std.proofs.lemmas.List.{length-drop, take_all}
use Rattle.blob_script.specs.declared.call.Call.{Call}
use Rattle.blob_lab_store.specs.LabRuns.{RunsTo}
use Rattle.blob_explore.proofs.SharedRuns.{ran_on}
use Rattle.blob_explore.proofs.shared.Shared.run.Goals as goal

pub returns-in-Ok-clause-ok : goal.returns-in-Ok-clause-ok
returns-in-Ok-clause-ok c shared =
    let script = c.args.script.now in
    let same : c.min-from.result ≡ c.args.self.now.count = search (rules, arith, shared.within) in
    let from = c.min-from.result in
    let calls : List Call = c.deref.result.now in
    let is : calls ≡ script.calls.items = search rules in
    let rest : take (length calls - from) (drop from calls) ≡ drop from script.calls.items =
    take_all (length calls - from) (drop from calls) (omega (arith, length-drop from calls)) ∙ ap (drop from) is in
    let runs : RunsTo c.set_words.new.self (drop from script.calls.items) c.in-Ok.replies.items c.run.new.self =
    subst (λ (cs : List Call). RunsTo c.set_words.new.self cs c.in-Ok.replies.items c.run.new.self) rest c.in-Ok.ensures.stands in
    ran_on c.runs_go_on.ensures.runs script c.args.self.now.lab c.set_words.new.self c.run.new.self c.args.self.now.count from c.args.words.items
    c.args.self.now.replies.items c.in-Ok.replies.items c.words_left-left.result shared
    (c.set_words.ensures shared.state (c.in_ok-lab.ensures.stands shared.state shared.stands)) same runs c.words_left-left.ensures.left
