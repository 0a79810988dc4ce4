use Rattle.std.proofs.Common.{rules, ◌≡◌, List, subst, take}
use Rattle.blob_draws.specs.declared.config.Config.{Config}
use Rattle.blob_script.specs.declared.call.Call.{Call}
use Rattle.blob_script.specs.Preambles.{Image, Words, words_of}
use Rattle.blob_script.specs.Settings.{no_rates}
use Rattle.blob_lab_model.specs.States.{State, start}
use Rattle.blob_lab_store.specs.LabRuns.{RunsTo}
use Rattle.blob_lab_store.specs.LabStands.{LabStandsFor}
use Rattle.blob_choices.specs.Outcomes.{NoneOutOfMemory}
use Rattle.blob_states.specs.Recorded.{first_images}
use Rattle.blob_states.proofs.Replaying.{ran}
use Rattle.blob_states.proofs.replay.replayed.Goals as goal

pub returns-clause-stands : goal.returns-clause-stands
returns-clause-stands c =
    let run = c.args.run.now in
    let S : State → Type 0 = λ v. LabStandsFor c.in_ok-lab.lab v in
    let I : List Image → Type 0 = λ images. S (start images (words_of c.in_ok-preamble.preamble) c.default.result) in
    let W : Words → Type 0 = λ words. S (start (first_images run) words c.default.result) in
    let C : Config → Type 0 = λ config. S (start (first_images run) (words_of run.preamble) config) in
    let default : c.default.result ≡ no_rates = search rules in
    let stands = subst C default (subst W c.in_ok-preamble.ensures.words (subst I c.in_ok-preamble.ensures.images c.in_ok-lab.ensures.stands)) in
    let calls : List Call = take c.args.count run.calls.items in
    let replies = c.in-Ok.replies in
    let runs : RunsTo c.in_ok-lab.lab calls replies.items c.run.new.self = search rules in
    let there : NoneOutOfMemory replies.items = search rules in
    ran c.in_ok-lab.lab c.run.new.self (start (first_images run) (words_of run.preamble) no_rates) calls replies.items stands runs there
