use Rattle.std.proofs.Common.{rules, arith, ◌≡◌, ◌∙◌, ℕ, Option, Some, ap, take, subst}
use Rattle.std.specs.Prelude.{IfSome}
use Rattle.blob_tree.specs.WordsLeft.{EndsAfter}
use Rattle.blob_lab_model.specs.States.{State}
use Rattle.blob_lab_store.specs.LabStands.{LabStandsFor}
use Rattle.blob_lab_store.specs.LabRuns.{RunsTo}
use Rattle.blob_choices.specs.Outcomes.{NoneOutOfMemory, SetNoPartialResize, acts_of}
use Rattle.blob_explore.proofs.SharedRuns.{shares}
use Rattle.blob_explore.proofs.shared.make_first.Goals as goal

pub returns-in-Some-eq1-clause-made : goal.returns-in-Some-eq1-clause-made
returns-in-Some-eq1-clause-made c =
    let script = c.args.script.now in
    let replies = c.in_ok-replies.replies.items in
    let printed : c.deref-3.result.now ≡ replies = search rules in
    let served : NoneOutOfMemory replies = subst NoneOutOfMemory printed c.if-is_short.ensures in
    let runs : RunsTo c.args.lab.now (take c.in_ok-count.count script.calls.items) replies c.run.new.self = search rules in
    let sizes : SetNoPartialResize (acts_of (take c.in_ok-count.count script.calls.items)) = search rules in
    let left : Option ℕ → Type 0 = λ found. IfSome found (λ n. (v : State) → LabStandsFor c.run.new.self v → EndsAfter v.stream n) in
    let one : (v : State) → LabStandsFor c.run.new.self v → EndsAfter v.stream 1 =
    subst left (c.in-Some-eq1.is ∙ ap (λ (n : ℕ). Some n) c.in-Some-eq1.field-0-test) c.words_left.ensures.left in
    shares c.outcomes.ensures.run c.taken_words.ensures c.leaves.ensures c.seeds.ensures script c.args.lab.now c.run.new.self c.in_ok-count.count replies
    (search (rules, arith)) sizes runs served one
