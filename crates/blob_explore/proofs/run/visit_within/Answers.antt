use Rattle.std.proofs.Common.{rules, ◌≡◌, ◌-◌, ◌++◌, length, subst}
use Rattle.blob_choices.specs.Outcomes.{NoneOutOfMemory}
use Rattle.blob_explore.proofs.Runs.{none_both, takes}
use Rattle.blob_explore.proofs.run.visit_within.Goals as goal

pub returns-in_ok-words-in-Some-clause-ok : goal.returns-in_ok-words-in-Some-clause-ok
returns-in_ok-words-in-Some-clause-ok c shared =
    let given = c.in_ok-words.words.items in
    let first = c.args.shared.now.replies.items in
    let own = c.in_ok-replies.replies.items in
    let replies : c.deref.result.now ≡ own = search rules in
    let there : NoneOutOfMemory own = subst NoneOutOfMemory replies c.if-is_short.ensures in
    let taken : c.saturating_sub.result ≡ length given - c.in-Some.left = search rules in
    takes c.taken_words.ensures c.args.script.now c.args.explorer.now c.args.spare c.in-Some.left c.saturating_sub.result (first ++ own) given _ c.in_ok-replies.left
    c.in_ok-words.ensures.words c.in_ok-words.ensures.len (c.in_ok-replies.ensures.ok shared) c.in-Some.is (none_both first own shared.served there)
    c.if-left-gt0.true taken c.in_ok-words-in-Some.ensures
