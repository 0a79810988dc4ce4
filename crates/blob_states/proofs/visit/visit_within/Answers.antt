use Rattle.std.proofs.Common.{rules, ◌≡◌, ◌-◌, length, string_bytes}
use Rattle.blob_states.specs.Recorded.{names_of}
use Rattle.blob_states.proofs.Crashing.{takes}
use Rattle.blob_states.proofs.visit.visit_within.Goals as goal

pub returns-in_ok-words-in-Some-clause-ok : goal.returns-in_ok-words-in-Some-clause-ok
returns-in_ok-words-in-Some-clause-ok c v stands =
    let given = c.in_ok-words.words.items in
    let taken : c.saturating_sub.result ≡ length given - c.in-Some.left = search rules in
    takes c.taken_words.ensures v (names_of c.args.names.now) c.args.explorer.now c.args.spare c.in-Some.left c.saturating_sub.result
    (string_bytes c.in_ok-lines.lines) given _ c.in_ok-lines.left c.in_ok-words.ensures.words c.in_ok-words.ensures.len (c.in_ok-lines.ensures.ok v stands)
    c.in-Some.is c.if-left-gt0.true taken c.in_ok-words-in-Some.ensures
