use Rattle.std.proofs.Common.{rules, ◌≡◌, ◌<◌, ◌^◌, ◌-◌, ◌+◌, ℕ, List, Some, None, map, string_bytes, ap, ◌∙◌, arith, refl}
use Rattle.std.specs.Map.{lookup}
use Rattle.blob_distinct.specs.Distinct.{leaf_text, outcome_at, with_leaf}
use Rattle.std.specs.String.{string_eq}
use Rattle.indexmap.specs.IndexMap.{insert_entry}
use Rattle.blob_distinct.specs.declared.tally.Outcome.{Outcome}
use Rattle.blob_distinct.proofs.Outcomes.{Entries, added, counted, found_fits, is_at}
use Rattle.blob_distinct.proofs.tally.tally.Goals as goal

pub returns-in-Some : goal.returns-in-Some
returns-in-Some c = λ fit.
    let text : List ℕ = c.as_str.result.now in
    let old : Outcome = c.in-Some.outcome.now in
    let new : Outcome = record { leaves = c.saturating_add-outcome.result; words = old.words } in
    let es = c.args.outcomes.now.entries in
    let found : lookup (is_at text) es ≡ Some old = search rules in
    let small : old.leaves < 2 ^ 64 - 1 = found_fits text (2 ^ 64 - 1) old es found fit in
    let more : new.leaves ≡ old.leaves + 1 = omega (arith, small, c.saturating_add-outcome.ensures) in
    let same : text ≡ string_bytes c.args.text = search rules in
    ap (map outcome_at) (c.get_mut.follows.holds new).0 ∙ counted text c.args.words.items old new es found more (λ _. old.words)
    ∙ ap (λ (t : List ℕ). with_leaf (map outcome_at es) (leaf_text c.args.words.items t)) same

pub returns : goal.returns
returns c = λ fit.
    let none : lookup (is_at (string_bytes c.args.text)) c.args.outcomes.now.entries ≡ None = search rules in
    let same : c.get_mut.follows.lender-at-none.entries ≡ c.args.outcomes.now.entries = search rules in
    let new : Outcome = record { leaves = 1; words = c.args.words } in
    ap (map outcome_at) (c.in_ok-insert.ensures.entries ∙ ap (λ (es : Entries). insert_entry string_eq es c.args.text new) same)
    ∙ added c.args.text new c.args.outcomes.now.entries none refl
