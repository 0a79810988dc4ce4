use Rattle.std.proofs.Common.{rules, ◌≡◌, ◌++◌, map, string_bytes, ap, ◌∙◌}
use Rattle.std.specs.List.{flat_map}
use Rattle.std.specs.Map.Iter.{deref_pair}
use Rattle.std.proofs.lemmas.Map.Iter.{iter_end}
use Rattle.blob_distinct.specs.Distinct.{behind, outcome_at, outcomes_in}
use Rattle.blob_distinct.specs.Explored.{outcomes_found}
use Rattle.blob_distinct.specs.Printed.{end_text, outcome_text}
use Rattle.blob_distinct.proofs.Behind.{same_end}
use Rattle.blob_distinct.proofs.explored.print_explored.Goals as goal

pub returns : goal.returns
returns c =
    let explored = c.args.explored.now in
    let all : map deref_pair c.loop-text.yielded ≡ explored.outcomes.entries = search (rules, iter_end) in
    let outcomes : string_bytes c.loop-text.printed ≡ flat_map outcome_text (outcomes_found explored) =
    c.loop-text.invariant ∙ ap (λ es. flat_map outcome_text (map (behind (string_bytes explored.shared)) (map outcome_at es))) all in
    let front = string_bytes explored.shared in
    c.in_ok-print_end.ensures ∙ ap (λ t. string_bytes c.loop-text.printed ++ t) (same_end front (outcomes_in explored.outcomes) explored.leaves explored.is_complete)
    ∙ ap (λ t. t ++ end_text (outcomes_found explored) explored.leaves explored.is_complete) outcomes
