use Rattle.std.proofs.Common.{rules, ◌≡◌, ◌++◌, length, ◌∙◌, ap, sym, string_bytes}
use Rattle.std.proofs.lemmas.List.{length-map}
use Rattle.std.proofs.lemmas.Result.{on_ok_weaker}
use Rattle.blob_distinct.specs.Distinct.{outcome_at, outcomes_in}
use Rattle.blob_distinct.specs.Printed.{found_text, leaves_text}
use Rattle.blob_distinct.proofs.Printing.{two_parts}
use Rattle.blob_distinct.proofs.explored.print_end.Goals as goal

pub returns : goal.returns
returns c =
    let explored = c.args.explored.now in
    let all = explored.is_complete in
    let old = string_bytes c.args.printed.now in
    let mid = string_bytes c.print_leaves.new.printed in
    let leaves = leaves_text explored.leaves in
    let same : c.len-count.result ≡ length explored.outcomes.entries = search rules in
    let count : c.len-count.result ≡ length (outcomes_in explored.outcomes) = same ∙ sym (length-map explored.outcomes.entries outcome_at) in
    let first : mid ≡ old ++ leaves = search rules in
    on_ok_weaker c.print_found.result (λ then.
    two_parts old mid _ leaves (found_text c.len-count.result all) first then ∙ ap (λ n. old ++ (leaves ++ found_text n all)) count)
    c.print_found.ensures
