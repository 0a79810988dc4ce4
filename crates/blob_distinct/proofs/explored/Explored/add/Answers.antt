use Rattle.std.proofs.Common.{arith, ◌≡◌, ◌+◌, ◌++◌, ◌∷◌, [], ◌∙◌, ap, sym, length, string_bytes}
use Rattle.std.proofs.lemmas.List.{length-append}
use Rattle.blob_distinct.specs.Distinct.{LeafText, leaf_text, outcomes_in}
use Rattle.blob_distinct.proofs.Behind.{counts_more}
use Rattle.blob_distinct.proofs.explored.Explored.add.Goals as goal

pub returns-clause-counts : goal.returns-clause-counts
returns-clause-counts c = λ leaves few before.
    let old = c.args.self.now in
    let words = c.args.words.items in
    let text = string_bytes c.args.text in
    let front = string_bytes old.shared in
    let leaf : LeafText = leaf_text words (front ++ text) in
    let one : length (leaves ++ leaf ∷ []) ≡ length leaves + 1 = length-append leaves (leaf ∷ []) in
    record {
      count = omega (arith, one, few, before.count, c.saturating_add-self.ensures);
      outcomes = counts_more front words text (outcomes_in old.outcomes) (outcomes_in c.tally.new.outcomes) leaves c.in_ok-tally.ensures before.outcomes few;
    }
