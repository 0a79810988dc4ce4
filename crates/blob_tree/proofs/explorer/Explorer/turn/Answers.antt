use Rattle.std.proofs.Common.{rules, arith, sym, ◌∙◌, ap, ◌≡◌, ◌++◌, ◌∷◌, [], true, false, Some}
use Rattle.blob_tree.specs.Trees.{next_path}
use Rattle.blob_tree.proofs.Visits.{next_path-push_true, next_path-push_false}
use Rattle.blob_tree.proofs.explorer.Explorer.turn.Goals as goal

pub returns-then-outcome : goal.returns-then-outcome
returns-then-outcome c =
    let before : c.loop-outcome.self-inside.path.items ≡ c.pop.new.self.items ++ true ∷ [] = grind arith in
    let now : c.push.new.self.items ≡ c.pop.new.self.items ++ false ∷ [] = grind arith in
    let start = c.loop-outcome.invariant in
    let end = start ∙ ap next_path before ∙ next_path-push_true c.pop.new.self.items ∙ ap (λ p. Some p) (sym now) in
    search (rules, end)

pub loop-outcome-preserved : goal.loop-outcome-preserved
loop-outcome-preserved c =
    let before : c.loop-outcome.self-inside.path.items ≡ c.pop.new.self.items ++ false ∷ [] = grind arith in
    c.loop-outcome.invariant ∙ ap next_path before ∙ next_path-push_false c.pop.new.self.items
