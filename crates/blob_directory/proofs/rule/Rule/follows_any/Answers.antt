use Rattle.std.proofs.Common.{◌<◌, ◌≤◌, ℕ, true, rules, sym, ◌∙◌}
use Rattle.blob_directory.specs.Profiles.{Rule}
use Rattle.blob_directory.specs.Rules.{rule_in}
use Rattle.blob_directory.proofs.Rules.{follows_here, follows_none}
use Rattle.blob_directory.proofs.rule.Rule.follows_any.Goals as goal

pub returns-then-is_followed : goal.returns-then-is_followed
returns-then-is_followed c =
    let rule : Rule = rule_in c.args.self.now in
    let number : ℕ = c.loop-number.number in
    let low : c.args.first ≤ number = search rules in
    let high : number < c.args.end = search rules in
    sym (follows_here rule c.args.first number c.args.end low high (sym c.is_followed.ensures ∙ c.if-is_followed.true))

pub loop-number-preserved : goal.loop-number-preserved
loop-number-preserved c =
    let rule : Rule = rule_in c.args.self.now in
    let number : ℕ = c.loop-number.number in
    let low : c.args.first ≤ number = search rules in
    follows_none rule c.args.first number low c.loop-number.invariant (sym c.is_followed.ensures ∙ c.if-is_followed.false)
