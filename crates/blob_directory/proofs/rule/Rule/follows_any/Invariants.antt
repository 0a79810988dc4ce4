use Rattle.std.proofs.Common.{◌≡◌, ◌-◌, false}
use Rattle.blob_directory.specs.Profiles.{follows_any}
use Rattle.blob_directory.specs.Rules.{rule_in}
use Rattle.blob_directory.proofs.rule.Rule.follows_any.Given as goal

abbrev pub invariant-loop-number : goal.invariant-loop-number
invariant-loop-number l = follows_any (rule_in l.self) l.first (l.number - l.first) ≡ false
