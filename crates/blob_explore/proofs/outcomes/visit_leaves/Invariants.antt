use Rattle.std.proofs.Common.{◌≡◌, ◌≤◌, ◌-◌, string_bytes}
use Rattle.blob_explore.specs.Outcomes.{shared_text}
use Rattle.blob_explore.specs.SharedCalls.{HasShared, shared_replies}
use Rattle.blob_explore.proofs.Exploring.{Found}
use Rattle.blob_explore.proofs.outcomes.visit_leaves.Given as goal

abbrev pub invariant-visits : goal.invariant-visits
invariant-visits l = record {
  most : l.found.leaves ≤ l.limit;
  shared : HasShared l.fn.exploration → HasShared l.exploration;
  replies : shared_replies l.exploration ≡ shared_replies l.fn.exploration;
  front : string_bytes l.found.shared ≡ shared_text l.last (shared_replies l.fn.exploration);
  visited : Found l.fn.exploration l.last l.exploration l.found;
}

abbrev pub decreases-visits : goal.decreases-visits
decreases-visits l = l.limit - l.found.leaves
