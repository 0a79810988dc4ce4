use Rattle.std.proofs.Common.{◌≡◌, ◌≤◌, ◌-◌, ℕ, List, string_bytes}
use Rattle.blob_file_scripts.specs.SharedLines.{IsShared, front_of}
use Rattle.blob_file_scripts.proofs.Exploring.{Finding, start_of}
use Rattle.blob_file_scripts.proofs.explored.visit_leaves.Given as goal

abbrev pub invariant-visits : goal.invariant-visits
invariant-visits l = record {
  most : l.found.leaves ≤ l.limit;
  front : string_bytes l.found.shared ≡ front_of l.shared l.last;
  found : (script : List ℕ) → (is : IsShared script l.last l.shared) → Finding script l.last (start_of script l.last l.shared is) l.found l.explorer;
}

abbrev pub decreases-visits : goal.decreases-visits
decreases-visits l = l.limit - l.found.leaves
