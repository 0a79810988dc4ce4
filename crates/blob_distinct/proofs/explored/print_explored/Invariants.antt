use Rattle.std.proofs.Common.{◌≡◌, string_bytes, map}
use Rattle.std.specs.List.{flat_map}
use Rattle.std.specs.Map.Iter.{deref_pair}
use Rattle.blob_distinct.specs.Distinct.{behind, outcome_at}
use Rattle.blob_distinct.specs.Printed.{outcome_text}
use Rattle.blob_distinct.proofs.explored.print_explored.Given as goal

abbrev pub invariant-loop-text : goal.invariant-loop-text
invariant-loop-text l = string_bytes l.printed ≡ flat_map outcome_text (map (behind (string_bytes l.explored.shared)) (map outcome_at (map deref_pair l.yielded)))
