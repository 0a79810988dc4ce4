use Rattle.std.proofs.Common.{◌≡◌, ◌++◌, map, string_bytes}
use Rattle.std.specs.List.{flat_map}
use Rattle.std.specs.Map.Iter.{deref_pair}
use Rattle.blob_states.specs.Printed.{state_text}
use Rattle.blob_distinct.specs.Found.{state_in}
use Rattle.blob_states.proofs.print.print_states.Given as goal

abbrev pub invariant-loop-lines : goal.invariant-loop-lines
invariant-loop-lines l = string_bytes l.printed ≡ string_bytes l.fn.printed ++ flat_map (state_text l.calls) (map state_in (map deref_pair l.yielded))
