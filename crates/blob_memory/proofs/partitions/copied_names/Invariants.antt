use Rattle.std.proofs.Common.{◌≡◌, ◌++◌}
use Rattle.std.specs.Prelude.{map}
use Rattle.std.specs.BTreeMap.{keys}
use Rattle.blob_memory.proofs.partitions.copied_names.Given as goal

abbrev pub invariant-loop-name : goal.invariant-loop-name
invariant-loop-name l = map (λ n. n.items) l.all.items ++ map (λ k. k.items) l.name-iterator ≡ map (λ k. k.items) (keys l.names)
