use Rattle.std.proofs.Common.{◌≡◌, ◌++◌}
use Rattle.std.specs.BTreeMap.{values}
use Rattle.blob_memory.specs.Numbers.{numbers_held}
use Rattle.blob_memory.proofs.partitions.numbers_in.Given as goal

abbrev pub invariant-loop-item : goal.invariant-loop-item
invariant-loop-item l = l.numbers.items ++ numbers_held l.item-iterator ≡ numbers_held (values l.names)
