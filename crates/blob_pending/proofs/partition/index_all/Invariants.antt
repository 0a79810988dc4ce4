use Rattle.std.proofs.Common.{take}
use Rattle.blob_pending.specs.Numbers.{AreIndexed}
use Rattle.blob_pending.proofs.partition.index_all.Given as goal

abbrev pub invariant-loop-list : goal.invariant-loop-list
invariant-loop-list g l = AreIndexed g.S.Durable.place (take l.list-index l.lists) l.numbers.keys l.searched
