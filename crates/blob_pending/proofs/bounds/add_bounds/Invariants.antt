use Rattle.std.proofs.Common.{◌-◌, length, vec_len}
use Rattle.blob_pending.specs.Blocks.{AreBoundedBy}
use Rattle.blob_pending.specs.Views.{views}
use Rattle.blob_pending.proofs.bounds.add_bounds.Given as goal

abbrev pub invariant-loop-bounds : goal.invariant-loop-bounds
invariant-loop-bounds l = AreBoundedBy l.size l.bounds.items (views l.entries)

abbrev pub decreases-loop-bounds : goal.decreases-loop-bounds
decreases-loop-bounds l = length l.entries - vec_len l.bounds
