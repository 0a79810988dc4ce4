use Rattle.std.proofs.Common.{◌-◌}
use Rattle.blob_explain.proofs.picture.alike_until.Given as goal

abbrev pub decreases-loop-next : goal.decreases-loop-next
decreases-loop-next l = l.limit - l.next
