use Rattle.std.proofs.Common.{length}
use Rattle.blob_explain.proofs.Explaining.{Told}
use Rattle.blob_explain.proofs.explain.explained.Given as goal

abbrev pub invariant-lines : goal.invariant-lines
invariant-lines l = Told l.initial.rest l.rest l.text.items

abbrev pub decreases-lines : goal.decreases-lines
decreases-lines l = length l.rest
