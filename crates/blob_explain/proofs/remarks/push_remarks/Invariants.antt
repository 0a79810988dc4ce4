use Rattle.blob_explain.specs.Explained.{IsRemarking}
use Rattle.blob_explain.proofs.remarks.push_remarks.Given as goal

abbrev pub invariant-loop-byte : goal.invariant-loop-byte
invariant-loop-byte l = IsRemarking l.initial.to.items l.to.items l.line.items
