use Rattle.std.proofs.Common.{◌≡◌, ◌++◌, false, map, take, drop}
use Rattle.blob_directory.specs.Syncs.{marked}
use Rattle.blob_directory.proofs.unsettled_edits.pass_over.Given as goal

abbrev pub invariant-loop-at : goal.invariant-loop-at
invariant-loop-at l = l.edits ≡ map (marked (λ _. false)) (take l.at l.fn.edits) ++ drop l.at l.fn.edits
