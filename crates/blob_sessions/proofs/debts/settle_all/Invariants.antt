use Rattle.blob_sessions.proofs.debts.settle_all.Given as goal

abbrev pub decreases-loop-slot : goal.decreases-loop-slot
decreases-loop-slot l = goal.left-loop-slot l
