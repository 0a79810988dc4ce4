use Rattle.blob_lab_store.proofs.lab.handles.close_values.Given as goal

abbrev pub decreases-loop-slot : goal.decreases-loop-slot
decreases-loop-slot l = goal.left-loop-slot l
