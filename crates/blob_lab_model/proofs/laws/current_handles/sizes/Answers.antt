use Rattle.blob_lab_model.proofs.ReachedStates.{current_sized, current_told}
use Rattle.blob_lab_model.proofs.laws.current_handles.sizes.Goals as goal

pub returns-clause-tracked : goal.returns-clause-tracked
returns-clause-tracked c = current_sized

pub returns-clause-told : goal.returns-clause-told
returns-clause-told c = current_told
