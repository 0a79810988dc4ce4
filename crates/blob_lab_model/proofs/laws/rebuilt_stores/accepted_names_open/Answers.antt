use Rattle.blob_lab_model.proofs.OpensAgain.{opens_file, opens_kept}
use Rattle.blob_lab_model.proofs.laws.rebuilt_stores.accepted_names_open.Goals as goal

pub returns-clause-kept : goal.returns-clause-kept
returns-clause-kept c = opens_kept

pub returns-clause-told : goal.returns-clause-told
returns-clause-told c w p n first last version size valid file accepts free = opens_file w p n first last version accepts free size valid file
