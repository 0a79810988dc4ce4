use Rattle.blob_lab_model.proofs.OpensAgain.{finds_held, opens_held, opens_rebuilt}
use Rattle.blob_lab_model.proofs.ReachedStates.{reached_valid}
use Rattle.blob_lab_model.proofs.laws.rebuilt_stores.accepted_names_open_again.Goals as goal

pub returns-clause-found : goal.returns-clause-found
returns-clause-found c v rest p n first last version number layout accepts held = finds_held v rest p n first last version accepts number layout held

pub returns-clause-told : goal.returns-clause-told
returns-clause-told c v rest p n first last version number layout reached accepts held =
    opens_held v rest p n first last version accepts number layout held (reached_valid v p n number layout version reached held)

pub returns-clause-kept : goal.returns-clause-kept
returns-clause-kept c = opens_rebuilt
