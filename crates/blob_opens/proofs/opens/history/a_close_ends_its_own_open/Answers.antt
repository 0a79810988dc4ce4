use Rattle.blob_opens.proofs.OpenHistory.{numbers_below, close_leaves}
use Rattle.blob_opens.proofs.opens.history.a_close_ends_its_own_open.Goals as goal

pub returns-clause-below : goal.returns-clause-below
returns-clause-below c = numbers_below

pub returns-clause-others : goal.returns-clause-others
returns-clause-others c = λ h r p n k e o. close_leaves h r p n k e o
