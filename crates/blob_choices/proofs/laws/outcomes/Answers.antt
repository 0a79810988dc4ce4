use Rattle.blob_choices.proofs.Calls.{decided_call}
use Rattle.blob_choices.proofs.TwoWords.{decided_run}
use Rattle.blob_choices.proofs.laws.outcomes.Goals as goal

pub returns-clause-call : goal.returns-clause-call
returns-clause-call c = decided_call

pub returns-clause-run : goal.returns-clause-run
returns-clause-run c v acts = decided_run acts v
