use Rattle.blob_lab_model.proofs.RunSteps.{run_append, reached_start, reached_more, reached_strictly}
use Rattle.blob_lab_model.proofs.laws.runs_go_on.Goals as goal

pub returns-clause-runs : goal.returns-clause-runs
returns-clause-runs c v w u calls more replies rest = run_append calls replies more rest v w u

pub returns-clause-start : goal.returns-clause-start
returns-clause-start c = reached_start

pub returns-clause-reached : goal.returns-clause-reached
returns-clause-reached c = reached_more

pub returns-clause-exclusively : goal.returns-clause-exclusively
returns-clause-exclusively c = reached_strictly
