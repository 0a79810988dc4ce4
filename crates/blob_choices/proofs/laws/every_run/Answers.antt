use Rattle.blob_choices.proofs.EveryRun.{hold_every_run}
use Rattle.blob_choices.proofs.laws.every_run.Goals as goal

pub returns : goal.returns
returns c = hold_every_run
