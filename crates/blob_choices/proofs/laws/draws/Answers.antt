use Rattle.blob_choices.proofs.Draws.{decided_sampled, decided_positions, decided_drawn}
use Rattle.blob_choices.proofs.laws.draws.Goals as goal

pub returns-clause-one : goal.returns-clause-one
returns-clause-one c = decided_sampled

pub returns-clause-write : goal.returns-clause-write
returns-clause-write c = decided_positions

pub returns-clause-crash : goal.returns-clause-crash
returns-clause-crash c = decided_drawn
