use Rattle.blob_draws.proofs.CellLaws.{prefix_cell, subset_cell, one_cell}
use Rattle.blob_draws.proofs.cells.every_cell_once.Goals as goal

pub returns-clause-prefix : goal.returns-clause-prefix
returns-clause-prefix c = prefix_cell

pub returns-clause-subset : goal.returns-clause-subset
returns-clause-subset c = subset_cell

pub returns-clause-once : goal.returns-clause-once
returns-clause-once c = one_cell
