use Rattle.blob_lab_model.proofs.LabLaws.{removed_base, removed_log, removed_file}
use Rattle.blob_lab_model.proofs.laws.removals.Goals as goal

pub returns-clause-base : goal.returns-clause-base
returns-clause-base c = removed_base

pub returns-clause-log : goal.returns-clause-log
returns-clause-log c = removed_log

pub returns-clause-files : goal.returns-clause-files
returns-clause-files c = removed_file
