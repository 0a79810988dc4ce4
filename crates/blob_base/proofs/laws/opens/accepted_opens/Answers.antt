use Rattle.blob_model.proofs.NameSteps.{read_by_open}
use Rattle.blob_model.proofs.Openings.{version_asked, begins_empty}
use Rattle.blob_model.proofs.Opened.{named_opened, current_opened, goes_on, next_opened}
use Rattle.blob_base.proofs.laws.opens.accepted_opens.Goals as goal

pub returns-clause-named : goal.returns-clause-named
returns-clause-named c = named_opened

pub returns-clause-current : goal.returns-clause-current
returns-clause-current c = current_opened

pub returns-clause-durable : goal.returns-clause-durable
returns-clause-durable c = read_by_open

pub returns-clause-goes_on : goal.returns-clause-goes_on
returns-clause-goes_on c = goes_on

pub returns-clause-next : goal.returns-clause-next
returns-clause-next c = next_opened

pub returns-clause-one_version : goal.returns-clause-one_version
returns-clause-one_version c = version_asked

pub returns-clause-missing_names_begin_empty : goal.returns-clause-missing_names_begin_empty
returns-clause-missing_names_begin_empty c = begins_empty
