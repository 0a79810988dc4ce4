use Rattle.blob_journal.proofs.Bindings.{freed_is_not_named, freed_now, freed_one_more, freed_settled, kept_may_name, may_name_one_more, may_name_settled, within_given, within_one_more, within_settled}
use Rattle.blob_journal.proofs.laws.bindings.Goals as goal

pub returns-clause-kept : goal.returns-clause-kept
returns-clause-kept c = kept_may_name

pub returns-clause-one_more : goal.returns-clause-one_more
returns-clause-one_more c = may_name_one_more

pub returns-clause-settled : goal.returns-clause-settled
returns-clause-settled c = may_name_settled

pub returns-clause-within_one_more : goal.returns-clause-within_one_more
returns-clause-within_one_more c = within_one_more

pub returns-clause-within_settled : goal.returns-clause-within_settled
returns-clause-within_settled c = within_settled

pub returns-clause-within_given : goal.returns-clause-within_given
returns-clause-within_given c = within_given

pub returns-clause-freed : goal.returns-clause-freed
returns-clause-freed c = freed_now

pub returns-clause-freed_one_more : goal.returns-clause-freed_one_more
returns-clause-freed_one_more c = freed_one_more

pub returns-clause-freed_settled : goal.returns-clause-freed_settled
returns-clause-freed_settled c = freed_settled

pub returns-clause-not_named : goal.returns-clause-not_named
returns-clause-not_named c = freed_is_not_named
