use Rattle.blob_faulty.proofs.Naming.{opened_steps, same_steps}
use Rattle.blob_faulty.proofs.laws.names.opens.Goals as goal

pub returns-clause-accepted : goal.returns-clause-accepted
returns-clause-accepted g c = λ before after p n first last o live version is left. opened_steps g.S.Durable.place g.S.Durable.directory g.S.Durable.durable before after p n first last o live version is left.records

pub returns-clause-refused : goal.returns-clause-refused
returns-clause-refused g c = λ before after p n first last r named kept left. same_steps g.S.Durable.place g.S.Durable.directory g.S.Durable.durable before after named kept left.records
