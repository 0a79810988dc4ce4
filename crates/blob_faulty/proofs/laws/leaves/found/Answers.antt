use Rattle.blob_faulty.proofs.FoundSteps.{leaves_found, leaves_weaker}
use Rattle.blob_faulty.proofs.laws.leaves.found.Goals as goal

pub returns-clause-found : goal.returns-clause-found
returns-clause-found g c = leaves_found g.S.Durable.place g.S.Durable.directory g.S.Durable.durable

pub returns-clause-weaker : goal.returns-clause-weaker
returns-clause-weaker g c = leaves_weaker g.S.Durable.place g.S.Durable.directory g.S.Durable.durable
