use Rattle.blob_faulty.proofs.FoundSteps.{leaves_admitted, leaves_same}
use Rattle.blob_faulty.proofs.Naming.{same_steps}
use Rattle.blob_faulty.proofs.laws.leaves.same_bytes.Goals as goal

pub returns-clause-unrecorded : goal.returns-clause-unrecorded
returns-clause-unrecorded g c = λ old new o test named same kept k.
    leaves_same g.S.Durable.place g.S.Durable.directory g.S.Durable.durable old new o test named k (same_steps g.S.Durable.place g.S.Durable.directory g.S.Durable.durable old new named same kept)

pub returns-clause-same : goal.returns-clause-same
returns-clause-same g c = λ old new o test named steps k. leaves_same g.S.Durable.place g.S.Durable.directory g.S.Durable.durable old new o test named k steps

pub returns-clause-admitted : goal.returns-clause-admitted
returns-clause-admitted g c = λ old new p n o test named steps k. leaves_admitted g.S.Durable.place g.S.Durable.directory g.S.Durable.durable old new o test named k p n steps
