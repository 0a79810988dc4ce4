use Rattle.blob_faulty.proofs.Keeping.{keeps_same, keeps_front}
use Rattle.blob_faulty.proofs.Naming.{same_steps}
use Rattle.blob_faulty.proofs.laws.keeps.unrecorded_calls.Goals as goal

pub returns-clause-keeps : goal.returns-clause-keeps
returns-clause-keeps g c = λ old new o bytes named same kept k.
    keeps_same g.S.Durable.place g.S.Durable.directory g.S.Durable.durable old new o bytes named k (same_steps g.S.Durable.place g.S.Durable.directory g.S.Durable.durable old new named same kept)

pub returns-clause-front : goal.returns-clause-front
returns-clause-front g c = keeps_front g.S.Durable.place g.S.Durable.directory g.S.Durable.durable
