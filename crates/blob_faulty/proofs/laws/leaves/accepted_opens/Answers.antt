use Rattle.blob_faulty.proofs.FoundSteps.{leaves_opened}
use Rattle.blob_faulty.proofs.Naming.{opened_steps}
use Rattle.blob_faulty.proofs.laws.leaves.accepted_opens.Goals as goal

pub returns : goal.returns
returns g c = λ old new p n first last at live version o test is left k.
    leaves_opened g.S.Durable.place g.S.Durable.directory g.S.Durable.durable old new p n first last
    (opened_steps g.S.Durable.place g.S.Durable.directory g.S.Durable.durable old new p n first last at live version is left.records) o test k at live version is
