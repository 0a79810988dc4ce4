use Rattle.blob_faulty.proofs.Keeping.{keeps_open}
use Rattle.blob_faulty.proofs.Naming.{opened_steps}
use Rattle.blob_faulty.proofs.laws.keeps.accepted_opens.Goals as goal

pub returns : goal.returns
returns g c = λ old new p n first last at live version o bytes is left k.
    keeps_open g.S.Durable.place g.S.Durable.directory g.S.Durable.durable old new p n first last
    (opened_steps g.S.Durable.place g.S.Durable.directory g.S.Durable.durable old new p n first last at live version is left.records) o bytes k at live version is
