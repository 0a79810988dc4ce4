use Rattle.std.proofs.Common.{⊎_elim}
use Rattle.blob_faulty.proofs.FoundSteps.{leaves_published, leaves_started}
use Rattle.blob_faulty.proofs.laws.leaves.synced.Goals as goal

pub returns : goal.returns
returns g c = λ old new o test next live named done passes k. ⊎_elim
    (λ published. leaves_published g.S.Durable.place g.S.Durable.directory g.S.Durable.durable old new o test named k next live published passes)
    (λ started. leaves_started g.S.Durable.place g.S.Durable.directory g.S.Durable.durable old new o test named k next live started passes)
    done
