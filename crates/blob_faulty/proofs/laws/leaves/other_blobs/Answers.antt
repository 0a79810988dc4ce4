use Rattle.std.proofs.Common.{⊎_elim}
use Rattle.blob_faulty.proofs.FoundSteps.{leaves_beside, published_beside, started_beside}
use Rattle.blob_faulty.proofs.laws.leaves.other_blobs.Goals as goal

pub returns-clause-recorded : goal.returns-clause-recorded
returns-clause-recorded g c = λ old new a o test entries given other named adds k.
    leaves_beside g.S.Durable.place g.S.Durable.directory g.S.Durable.durable old new o test named k a entries given adds other

pub returns-clause-synced : goal.returns-clause-synced
returns-clause-synced g c = λ old new a o test live given other named done k. ⊎_elim
    (λ published. published_beside g.S.Durable.place g.S.Durable.directory g.S.Durable.durable old new o test named k a live published other)
    (λ started. started_beside g.S.Durable.place g.S.Durable.directory g.S.Durable.durable old new o test named k a live given started other)
    done
