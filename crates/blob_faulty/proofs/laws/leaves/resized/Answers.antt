use Rattle.std.proofs.Common.{false, ap, ◌∙◌, ⊎_elim}
use Rattle.blob_draws.specs.Faults.{resize_fate}
use Rattle.blob_draws.specs.Recorded.{recorded_resize}
use Rattle.blob_faulty.proofs.FoundSteps.{leaves_added}
use Rattle.blob_faulty.proofs.laws.leaves.resized.Goals as goal

pub returns : goal.returns
returns g c = λ old new o test next config size len stream answer named adds keeps cuts k.
    leaves_added g.S.Durable.place g.S.Durable.directory g.S.Durable.durable old new o test named k (recorded_resize (resize_fate config size len stream).0 len answer) adds next
    (λ x passes. ap next (c.resizes.ensures config size len stream x answer (λ _ _. false)).0 ∙ keeps x passes)
    (λ x t passes fits. ⊎_elim
    (λ same. ap next same ∙ keeps x passes)
    (λ cut. ap next cut.1 ∙ cuts x cut.0 passes cut.2)
    (c.resizes.ensures config size len stream x answer t).1)
