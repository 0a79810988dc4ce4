use Rattle.std.proofs.Common.{false}
use Rattle.blob_model.specs.Log.{durable_after, replay_log}
use Rattle.blob_draws.specs.Recorded.{recorded_write}
use Rattle.blob_faulty.specs.Wrapper.{rng_of, config_of, next_write_of}
use Rattle.blob_faulty.proofs.FoundSteps.{fits_none, leaves_added}
use Rattle.blob_faulty.proofs.laws.leaves.written.Goals as goal

pub returns : goal.returns
returns g c = λ old new o test next offset bytes sync answer named adds each k.
    let stream = g.R.Rng.stream (rng_of old) in
    let es = recorded_write (config_of old) (next_write_of old) stream sync offset bytes answer in
    leaves_added g.S.Durable.place g.S.Durable.directory g.S.Durable.durable old new o test named k es adds next
    (λ x passes. each x (durable_after x es) passes (c.writes.ensures (config_of old) (next_write_of old) stream sync offset bytes x answer (λ _ _. false) (fits_none es)).1)
    (λ x t passes fits. each x (replay_log x es t) passes (c.writes.ensures (config_of old) (next_write_of old) stream sync offset bytes x answer t fits).0)
