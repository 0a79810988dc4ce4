use Rattle.std.proofs.Common.{refl, ap}
use Rattle.blob_lab_model.specs.Scripted.{scripted_stream}
use Rattle.blob_lab_store.proofs.NamedCalls.{admit_done}
use Rattle.blob_lab_store.proofs.lab.Lab.admit.Goals as goal

pub returns : goal.returns
returns c = admit_done c.args.self.now _ refl refl refl c.admit.ensures.numbers.config c.args.partition.now c.args.name.now (ap scripted_stream c.admit.ensures.rng) c.admit.ensures.stands
