use Rattle.std.proofs.Common.{refl}
use Rattle.std.specs.Prelude.{option_copied}
use Rattle.blob_header.specs.Refusals.{refusal_of}
use Rattle.blob_lab_store.proofs.NamedCalls.{remove_done, remove_failed}
use Rattle.blob_lab_store.proofs.lab.Lab.remove.Goals as goal

pub returns-in-Ok : goal.returns-in-Ok
returns-in-Ok c =
    remove_done c.args.self.now _ refl refl c.in-Ok.ensures.leaves.numbers.config c.args.partition.now (option_copied c.args.name) c.in-Ok.ensures.leaves.drawn c.in-Ok.ensures.allowed c.in-Ok.ensures.ended
    (c.removals.ensures.accepted c.args.self.now.wrapper c.remove.new.store c.args.partition.now (option_copied c.args.name) c.in-Ok.ensures.directory c.in-Ok.ensures.durable c.in-Ok.ensures.leaves)

pub returns-in-Err : goal.returns-in-Err
returns-in-Err c =
    remove_failed c.args.self.now _ refl refl c.in-Err.ensures.leaves.numbers.config c.args.partition.now (option_copied c.args.name) c.in-Err.ensures.leaves.drawn _ c.in-Err.ensures.allowed c.in-Err.ensures.err
    (c.removals.ensures.refused c.args.self.now.wrapper c.remove.new.store c.args.partition.now (option_copied c.args.name) (refusal_of c.in-Err.e) c.in-Err.ensures.kept.0 c.in-Err.ensures.kept.1 c.in-Err.ensures.leaves)
