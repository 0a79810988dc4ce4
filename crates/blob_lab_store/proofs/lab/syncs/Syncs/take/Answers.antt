use Rattle.blob_lab_store.specs.Slots.{values_of}
use Rattle.blob_lab_store.specs.Tables.{started_by}
use Rattle.blob_lab_store.proofs.EmptySlots.{taken_seen}
use Rattle.blob_lab_store.proofs.lab.syncs.Syncs.take.Goals as goal

pub returns-clause-taken : goal.returns-clause-taken
returns-clause-taken c = taken_seen started_by c.take.result (values_of c.args.self.now.slots) (values_of c.take.new.self) c.args.number c.take.ensures.taken
