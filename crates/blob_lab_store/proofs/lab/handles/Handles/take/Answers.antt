use Rattle.blob_lab_store.specs.Slots.{values_of}
use Rattle.blob_lab_store.specs.Tables.{as_held}
use Rattle.blob_lab_store.proofs.EmptySlots.{emptied_seen, taken_seen}
use Rattle.blob_lab_store.proofs.lab.handles.Handles.take.Goals as goal

pub returns-clause-taken : goal.returns-clause-taken
returns-clause-taken c = taken_seen as_held c.take.result (values_of c.args.self.now.slots) (values_of c.take.new.self) c.args.number c.take.ensures.taken

pub returns-clause-empty : goal.returns-clause-empty
returns-clause-empty c = emptied_seen as_held c.take.result (values_of c.args.self.now.slots) (values_of c.take.new.self) c.args.number c.take.ensures.taken
