use Rattle.std.proofs.Common.{ap, map, ◌∙◌}
use Rattle.std.specs.Prelude.{option_map}
use Rattle.blob_lab_store.specs.Slots.{values_of}
use Rattle.blob_lab_store.specs.Tables.{started_by}
use Rattle.blob_lab_store.proofs.EmptySlots.{none_seen}
use Rattle.blob_lab_store.proofs.lab.syncs.Syncs.drop_all.Goals as goal

pub returns : goal.returns
returns c = ap (map (option_map started_by)) c.clear.ensures ∙ none_seen started_by (values_of c.args.self.now.slots)
