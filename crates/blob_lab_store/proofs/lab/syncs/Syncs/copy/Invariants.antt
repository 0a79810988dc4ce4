use Rattle.std.proofs.Common.{◌≡◌, map, take, vec_len}
use Rattle.std.specs.Prelude.{option_map}
use Rattle.blob_lab_store.specs.Tables.{started_by}
use Rattle.blob_lab_store.proofs.lab.syncs.Syncs.copy.Given as goal

abbrev pub invariant-loop-slot : goal.invariant-loop-slot
invariant-loop-slot l = record {
  len : vec_len l.values ≡ l.slot-index;
  values : map (option_map started_by) l.values.items ≡ map (option_map started_by) (take l.slot-index l.self.slots.values.items);
}
