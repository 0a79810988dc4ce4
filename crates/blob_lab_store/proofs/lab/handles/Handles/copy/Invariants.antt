use Rattle.std.proofs.Common.{◌≡◌, ◌≤◌, map, take, vec_len, vec_capacity}
use Rattle.std.specs.Prelude.{option_map}
use Rattle.blob_opens.specs.Opens.{names_of}
use Rattle.blob_lab_store.specs.Tables.{as_held}
use Rattle.blob_lab_store.proofs.lab.handles.Handles.copy.Given as goal

abbrev pub invariant-loop-slot : goal.invariant-loop-slot
invariant-loop-slot l = record {
  len : vec_len l.values ≡ l.slot-index;
  room : vec_len l.self.slots.values ≤ vec_capacity l.values;
  values : map (option_map as_held) l.values.items ≡ map (option_map as_held) (take l.slot-index l.self.slots.values.items);
  names : names_of l.opens ≡ names_of l.fn.opens;
}
