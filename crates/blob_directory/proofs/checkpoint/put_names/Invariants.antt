use Rattle.std.proofs.Common.{◌≡◌, ◌+◌, ◌++◌, take}
use Rattle.blob_packed.specs.Records.{FitFrom, packed_from}
use Rattle.blob_directory.specs.Checkpoints.{bindings_in, settled_records}
use Rattle.blob_directory.proofs.checkpoint.put_names.Given as goal

abbrev pub invariant-loop-name : goal.invariant-loop-name
invariant-loop-name l = record {
  bytes : l.bytes.items ≡ l.fn.bytes.items ++ packed_from l.number (settled_records (bindings_in l.directory (take l.name-index l.names)));
  number : l.next ≡ l.number + l.name-index;
  fit : FitFrom l.number (settled_records (bindings_in l.directory (take l.name-index l.names)));
}
