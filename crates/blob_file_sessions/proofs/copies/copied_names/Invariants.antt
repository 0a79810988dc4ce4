use Rattle.std.proofs.Common.{◌≡◌, take}
use Rattle.blob_file_sessions.specs.Copies.{bindings_of}
use Rattle.blob_file_sessions.proofs.copies.copied_names.Given as goal

abbrev pub invariant-loop-entry : goal.invariant-loop-entry
invariant-loop-entry l = bindings_of l.copy.items ≡ bindings_of (take l.entry-index l.names)
