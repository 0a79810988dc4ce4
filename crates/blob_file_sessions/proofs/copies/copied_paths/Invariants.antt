use Rattle.std.proofs.Common.{◌≡◌, take}
use Rattle.blob_file_sessions.specs.Copies.{paths_of}
use Rattle.blob_file_sessions.proofs.copies.copied_paths.Given as goal

abbrev pub invariant-loop-entry : goal.invariant-loop-entry
invariant-loop-entry l = paths_of l.copy.items ≡ paths_of (take l.entry-index l.entries)
