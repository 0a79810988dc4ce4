use Rattle.std.proofs.Common.{◌≡◌, take, string_bytes}
use Rattle.blob_memory.specs.Store.{raw_blob}
use Rattle.blob_states.specs.Crashed.{image_lines}
use Rattle.blob_states.specs.Recorded.{names_of}
use Rattle.blob_states.proofs.images.image_lines.Given as goal

abbrev pub invariant-loop-name : goal.invariant-loop-name
invariant-loop-name l = string_bytes l.lines ≡ image_lines (raw_blob l.store) (names_of (take l.name-index l.names))
