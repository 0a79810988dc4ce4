use Rattle.std.proofs.Common.{◌≡◌, map, take}
use Rattle.blob_faulty.specs.Pieces.{run_of}
use Rattle.blob_draws.specs.Spans.{pieces}
use Rattle.blob_faulty.proofs.write_runs.Piece.all_of.Given as goal

abbrev pub invariant-loop-span : goal.invariant-loop-span
invariant-loop-span l = map run_of l.all.items ≡ pieces l.offset l.bytes (take l.span-index l.span-items)
