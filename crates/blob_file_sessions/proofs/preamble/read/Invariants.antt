use Rattle.std.proofs.Common.{◌+◌, ◌≤◌, length}
use Rattle.blob_file_sessions.proofs.preamble.read.Given as goal

abbrev pub invariant-lines : goal.invariant-lines
invariant-lines l = l.number + length l.rest ≤ length l.fn.text

abbrev pub decreases-lines : goal.decreases-lines
decreases-lines l = length l.rest
