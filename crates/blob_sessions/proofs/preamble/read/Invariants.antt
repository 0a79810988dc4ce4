use Rattle.std.proofs.Common.{◌+◌, ◌≤◌, length}
use Rattle.blob_script.specs.Readers.{lines_read}
use Rattle.blob_sessions.specs.Preambles.{IsReadTo}
use Rattle.blob_sessions.proofs.preamble.read.Given as goal

abbrev pub invariant-lines : goal.invariant-lines
invariant-lines l = IsReadTo l.fn.text l.rest l.reader × (lines_read l.reader + length l.rest ≤ length l.fn.text)

abbrev pub decreases-lines : goal.decreases-lines
decreases-lines l = length l.rest
