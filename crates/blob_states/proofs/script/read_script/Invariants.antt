use Rattle.std.proofs.Common.{◌+◌, ◌≤◌, length}
use Rattle.blob_script.specs.Readers.{lines_read}
use Rattle.blob_states.specs.ScriptTexts.{IsRead}
use Rattle.blob_states.proofs.Reading.{IsReadTo}
use Rattle.blob_states.proofs.script.read_script.Given as goal

abbrev pub invariant-lines : goal.invariant-lines
invariant-lines l = record {
  to : IsReadTo l.fn.text l.rest l.reading;
  read : IsRead l.reading;
  few : lines_read l.reading.reader + length l.rest ≤ length l.fn.text;
}

abbrev pub decreases-lines : goal.decreases-lines
decreases-lines l = length l.rest
