use Rattle.std.proofs.Common.{◌+◌, ◌≤◌, length}
use Rattle.blob_script.specs.Readers.{lines_read}
use Rattle.blob_choices.specs.Outcomes.{SetNoPartialResize, acts_of}
use Rattle.blob_explore.specs.ScriptTexts.{IsPlain}
use Rattle.blob_explore.proofs.Reading.{IsReadTo}
use Rattle.blob_explore.proofs.script.read_script.Given as goal

abbrev pub invariant-lines : goal.invariant-lines
invariant-lines l = record {
  sizes : SetNoPartialResize (acts_of l.reading.calls.items);
  read : IsReadTo l.fn.text l.rest l.reading;
  plain : IsPlain l.reading;
  few : lines_read l.reading.reader + length l.rest ≤ length l.fn.text;
}

abbrev pub decreases-lines : goal.decreases-lines
decreases-lines l = length l.rest
