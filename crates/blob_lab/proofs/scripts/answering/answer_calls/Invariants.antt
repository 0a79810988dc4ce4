use Rattle.std.proofs.Common.{◌≡◌, List, ℕ, ◌∷◌, true}
use Rattle.blob_script.specs.Acts.{act_of}
use Rattle.blob_script.specs.Readers.{config_of, has_begun, lines_read}
use Rattle.blob_lab.specs.Reading.{StaysKnown}
use Rattle.blob_lab.specs.ScriptReading.{Begins, OfLines}
use Rattle.blob_lab.specs.Scripts.{Script}
use Rattle.blob_lab.specs.Streams.{reader_of, writer_of, lines_left, StaySound}
use Rattle.blob_lab.proofs.ScriptRuns.{Awaiting}
use Rattle.blob_lab.proofs.scripts.answering.answer_calls.Given as goal

abbrev pub invariant-calls : goal.invariant-calls
invariant-calls g l = record {
  known : StaysKnown (g.R.Read.remaining (reader_of l.initial.input)) (g.R.Read.remaining (reader_of l.input));
  awaits : (s : Script) (line : List ℕ) → Begins l.initial.lab s line (act_of l.initial.call) (config_of l.initial.lines.reader) → OfLines (g.R.Read.remaining (reader_of l.initial.input)) (g.R.Read.remaining (reader_of l.input)) (λ all rest.
      Awaiting s (lines_read l.initial.lines.reader) (lines_read l.lines.reader) l.lab (act_of l.call) (config_of l.lines.reader) (g.W.Write.contents (writer_of l.initial.output)) (g.W.Write.contents (writer_of l.output)) (line ∷ all) rest);
  begun : has_begun l.lines.reader ≡ true;
  sound : StaySound l.initial.input l.input l.initial.output l.output;
}

abbrev pub decreases-calls : goal.decreases-calls
decreases-calls g l = lines_left l.input
