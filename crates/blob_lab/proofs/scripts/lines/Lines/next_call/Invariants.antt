use Rattle.std.proofs.Common.{◌≡◌, ◌+◌, ◌≤◌}
use Rattle.std.specs.Io.KnownBytes.{Keeps}
use Rattle.blob_script.specs.Readers.{HasRead, has_begun, lines_read, preamble_of, with_preamble}
use Rattle.blob_lab.specs.Reading.{StaysKnown}
use Rattle.blob_lab.specs.ScriptReading.{OfLines}
use Rattle.blob_lab.specs.Scripts.{Script}
use Rattle.blob_lab.specs.Streams.{reader_of, writer_of, lines_left, StaySound}
use Rattle.blob_lab.proofs.ScriptSteps.{TakesFront}
use Rattle.blob_lab.proofs.scripts.lines.Lines.next_call.Given as goal

-- the lines so far made no call
abbrev pub invariant-lines : goal.invariant-lines
invariant-lines g l =
    let r = l.initial.self.reader in let r' = l.self.reader in record {
      known : StaysKnown (g.R.Read.remaining (reader_of l.initial.input)) (g.R.Read.remaining (reader_of l.input));
      taken : (s : Script) → HasRead r s → OfLines (g.R.Read.remaining (reader_of l.initial.input)) (g.R.Read.remaining (reader_of l.input))
          (TakesFront s (with_preamble (has_begun r) (preamble_of r') s) (lines_read r + 1) (lines_read r' + 1));
      read : (s : Script) → HasRead r s → HasRead r' (with_preamble (has_begun r) (preamble_of r') s);
      begun : has_begun r' ≡ has_begun r;
      sound : StaySound l.initial.input l.input l.initial.output l.output;
      written : Keeps (g.W.Write.contents (writer_of l.initial.output)) (g.W.Write.contents (writer_of l.output));
      fewer : lines_left l.input ≤ lines_left l.initial.input;
    }

abbrev pub decreases-lines : goal.decreases-lines
decreases-lines g l = lines_left l.input
