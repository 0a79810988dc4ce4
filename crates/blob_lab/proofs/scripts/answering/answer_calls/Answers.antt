use Rattle.std.proofs.Common.{rules, ◌≡◌, ◌≢◌, ◌+◌, ◌∷◌, ◌∙◌, ℕ, List, Some, inl, inr, ap, sym, subst, refl, Err, string_bytes}
use Rattle.std.specs.Io.KnownBytes.{Appends}
use Rattle.blob_lab.specs.declared.ending.Ending.TheVariants.{OutputFailed, NoMemory}
use Rattle.blob_script.specs.declared.call.Call.{Call}
use Rattle.blob_script.specs.Acts.{act_of}
use Rattle.blob_script.specs.Readers.{config_of, has_begun, lines_read, preamble_of}
use Rattle.blob_script.proofs.Readers.{at_begun, read_begun}
use Rattle.blob_lab_store.specs.declared.lab.Lab.{Lab}
use Rattle.blob_lab.specs.ScriptReading.{AnswersCall, Begins, OfLines, TakesBadCall, TakesCall, TakesPart}
use Rattle.blob_lab.specs.ScriptReading.{ReadsToCall, ReadsToEnd}
use Rattle.blob_lab.specs.Scripts.{Script, with_lines}
use Rattle.blob_lab.specs.Streams.{reader_of, writer_of, StaySound}
use Rattle.blob_lab.proofs.Reading.{stays_known}
use Rattle.blob_lab.proofs.ScriptRuns.{Settled, begins, settles, awaits_next, prints_all, unread, unanswered}
use Rattle.blob_lab.proofs.StreamSteps.{unanswered_told}
use Rattle.blob_lab.proofs.scripts.answering.answer_calls.Goals as goal
use Rattle.blob_lab.proofs.scripts.answering.answer_calls.Goals.{In_ok-write_all}

output_not_memory : OutputFailed ≢ NoMemory
output_not_memory e = cc

answered : (lab lab' : Lab) (call : Call) (text bytes : List ℕ) → bytes ≡ text → AnswersCall lab call lab' text → AnswersCall lab call lab' bytes
answered lab lab' call text bytes is (reply, performs, same) = (reply, performs, is ∙ same)

pub calls-init : goal.calls-init
calls-init g c = record {
  known = search rules;
  awaits = λ s line b. begins s (lines_read c.args.lines.now.reader) (g.W.Write.contents (writer_of c.args.output.now)) line (g.R.Read.remaining (reader_of c.args.input.now)) c.args.lab.now (act_of c.args.first) (config_of c.args.lines.now.reader) b;
  begun = search rules;
  sound = (refl, refl);
}

-- the calls so far, including the last one, have replies
settled : (g : _) (c : In_ok-write_all g) (s : Script) (line : List ℕ) → Begins c.args.lab.now s line (act_of c.args.first) (config_of c.args.lines.now.reader)
    → OfLines (g.R.Read.remaining (reader_of c.args.input.now)) (g.R.Read.remaining (reader_of c.calls.input)) (λ all rest.
    Settled s (lines_read c.args.lines.now.reader) (lines_read c.calls.lines.reader + 1) c.answer.new.lab (config_of c.calls.lines.reader) (g.W.Write.contents (writer_of c.args.output.now)) (g.W.Write.contents (writer_of c.write_all.new.self)) (line ∷ all) rest)
settled g c s line b =
    let answers = answered c.calls.lab c.answer.new.lab c.calls.call (string_bytes c.answer.new.text) c.as_bytes.result.now c.as_bytes.ensures.value (search rules) in
    let same = answers.2 in
    settles s (lines_read c.args.lines.now.reader) (g.W.Write.contents (writer_of c.args.output.now)) line (g.R.Read.remaining (reader_of c.args.input.now)) (g.R.Read.remaining (reader_of c.calls.input)) (lines_read c.calls.lines.reader)
    c.calls.lab c.answer.new.lab c.calls.call answers.0 (config_of c.calls.lines.reader) (g.W.Write.contents (writer_of c.calls.output)) (g.W.Write.contents (writer_of c.write_all.new.self)) (c.calls.invariant.awaits s line b)
    answers.1 (subst (Appends _ _) same c.in_ok-write_all.ensures.written)

sound : (g : _) (c : In_ok-write_all g) → StaySound c.args.input.now c.calls.input c.args.output.now c.write_all.new.self
sound g c = (c.calls.invariant.sound.0, c.in_ok-write_all.ensures.told ∙ c.calls.invariant.sound.1)

pub returns-in_err-write_all-clause-front : goal.returns-in_err-write_all-clause-front
returns-in_err-write_all-clause-front g c =
    let is : c.from_residual.result ≡ Err c.in_err-write_all.field-0.0 = search rules in
    let (front, rest, parts, written) = c.in_err-write_all.ensures.part in
    let answers = answered c.calls.lab c.answer.new.lab c.calls.call (string_bytes c.answer.new.text) c.as_bytes.result.now c.as_bytes.ensures.value (search rules) in
    let same = answers.2 in
    rw is (λ s line b.
    unanswered s (lines_read c.args.lines.now.reader) (g.W.Write.contents (writer_of c.args.output.now)) line c.in_err-write_all.field-0.0 (g.R.Read.remaining (reader_of c.args.input.now)) (g.R.Read.remaining (reader_of c.calls.input)) (lines_read c.calls.lines.reader)
    c.calls.lab c.answer.new.lab c.calls.call (config_of c.calls.lines.reader) (g.W.Write.contents (writer_of c.calls.output)) (g.W.Write.contents (writer_of c.write_all.new.self)) (c.calls.invariant.awaits s line b)
    (inl c.in_err-write_all.ensures.ending) (λ x. (answers.0, answers.1, (front, rest, sym same ∙ parts, written))) (λ x. absurd (output_not_memory (sym c.in_err-write_all.ensures.ending ∙ x))))

pub returns-in_err-write_all-clause-told : goal.returns-in_err-write_all-clause-told
returns-in_err-write_all-clause-told g c =
    let is : c.from_residual.result ≡ Err c.in_err-write_all.field-0.0 = search rules in
    let e = c.in_err-write_all.ensures in
    rw is (unanswered_told c.in_err-write_all.field-0.0 c.args.input.now c.calls.input c.args.output.now c.calls.output c.write_all.new.self c.calls.invariant.sound (inl e.ending) (λ ne. e.told) (λ x. absurd (output_not_memory (sym e.ending ∙ x))))

pub returns-in_err-next-clause-front : goal.returns-in_err-next-clause-front
returns-in_err-next-clause-front g c =
    let is : c.from_residual-in_err-next.result ≡ Err c.in_err-next.field-0.0 = search rules in
    let e = c.in_err-next.ensures in
    let r = c.calls.lines.reader in
    let r' = c.next_call.new.self.reader in
    let a = g.R.Read.remaining (reader_of c.calls.input) in
    let d = g.R.Read.remaining (reader_of c.next_call.new.input) in
    rw is (λ s line begun.
    unread s (lines_read c.args.lines.now.reader) (g.W.Write.contents (writer_of c.args.output.now)) line c.in_err-next.field-0.0 (g.R.Read.remaining (reader_of c.args.input.now)) a d
    (lines_read r) c.answer.new.lab (config_of r) (g.W.Write.contents (writer_of c.write_all.new.self)) (g.W.Write.contents (writer_of c.next_call.new.output))
    (settled g (goal.at.returns-in_err-next-clause-front g c).In_ok-write_all s line begun) e.kept
    (λ number x t config some.
    at_begun (λ u. OfLines a d (TakesBadCall t u (lines_read r + 1) number)) (has_begun r) (preamble_of r') t c.calls.invariant.begun (e.bad number (ap Err x) t (read_begun r t c.calls.invariant.begun config some)))
    (λ t config some. at_begun (λ u. OfLines a d (TakesPart t u)) (has_begun r) (preamble_of r') t c.calls.invariant.begun (e.part t (read_begun r t c.calls.invariant.begun config some))))

pub returns-in_default-clause-all : goal.returns-in_default-clause-all
returns-in_default-clause-all g c = λ s line begun.
    let r = c.calls.lines.reader in
    let r' = c.next_call.new.self.reader in
    let a = g.R.Read.remaining (reader_of c.calls.input) in
    let d = g.R.Read.remaining (reader_of c.next_call.new.input) in
    let over : ReadsToEnd g.R.Read.remaining c.calls.input c.next_call.new.input r r' = search rules in
    prints_all s (lines_read c.args.lines.now.reader) (g.W.Write.contents (writer_of c.args.output.now)) line (g.R.Read.remaining (reader_of c.args.input.now)) a d
    (lines_read r + 1) c.answer.new.lab (config_of r) (g.W.Write.contents (writer_of c.write_all.new.self)) (g.W.Write.contents (writer_of c.next_call.new.output))
    (settled g (goal.at.returns-in_default-clause-all g c).In_ok-write_all s line begun) (search rules)
    (λ t config some. at_begun (λ u. OfLines a d (λ lines _. with_lines t lines ≡ Some u)) (has_begun r) (preamble_of r') t c.calls.invariant.begun (over t (read_begun r t c.calls.invariant.begun config some)))

pub calls-preserved : goal.calls-preserved
calls-preserved g c =
    let r = c.calls.lines.reader in
    let r' = c.next_call.new.self.reader in
    let a = g.R.Read.remaining (reader_of c.calls.input) in
    let d = g.R.Read.remaining (reader_of c.next_call.new.input) in
    let call : ReadsToCall g.R.Read.remaining c.calls.input c.next_call.new.input r r' c.in-Some.next = search rules in
    let kept = sound g (goal.at.calls-preserved g c).In_ok-write_all in
    let told = c.in_ok-next.ensures.told in
    record {
      known = stays_known (g.R.Read.remaining (reader_of c.args.input.now)) a d c.calls.invariant.known c.in_ok-next.ensures.known;
      awaits = λ s line begun.
          awaits_next s (lines_read c.args.lines.now.reader) (g.W.Write.contents (writer_of c.args.output.now)) line (g.R.Read.remaining (reader_of c.args.input.now)) a d
          (lines_read r) (lines_read r') c.answer.new.lab (act_of c.in-Some.next) (config_of r) (config_of r') (g.W.Write.contents (writer_of c.write_all.new.self)) (g.W.Write.contents (writer_of c.next_call.new.output))
          (settled g (goal.at.calls-preserved g c).In_ok-write_all s line begun) (search rules)
          (λ t config some.
          at_begun (λ u. OfLines a d (TakesCall t u (lines_read r + 1) (lines_read r') (act_of c.in-Some.next) (config_of r'))) (has_begun r) (preamble_of r') t c.calls.invariant.begun (call t (read_begun r t c.calls.invariant.begun config some)));
      begun = search rules;
      sound = (told.0 ∙ kept.0, told.1 ∙ kept.1);
    }

pub returns-then-is_err-clause-front : goal.returns-then-is_err-clause-front
returns-then-is_err-clause-front g c = λ s line b.
    unanswered s (lines_read c.args.lines.now.reader) (g.W.Write.contents (writer_of c.args.output.now)) line NoMemory (g.R.Read.remaining (reader_of c.args.input.now)) (g.R.Read.remaining (reader_of c.calls.input)) (lines_read c.calls.lines.reader)
    c.calls.lab c.answer.new.lab c.calls.call (config_of c.calls.lines.reader) (g.W.Write.contents (writer_of c.calls.output)) (g.W.Write.contents (writer_of c.calls.output)) (c.calls.invariant.awaits s line b)
    (inr refl) (λ x. absurd (output_not_memory (sym x))) (λ x. refl)
