use Rattle.std.proofs.Common.{rules, ◌≡◌, ◌+◌, refl, ap, Err, arith}
use Rattle.std.proofs.lemmas.Result.{on_ok_weaker, IfErr-weaker}
use Rattle.blob_script.specs.Acts.{act_of}
use Rattle.blob_script.specs.Readers.{config_of, has_begun, lines_read, preamble_of}
use Rattle.blob_script.proofs.Readers.{calls_kept}
use Rattle.blob_lab.specs.ScriptReading.{ReadsToCall, ReadsToEnd}
use Rattle.blob_lab.specs.Scripts.{no_script}
use Rattle.blob_lab.specs.Streams.{reader_of, writer_of}
use Rattle.blob_lab.proofs.ReaderSteps.{next_of, so_far, starts}
use Rattle.blob_lab.proofs.ScriptStarts.{no_laboratory, no_call, no_first, all_lines, front_lines}
use Rattle.blob_lab.proofs.StreamSteps.{told_behind}
use Rattle.blob_lab.proofs.scripts.answering.run_lines.Goals as goal

pub returns-in_err-first-clause-front : goal.returns-in_err-first-clause-front
returns-in_err-first-clause-front g c =
    let is : c.from_residual.result ≡ Err c.in_err-first.field-0.0 = search rules in
    let e = c.in_err-first.ensures in
    let r = c.new-lines.result.reader in
    let t = so_far r c.next_call.new.self.reader no_script in
    let none = calls_kept (has_begun r) (preamble_of c.next_call.new.self.reader) no_script in
    rw is (no_first no_script refl (g.W.Write.contents (writer_of c.args.output.now)) (g.W.Write.contents (writer_of c.next_call.new.output)) e.kept
    (lines_read r + 1) (omega (arith, c.new-lines.ensures.number)) t none
    c.in_err-first.field-0.0 (g.R.Read.remaining (reader_of c.args.input.now)) (g.R.Read.remaining (reader_of c.next_call.new.input))
    (λ number x. e.bad number (ap Err x) no_script c.new-lines.ensures.script) (t, none, e.part no_script c.new-lines.ensures.script))

pub returns-in_default-clause-all : goal.returns-in_default-clause-all
returns-in_default-clause-all g c =
    let r = c.new-lines.result.reader in
    let r' = c.next_call.new.self.reader in
    let over : ReadsToEnd g.R.Read.remaining c.args.input.now c.next_call.new.input r r' = search rules in
    no_call no_script refl (lines_read r + 1) (omega (arith, c.new-lines.ensures.number)) (so_far r r' no_script) (calls_kept (has_begun r) (preamble_of r') no_script)
    (g.W.Write.contents (writer_of c.args.output.now)) (g.W.Write.contents (writer_of c.next_call.new.output)) (search rules) (g.R.Read.remaining (reader_of c.args.input.now)) (g.R.Read.remaining (reader_of c.next_call.new.input))
    (over no_script c.new-lines.ensures.script)

pub returns-in_default-from_preamble-clause-front : goal.returns-in_default-from_preamble-clause-front
returns-in_default-from_preamble-clause-front g c =
    let r = c.new-lines.result.reader in
    let r' = c.next_call.new.self.reader in
    let call : ReadsToCall g.R.Read.remaining c.args.input.now c.next_call.new.input r r' c.in-Some.first = search rules in
    no_laboratory no_script refl (lines_read r + 1) (omega (arith, c.new-lines.ensures.number)) (so_far r r' no_script) (calls_kept (has_begun r) (preamble_of r') no_script)
    (g.W.Write.contents (writer_of c.args.output.now)) (g.W.Write.contents (writer_of c.next_call.new.output)) (search rules)
    (lines_read r') (act_of c.in-Some.first) (config_of r') (g.R.Read.remaining (reader_of c.args.input.now)) (g.R.Read.remaining (reader_of c.next_call.new.input)) (call no_script c.new-lines.ensures.script)

pub returns-clause-all : goal.returns-clause-all
returns-clause-all g c =
    let r = c.new-lines.result.reader in
    let r' = c.next_call.new.self.reader in
    let begun = c.begin.new.self in
    let a = g.R.Read.remaining (reader_of c.args.input.now) in
    let b = g.R.Read.remaining (reader_of c.next_call.new.input) in
    let call : ReadsToCall g.R.Read.remaining c.args.input.now c.next_call.new.input r r' c.in-Some.first = search rules in
    let call' = next_of r r' begun c.in-Some.first a b c.begin.ensures.number c.begin.ensures.config (call no_script c.new-lines.ensures.script) in
    on_ok_weaker c.answer_calls-ran.result
    (all_lines no_script refl (lines_read r + 1) (omega (arith, c.new-lines.ensures.number)) (so_far r r' no_script) (calls_kept (has_begun r) (preamble_of r') no_script)
    (g.W.Write.contents (writer_of c.args.output.now)) (g.W.Write.contents (writer_of c.next_call.new.output)) (search rules)
    (lines_read begun) (act_of c.in-Some.first) (config_of begun) c.in-Ok.lab (starts r r' c.in-Ok.lab c.begin.result c.default.result c.new-lines.ensures.begun c.begin.ensures.preamble (search rules) c.in-Ok.ensures.stands) (g.W.Write.contents (writer_of c.answer_calls-ran.new.output))
    a b call')
    c.answer_calls-ran.ensures.all

pub returns-clause-front : goal.returns-clause-front
returns-clause-front g c =
    let r = c.new-lines.result.reader in
    let r' = c.next_call.new.self.reader in
    let begun = c.begin.new.self in
    let a = g.R.Read.remaining (reader_of c.args.input.now) in
    let b = g.R.Read.remaining (reader_of c.next_call.new.input) in
    let call : ReadsToCall g.R.Read.remaining c.args.input.now c.next_call.new.input r r' c.in-Some.first = search rules in
    let call' = next_of r r' begun c.in-Some.first a b c.begin.ensures.number c.begin.ensures.config (call no_script c.new-lines.ensures.script) in
    IfErr-weaker c.answer_calls-ran.result _ _
    (λ ending. front_lines no_script refl (lines_read r + 1) (omega (arith, c.new-lines.ensures.number)) (so_far r r' no_script) (calls_kept (has_begun r) (preamble_of r') no_script)
    (g.W.Write.contents (writer_of c.args.output.now)) (g.W.Write.contents (writer_of c.next_call.new.output)) (search rules)
    (lines_read begun) (act_of c.in-Some.first) (config_of begun) c.in-Ok.lab (starts r r' c.in-Ok.lab c.begin.result c.default.result c.new-lines.ensures.begun c.begin.ensures.preamble (search rules) c.in-Ok.ensures.stands) (g.W.Write.contents (writer_of c.answer_calls-ran.new.output))
    ending a b (g.R.Read.remaining (reader_of c.answer_calls-ran.new.input)) call')
    c.answer_calls-ran.ensures.front

pub returns-clause-told : goal.returns-clause-told
returns-clause-told g c =
    told_behind c.args.input.now c.next_call.new.input c.answer_calls-ran.new.input c.args.output.now c.next_call.new.output c.answer_calls-ran.new.output (search rules) c.answer_calls-ran.result c.answer_calls-ran.ensures.told
