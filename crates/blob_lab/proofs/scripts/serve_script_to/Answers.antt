use Rattle.std.proofs.Common.{rules}
use Rattle.blob_lab.specs.Streams.{reader_of, writer_of}
use Rattle.blob_lab.proofs.ScriptEnds.{ends_done, ends_part, ends_taken, ends_flush_failed}
use Rattle.blob_lab.proofs.scripts.serve_script_to.Goals as goal

pub returns-in-Err-default-clause-part : goal.returns-in-Err-default-clause-part
returns-in-Err-default-clause-part g c = λ _.
    let ran = c.run_lines-ran.ensures in
    ends_flush_failed c.run_lines-ran.result (g.R.Read.remaining (reader_of c.args.input.now)) (g.R.Read.remaining (reader_of c.run_lines-ran.new.input)) (g.W.Write.contents (writer_of c.args.output.now)) (g.W.Write.contents (writer_of c.run_lines-ran.new.output)) (g.W.Write.contents (writer_of c.flush.new.self)) c.flush.ensures.kept ran.cut ran.read ran.all ran.front

pub returns-in-Ok-Ok-clause-taken : goal.returns-in-Ok-Ok-clause-taken
returns-in-Ok-Ok-clause-taken g c = λ _. ends_done (g.R.Read.remaining (reader_of c.args.input.now)) (g.R.Read.remaining (reader_of c.run_lines-ran.new.input)) (g.W.Write.contents (writer_of c.args.output.now)) (g.W.Write.contents (writer_of c.run_lines-ran.new.output)) (g.W.Write.contents (writer_of c.flush.new.self)) c.flush.ensures.kept (search rules) (search rules)

pub returns-in-Ok-Err-clause-taken : goal.returns-in-Ok-Err-clause-taken
returns-in-Ok-Err-clause-taken g c = λ other. ends_taken (g.W.Write.contents (writer_of c.args.output.now)) (g.W.Write.contents (writer_of c.run_lines-ran.new.output)) (g.W.Write.contents (writer_of c.flush.new.self)) c.flush.ensures.kept c.in-Ok-Err.ending 1 (g.R.Read.remaining (reader_of c.args.input.now)) (g.R.Read.remaining (reader_of c.run_lines-ran.new.input)) (search rules) other (search rules)

pub returns-in-Ok-Err-clause-part : goal.returns-in-Ok-Err-clause-part
returns-in-Ok-Err-clause-part g c = λ _. ends_part (g.W.Write.contents (writer_of c.args.output.now)) (g.W.Write.contents (writer_of c.run_lines-ran.new.output)) (g.W.Write.contents (writer_of c.flush.new.self)) c.flush.ensures.kept c.in-Ok-Err.ending 1 (g.R.Read.remaining (reader_of c.args.input.now)) (g.R.Read.remaining (reader_of c.run_lines-ran.new.input)) (search rules) (search rules)
