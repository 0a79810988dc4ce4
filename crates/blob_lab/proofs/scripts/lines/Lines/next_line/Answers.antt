use Rattle.std.proofs.Common.{rules, ◌≡◌, ◌⊎◌, List, ℕ, true, inl, inr, subst, Err}
use Rattle.blob_lab.specs.Streams.{reader_of, is_flushed, has_line, HasLineReady}
use Rattle.blob_lab.proofs.StreamSteps.{line_ready}
use Rattle.blob_lab.proofs.ScriptLines.{takes_line, takes_one}
use Rattle.blob_lab.proofs.scripts.lines.Lines.next_line.Goals as goal
use Rattle.blob_lab.proofs.scripts.lines.Lines.next_line.Goals.{After-read_line, then-not-output+then-is_none+in_ok-flush, else-not-output, else-not-output-via-then-not-output+else-is_none, else-not-output-via-else-not-output}

pub returns-in_err-read_line-clause-part : goal.returns-in_err-read_line-clause-part
returns-in_err-read_line-clause-part g c =
    let is : c.from_residual-in_err-read_line.result ≡ Err c.in_err-read_line.field-0.0 = search rules in
    rw is (takes_one (g.R.Read.remaining (reader_of c.args.input.now)) (g.R.Read.remaining (reader_of c.read_line.new.self)) c.in_err-read_line.ensures.read.taken)

pub returns-clause-line : goal.returns-clause-line
returns-clause-line g c = λ _.
    let read = c.in_ok-read_line.ensures.read in
    takes_line (g.R.Read.remaining (reader_of c.args.input.now)) (g.R.Read.remaining (reader_of c.read_line.new.self)) c.read_line.new.line.items read.line read.rest (read.some (search rules))

handed : (g : _) (c : After-read_line g) → (is_flushed c.if-not-output.output ≡ true) ⊎ HasLineReady g.R.Ahead.ready c.args.input.now
handed g c = elim c.if-not-output.branch [
  | then-not-output+then-is_none+in_ok-flush w ↦ inl (search rules)
  | else-not-output w ↦ elim w.else-not-output.branch [
    | else-not-output-via-then-not-output+else-is_none x ↦ inr (subst (λ (l : List ℕ). has_line l ≡ true) x.ready.ensures (line_ready x.ready.result.now x.memchr.result x.memchr.ensures (search rules)))
    | else-not-output-via-else-not-output x ↦ inl (search rules)
  ]
]

pub returns-clause-handed_on : goal.returns-clause-handed_on
returns-clause-handed_on g c = λ h. handed g (goal.at.returns-clause-handed_on g c).After-read_line

pub returns-in_err-read_line-clause-handed_on : goal.returns-in_err-read_line-clause-handed_on
returns-in_err-read_line-clause-handed_on g c = λ h. handed g (goal.at.returns-in_err-read_line-clause-handed_on g c).After-read_line
