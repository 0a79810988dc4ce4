use Rattle.std.proofs.Common.{Some, ap, ◌∙◌}
use Rattle.blob_script.specs.Lines.{said_by}
use Rattle.blob_script.specs.Readers.{with_meaning}
use Rattle.blob_sessions.proofs.LineCalls.{if_blank, no_line}
use Rattle.blob_sessions.proofs.kept.Kept.read_call.Goals as goal

pub returns-clause-blank : goal.returns-clause-blank
returns-clause-blank c = if_blank c.take.result _ _ _ (said_by c.in_ok-line.line) c.args.self.now.begun c.in_ok-line.ensures.ok c.take.ensures.none

pub returns-clause-bad : goal.returns-clause-bad
returns-clause-bad c = λ bad s some.
    ap (with_meaning s) c.in_ok-line.ensures.ok ∙ no_line c.args.self.now.reader (Some (said_by c.in_ok-line.line)) c.args.self.now.begun (c.take.ensures.bad bad) s some
