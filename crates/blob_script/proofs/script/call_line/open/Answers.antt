use Rattle.std.proofs.Common.{rules}
use Rattle.blob_script.proofs.script.call_line.open.Goals as goal

pub returns-then-loose-clause-ok : goal.returns-then-loose-clause-ok
returns-then-loose-clause-ok c = rw c.if-loose.true (search rules)

pub returns-clause-ok : goal.returns-clause-ok
returns-clause-ok c = rw c.if-loose.false (search rules)
