use Rattle.std.proofs.Common.{rules, ◌≡◌, []}
use Rattle.blob_lab.proofs.TextLines.{line_before, only_line}
use Rattle.blob_lab.proofs.text_lines.first_line.Goals as goal

pub returns-in-Some-clause-line : goal.returns-in-Some-clause-line
returns-in-Some-clause-line c = line_before _ _ c.in-Some.ensures

pub returns-in-None-clause-line : goal.returns-in-None-clause-line
returns-in-None-clause-line c = let some : c.args.text.now ≡ [] → ⊥ = search rules in only_line _ some c.in-None.ensures
