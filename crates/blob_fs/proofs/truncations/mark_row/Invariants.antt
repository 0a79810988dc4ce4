use Rattle.std.proofs.Common.{take}
use Rattle.blob_fs.specs.Truncations.{Marks, keeps_at, marks_from}
use Rattle.blob_fs.proofs.truncations.mark_row.Given as goal

abbrev pub invariant-loop-i : goal.invariant-loop-i
invariant-loop-i l = Marks l.initial.marks l.marks (marks_from l.from (keeps_at l.offset (take l.i l.choices)))
