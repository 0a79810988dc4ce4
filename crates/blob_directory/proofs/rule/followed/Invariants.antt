use Rattle.std.proofs.Common.{◌≡◌, ℕ, false, get_or, take}
use Rattle.blob_directory.specs.Rules.{follows}
use Rattle.blob_directory.proofs.rule.followed.Given as goal

abbrev pub invariant-loop-edit : goal.invariant-loop-edit
invariant-loop-edit l = (n : ℕ) → get_or l.marks.items n false ≡ follows (take l.edit-index l.edits) n
