use Rattle.std.proofs.Common.{◌≡◌, map, take}
use Rattle.blob_fs.proofs.truncations.numbers_of.Given as goal

abbrev pub invariant-loop-edit : goal.invariant-loop-edit
invariant-loop-edit l = l.numbers.items ≡ map (λ e. e.number) (take l.edit-index l.edits)
