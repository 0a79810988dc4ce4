use Rattle.std.proofs.Common.{◌≡◌, vec_len}
use Rattle.blob_tree.specs.Trees.{next_path}
use Rattle.blob_tree.proofs.explorer.Explorer.turn.Given as goal

abbrev pub invariant-loop-outcome : goal.invariant-loop-outcome
invariant-loop-outcome l = next_path l.initial.self-inside.path.items ≡ next_path l.self-inside.path.items

abbrev pub decreases-loop-outcome : goal.decreases-loop-outcome
decreases-loop-outcome l = vec_len l.self-inside.path
