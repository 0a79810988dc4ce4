use Rattle.std.proofs.Common.{◌≡◌, ◌⊎◌, List, ℕ, Some}
use Rattle.blob_directory.specs.declared.edit.Binding.{Binding}
use Rattle.blob_directory.specs.Tables.{bound}
use Rattle.blob_directory.proofs.Ranges.{Among}
use Rattle.blob_directory.proofs.table.Table.is_within.Given as goal

-- the other table has the same, or the entry is left to visit
abbrev pub invariant-loop-entry : goal.invariant-loop-entry
invariant-loop-entry l = (e : List ℕ) (to : Binding) → bound l.self e ≡ Some to → (bound l.other e ≡ Some to) ⊎ Among l.entry-iterator e (Some to)
