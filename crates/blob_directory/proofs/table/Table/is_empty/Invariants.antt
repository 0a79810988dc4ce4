use Rattle.std.proofs.Common.{◌≡◌, List, ℕ, Some}
use Rattle.std.specs.Int.{w64, to_be_bytes}
use Rattle.blob_directory.specs.declared.edit.Binding.{Binding}
use Rattle.blob_directory.specs.Names.{entry}
use Rattle.blob_directory.specs.Tables.{bound}
use Rattle.blob_directory.proofs.Ranges.{Among, Ascends, IsFrom}
use Rattle.blob_directory.proofs.table.Table.is_empty.Given as goal

-- each name of the directory is left to visit
abbrev pub invariant-loop-entry : goal.invariant-loop-entry
invariant-loop-entry l = record {
  ascends : Ascends l.entry-iterator;
  begins : IsFrom (to_be_bytes w64 l.directory) l.entry-iterator;
  all : (name : List ℕ) (to : Binding) → bound l.self (entry l.directory name) ≡ Some to → Among l.entry-iterator (entry l.directory name) (Some to);
}
