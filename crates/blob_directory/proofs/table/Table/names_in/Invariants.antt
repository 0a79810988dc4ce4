use Rattle.std.proofs.Common.{◌≡◌, ◌⊎◌, ℕ, List, Option, Some}
use Rattle.std.specs.Int.{w64, to_be_bytes}
use Rattle.std.specs.List.{All}
use Rattle.blob_directory.specs.declared.edit.Binding.{Binding}
use Rattle.blob_directory.specs.Names.{entry}
use Rattle.blob_directory.specs.Tables.{HasName, bound}
use Rattle.blob_directory.proofs.Ranges.{Among, Ascends, IsFrom}
use Rattle.blob_directory.proofs.table.Table.names_in.Given as goal

-- a name of the directory is in the list, or is left to visit
abbrev pub invariant-loop-entry : goal.invariant-loop-entry
invariant-loop-entry l = record {
  told : All (λ n. bound l.self (entry l.directory n.0.items) ≡ Some n.1) l.names.items;
  bounds : (k : List ℕ) (v : Option Binding) → Among l.entry-iterator k v → bound l.self k ≡ v;
  ascends : Ascends l.entry-iterator;
  begins : IsFrom (to_be_bytes w64 l.directory) l.entry-iterator;
  all : (name : List ℕ) (to : Binding) → bound l.self (entry l.directory name) ≡ Some to → HasName l.names.items name to ⊎ Among l.entry-iterator (entry l.directory name) (Some to);
}
