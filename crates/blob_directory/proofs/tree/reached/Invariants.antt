use Rattle.std.proofs.Common.{◌≡◌, ◌⊎◌, ℕ, true}
use Rattle.std.specs.List.{All, AllWithin, Contains}
use Rattle.blob_directory.specs.Counts.{CountsNames}
use Rattle.blob_directory.specs.Names.{entry}
use Rattle.blob_directory.specs.Tables.{bound}
use Rattle.blob_directory.specs.Trees.{HasLinks, HasNamedLinks, has_directory}
use Rattle.blob_directory.proofs.Walks.{Closed, Kept, Walked}
use Rattle.blob_directory.proofs.tree.reached.Given as goal

-- a directory that was seen is left to visit, or all its names are kept
abbrev pub invariant-loop : goal.invariant-loop
invariant-loop l = record {
  links : HasLinks l.tree;
  named : HasNamedLinks l.tree;
  counts : CountsNames l.tree;
  walked : Walked (bound l.names) (bound l.tree.names) (has_directory l.tree);
  left : All (λ d. has_directory l.tree d ≡ true) l.next.items;
  closed : (d : ℕ) → has_directory l.tree d ≡ true → Contains l.next.items d ⊎ Closed (bound l.names) (bound l.tree.names) (has_directory l.tree) d;
}

-- the same, except for the directory that is visited: its names so far are kept
abbrev pub invariant-loop-name : goal.invariant-loop-name
invariant-loop-name l = record {
  links : HasLinks l.tree;
  named : HasNamedLinks l.tree;
  counts : CountsNames l.tree;
  walked : Walked (bound l.names) (bound l.tree.names) (has_directory l.tree);
  left : All (λ d. has_directory l.tree d ≡ true) l.next.items;
  here : has_directory l.tree l.directory ≡ true;
  closed : (d : ℕ) → has_directory l.tree d ≡ true → (d ≡ l.directory) ⊎ (Contains l.next.items d ⊎ Closed (bound l.names) (bound l.tree.names) (has_directory l.tree) d);
  kept : AllWithin (λ n. Kept (bound l.tree.names) (has_directory l.tree) (entry l.directory n.0.items) n.1) l.name-items 0 l.name-index;
}
