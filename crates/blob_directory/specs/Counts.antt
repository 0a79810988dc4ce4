-- How many names a file has.
use Rattle.std.specs.Prelude.{◌≡◌, ◌≤◌, ◌+◌, ◌&&◌, ℕ, List, Contains, length, not, nat_eq, unwrap_or, Some, if◌then◌else◌}
use Rattle.std.specs.BTreeMap.{get}
use Rattle.std.specs.Ordering.{nat_cmp}
use Rattle.blob_directory.specs.declared.edit.Binding.{Binding}
use Rattle.blob_directory.specs.declared.tree.Tree.{Tree}
use Rattle.blob_directory.specs.Names.{Names, file}
use Rattle.blob_directory.specs.Tables.{bound}
use Rattle.blob_directory.specs.Trees.{is_directory}

-- a list of entries, at most as many as the count, has each name of a file
pub record NamedAtMost (names : Names) (inode count : ℕ) : Type 0 where
  pub entries : List (List ℕ)
  pub few : length entries ≤ count
  pub each : (e : List ℕ) → names e ≡ Some (file inode) → Contains entries e

-- how many names of a file a tree counts
abbrev pub link_count : Tree → ℕ → ℕ
link_count tree i = unwrap_or (get nat_cmp tree.links i) 0

-- no file has more
abbrev pub CountsNames : Tree → Type 0
CountsNames tree = (i : ℕ) → NamedAtMost (bound tree.names) i (link_count tree i)

-- how many it counts after one more name
abbrev pub count_then : Tree → Binding → ℕ → ℕ
count_then tree to i = link_count tree i + (if not (is_directory to.kind) && nat_eq to.inode i then 1 else 0)
