-- Each file that a name is bound to exists.
use Rattle.std.specs.Prelude.{◌≡◌, ℕ, Option, None, Some, if◌then◌else◌}
use Rattle.std.specs.BTreeMap.{BTreeMap, get}
use Rattle.std.specs.Ordering.{nat_cmp}
use Rattle.blob_directory.specs.declared.tree.Tree.{Tree}
use Rattle.blob_directory.specs.Counts.{NamedAtMost, link_count}
use Rattle.blob_directory.specs.Names.{Names}
use Rattle.blob_fs.specs.declared.file_system.File.{File}

-- how many names a file of a map may have: its links; none if it was deleted or doesn't exist
abbrev pub links_of : File → ℕ
links_of file = if file.is_gone then 0 else file.links

abbrev pub links_in : Option File → ℕ
links_in None = 0
links_in (Some file) = links_of file

-- each file of a map has the links that a tree counts
abbrev pub CountsLinks : Tree → BTreeMap ℕ File → Type 0
CountsLinks tree files = (inode : ℕ) → links_in (get nat_cmp files inode) ≡ link_count tree inode

-- no file has more names than links
abbrev pub AllNamed : Names → BTreeMap ℕ File → Type 0
AllNamed names files = (inode : ℕ) → NamedAtMost names inode (links_in (get nat_cmp files inode))
