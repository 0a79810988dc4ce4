-- Directories that are above others.
use Rattle.std.specs.Prelude.{◌≡◌, ◌≢◌, ◌<◌, ◌==◌, ℕ, zero, suc, List, Option, None, Some, length, option_and_then, if◌then◌else◌}
use Rattle.std.specs.BTreeMap.{BTreeMap, get}
use Rattle.std.specs.Ordering.{nat_cmp}
use Rattle.blob_directory.specs.declared.edit.Binding.{Binding}
use Rattle.blob_directory.specs.declared.edit.Kind.TheVariants.{Directory}
use Rattle.blob_directory.specs.Names.{entry}
use Rattle.blob_fs.specs.declared.file_system.FileSystem.{FileSystem}
use Rattle.blob_fs.specs.Files.{names_of}

-- the directory that has another one, by a map of them; none if that is the root
abbrev pub parent_in : BTreeMap ℕ ℕ → ℕ → Option ℕ
parent_in directories directory = option_and_then (λ up. if up == 1 then None else Some up) (get nat_cmp directories directory)

-- the directory so many steps above one; none above those that the root has
abbrev pub above : BTreeMap ℕ ℕ → ℕ → ℕ → Option ℕ
above directories zero directory = Some directory
above directories (suc steps) directory = option_and_then (parent_in directories) (above directories steps directory)

-- a directory is not this one, and is not below it by fewer steps than there are directories
abbrev pub StaysOutside : BTreeMap ℕ ℕ → ℕ → ℕ → Type 0
StaysOutside directories inode directory = (steps : ℕ) → steps < length directories.entries → above directories steps directory ≢ Some inode

abbrev pub IsNotBelow : {R : Type 0} → FileSystem R → ℕ → ℕ → Type 0
IsNotBelow fs inode directory = StaysOutside fs.directories inode directory

-- if a name is bound to a directory, another directory is not below that one
abbrev pub StaysApart : {R : Type 0} → FileSystem R → ℕ → List ℕ → ℕ → Type 0
StaysApart fs from old to = (moved : Binding) → names_of fs (entry from old) ≡ Some moved → moved.kind ≡ Directory → IsNotBelow fs moved.inode to
