-- The names that the root reaches, as a tree has them.
use Rattle.std.specs.Prelude.{◌≡◌, ℕ, List, Bool, true, false, ◌&&◌, ◌||◌, not, nat_eq, Some, is_some, if◌then◌else◌}
use Rattle.std.specs.BTreeMap.{get}
use Rattle.std.specs.Ordering.{nat_cmp}
use Rattle.blob_directory.specs.declared.edit.Binding.{Binding}
use Rattle.blob_directory.specs.declared.edit.Kind.{Kind}
use Rattle.blob_directory.specs.declared.edit.Kind.TheVariants.{File, Directory}
use Rattle.blob_directory.specs.declared.tree.Tree.{Tree}
use Rattle.blob_directory.specs.Names.{IsReached, Names, Reached, Same, Within, changed, directory_at, entry, file}
use Rattle.blob_directory.specs.Tables.{bound}

-- Of the names that are told, those that the root reaches are found, but a directory is found by one name, and the root by none.
pub record Finds (found told : Names) : Type 0 where
  pub within : Within found told
  pub files : (e : List ℕ) (i : ℕ) → IsReached told e → told e ≡ Some (file i) → found e ≡ Some (file i)
  pub directories : (d : ℕ) → Reached told d → Reached found d
  pub once : (a b : List ℕ) (d : ℕ) → found a ≡ Some (directory_at d) → found b ≡ Some (directory_at d) → a ≡ b
  pub root : (e : List ℕ) → found e ≡ Some (directory_at 1) → ⊥

-- of the names that the root reaches no two are of one directory, and none is of the root
pub record NamesOnce (told : Names) : Type 0 where
  pub once : (a b : List ℕ) (d : ℕ) → IsReached told a → IsReached told b → told a ≡ Some (directory_at d) → told b ≡ Some (directory_at d) → a ≡ b
  pub root : (e : List ℕ) → IsReached told e → told e ≡ Some (directory_at 1) → ⊥

-- then exactly the names that the root reaches are found
abbrev pub FindsAll : Type 0
FindsAll = (found told : Names) → Finds found told → NamesOnce told → (e : List ℕ) → IsReached told e → found e ≡ told e

-- what is found of names that were found is what was found
abbrev pub FindsAgain : Type 0
FindsAgain = (again found told : Names) → Finds found told → Finds again found → Same again found

abbrev pub has_directory : Tree → ℕ → Bool
has_directory tree d = is_some (get nat_cmp tree.directories d)

abbrev pub has_link : Tree → ℕ → Bool
has_link tree i = is_some (get nat_cmp tree.links i)

-- each file that a name is bound to is counted
abbrev pub HasLinks : Tree → Type 0
HasLinks tree = (e : List ℕ) (i : ℕ) → bound tree.names e ≡ Some (file i) → has_link tree i ≡ true

-- each file that is counted has a name
abbrev pub HasNamedLinks : Tree → Type 0
HasNamedLinks tree = (i : ℕ) → has_link tree i ≡ true → (e : List ℕ) × (bound tree.names e ≡ Some (file i))

-- each name is in a directory that the tree has
abbrev pub HasPlaces : Tree → Type 0
HasPlaces tree = (e : List ℕ) (to : Binding) → bound tree.names e ≡ Some to → (d : ℕ) × (name : List ℕ) × (e ≡ entry d name) × (has_directory tree d ≡ true)

abbrev pub is_directory : Kind → Bool
is_directory File = false
is_directory Directory = true

-- whether the tree has a directory after one more name
abbrev pub has_then : Tree → Binding → ℕ → Bool
has_then tree to d = has_directory tree d || (is_directory to.kind && nat_eq to.inode d)

-- whether it counts a file after one more name
abbrev pub links_then : Tree → Binding → ℕ → Bool
links_then tree to i = has_link tree i || (not (is_directory to.kind) && nat_eq to.inode i)

-- the names with one more, unless it's a second one of a directory
abbrev pub added : Tree → List ℕ → Binding → Names
added tree e to = if is_directory to.kind && has_directory tree to.inode then bound tree.names else changed (bound tree.names) (e, Some to)
