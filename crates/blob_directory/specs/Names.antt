-- Names of files and directories, and edits of them.
use Rattle.std.specs.Prelude.{◌≡◌, ℕ, Bool, false, ◌||◌, List, [], ◌∷◌, ◌++◌, Option, Some, None, is_some, if◌then◌else◌}
use Rattle.std.specs.Int.{w64, to_be_bytes}
use Rattle.std.specs.Str.{bytes_eq}
use Rattle.blob_directory.specs.declared.edit.Binding.{Binding}
use Rattle.blob_directory.specs.declared.edit.Change as rust_change
use Rattle.blob_directory.specs.declared.edit.Edit as rust_edit
use Rattle.blob_directory.specs.declared.edit.Kind.TheVariants.{File, Directory}

-- a name in a directory, as one list of bytes: the directory's number in eight bytes, the high one first, and the name
abbrev pub entry : ℕ → List ℕ → List ℕ
entry directory name = to_be_bytes w64 directory ++ name

-- what each entry is bound to
abbrev pub Names : Type 0
Names = List ℕ → Option Binding

-- an entry, and what it is bound to from then on
abbrev pub Change : Type 0
Change = List ℕ × Option Binding

-- the changes of one entry, or of two in one step
abbrev pub Edit : Type 0
Edit = List Change

abbrev pub changed : Names → Change → Names
changed names c e = if bytes_eq c.0 e then c.1 else names e

-- an edit applied
abbrev pub edited : Names → Edit → Names
edited names [] = names
edited names (c ∷ edit) = edited (changed names c) edit

-- edits applied, in order
abbrev pub all_edited : Names → List Edit → Names
all_edited names [] = names
all_edited names (edit ∷ edits) = all_edited (edited names edit) edits

-- both bind the same
abbrev pub Same : Names → Names → Type 0
Same a b = (e : List ℕ) → a e ≡ b e

abbrev pub binds : ℕ → List ℕ → Binding → Edit
binds directory name to = (entry directory name, Some to) ∷ []

abbrev pub frees : ℕ → List ℕ → Edit
frees directory name = (entry directory name, None) ∷ []

-- the edit of a truncation: it frees the entry of the file's number with an empty name, which no call binds
abbrev pub resizes : ℕ → Edit
resizes inode = frees inode []

-- a move frees one entry and binds the other
abbrev pub moves : List ℕ → List ℕ → Binding → Edit
moves from to moved = (from, None) ∷ (to, Some moved) ∷ []

-- an exchange binds both
abbrev pub exchanges : List ℕ → List ℕ → Binding → Binding → Edit
exchanges from to moved was = (from, Some was) ∷ (to, Some moved) ∷ []

-- an edit binds some entry
abbrev pub binds_any : Edit → Bool
binds_any [] = false
binds_any ((e, to) ∷ edit) = is_some to || binds_any edit

-- the first entry that an edit changes is bound, not freed
abbrev pub is_binding : Edit → Bool
is_binding [] = false
is_binding ((e, to) ∷ edit) = is_some to

-- the second entry that an edit changes, if it binds that
abbrev pub new_name : Edit → Option (List ℕ × Binding)
new_name [] = None
new_name (c ∷ []) = None
new_name (c ∷ (e, None) ∷ more) = None
new_name (c ∷ (e, Some to) ∷ more) = Some (e, to)

abbrev pub file : ℕ → Binding
file inode = record { inode = inode; kind = File }

abbrev pub directory_at : ℕ → Binding
directory_at inode = record { inode = inode; kind = Directory }

-- a change and an edit of the code, as data
abbrev pub change_of : rust_change.Change → Change
change_of c = (c.entry.items, c.to)

abbrev pub more_of : Option rust_change.Change → Edit
more_of None = []
more_of (Some c) = change_of c ∷ []

abbrev pub edit_of : rust_edit.Edit → Edit
edit_of e = change_of e.first ∷ more_of e.second

-- a directory that the root reaches by these names
pub data Reached (names : Names) : ℕ → Type 0 where
  Root : Reached names 1
  Below : (d : ℕ) (name : List ℕ) (i : ℕ) → Reached names d → names (entry d name) ≡ Some (directory_at i) → Reached names i

-- an entry of such a directory
pub record IsReached (names : Names) (e : List ℕ) : Type 0 where
  pub directory : ℕ
  pub name : List ℕ
  pub is : e ≡ entry directory name
  pub reached : Reached names directory

-- each binding of the first is one of the second, in a directory that the root reaches by the second
abbrev pub Within : Names → Names → Type 0
Within a b = (e : List ℕ) (to : Binding) → a e ≡ Some to → (b e ≡ Some to) × IsReached b e
