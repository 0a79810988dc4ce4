-- A journal that settles names.
use Rattle.std.specs.Prelude.{◌≡◌, ℕ, true, List, [], ◌∷◌, Some, Vec}
use Rattle.std.specs.Global.{Global}
use Rattle.blob_packed.specs.Records.{Record, packed_from}
use Rattle.blob_directory.specs.declared.edit.Binding.{Binding}
use Rattle.blob_directory.specs.declared.tree.Tree.{Tree}
use Rattle.blob_directory.specs.Names.{Names, Same, entry}
use Rattle.blob_directory.specs.Profiles.{Rule, names_told}
use Rattle.blob_directory.specs.Records.{FitsRecord, record_of}
use Rattle.blob_directory.specs.Tables.{bound}
use Rattle.blob_directory.specs.Trees.{HasPlaces}

-- entries with their bindings
abbrev pub Bindings : Type 0
Bindings = List (List ℕ × Binding)

-- one settled record for each
abbrev pub settled_records : Bindings → List Record
settled_records [] = []
settled_records (b ∷ bs) = record_of ((b.0, Some b.1) ∷ []) true ∷ settled_records bs

-- the names of a directory as entries
abbrev pub bindings_in : ℕ → List (Vec ℕ Global × Binding) → Bindings
bindings_in directory [] = []
bindings_in directory (n ∷ names) = (entry directory n.0.items, n.1) ∷ bindings_in directory names

-- the bytes of their settled records, with numbers from one on
abbrev pub packed_names : ℕ → ℕ → List (Vec ℕ Global × Binding) → List ℕ
packed_names number directory names = packed_from number (settled_records (bindings_in directory names))

-- each of these names fits in a record
abbrev pub FitRecords : Names → Type 0
FitRecords names = (e : List ℕ) (to : Binding) → names e ≡ Some to → FitsRecord ((e, Some to) ∷ [])

-- each name of a tree is in a directory that the tree has, and fits in a record
pub record FitsJournal (tree : Tree) : Type 0 where
  pub places : HasPlaces tree
  pub records : FitRecords (bound tree.names)

-- a journal gives exactly these names, by every profile
abbrev pub Gives : List ℕ → Names → Type 0
Gives journal names = (rule : Rule) → Same (names_told rule journal) names
