-- A table of names as a function.
use Rattle.std.specs.Prelude.{◌≡◌, ℕ, true, List, [], ◌∷◌, Option, Some, None, is_some}
use Rattle.std.specs.BTreeMap.{get_by}
use Rattle.std.specs.Cmp.Lexicographic.{slice_cmp}
use Rattle.std.specs.Global.{Global}
use Rattle.std.specs.List.{All, Contains}
use Rattle.std.specs.Ordering.{nat_cmp}
use Rattle.std.specs.Prelude.{Vec}
use Rattle.blob_directory.specs.declared.edit.Binding.{Binding}
use Rattle.blob_directory.specs.declared.table.Table.{Table}
use Rattle.blob_directory.specs.Names.{Edit, Names, entry}

abbrev pub flat : {T : Type 0} → Option (Option T) → Option T
flat None = None
flat (Some x) = x

-- what the table has at an entry
abbrev pub cell : Table → List ℕ → Option (Option Binding)
cell table e = get_by (λ k. slice_cmp nat_cmp e k.items) table.entries

-- what each entry is bound to
abbrev pub bound : Table → Names
bound table e = flat (cell table e)

-- there is room for a binding of this entry
abbrev pub HasRoom : Table → List ℕ → Type 0
HasRoom table e = is_some (cell table e) ≡ true

-- there is room for a change that is made alone: one that frees an entry needs none
abbrev pub HasRoomAlone : Table → List ℕ × Option Binding → Type 0
HasRoomAlone table (e, None) = Unit {0}
HasRoomAlone table (e, Some to) = HasRoom table e

-- there is room for an edit of one change, or of two
abbrev pub HasRoomFor : Table → Edit → Type 0
HasRoomFor table [] = Unit {0}
HasRoomFor table (c ∷ []) = HasRoomAlone table c
HasRoomFor table (c ∷ d ∷ more) = HasRoom table c.0 × HasRoom table d.0

-- room isn't lost
abbrev pub KeepsRoom : Table → Table → Type 0
KeepsRoom table table' = (e : List ℕ) → HasRoom table e → HasRoom table' e

-- a list of names has this one, with this binding
abbrev pub HasName : List (Vec ℕ Global × Binding) → List ℕ → Binding → Type 0
HasName list name to = (n : Vec ℕ Global × Binding) × Contains list n × (n.0.items ≡ name) × (n.1 ≡ to)

-- the list has all names of a directory, with their bindings
abbrev pub HasAll : Names → ℕ → List (Vec ℕ Global × Binding) → Type 0
HasAll names directory list = (name : List ℕ) (to : Binding) → names (entry directory name) ≡ Some to → HasName list name to

-- and no other
abbrev pub HasOnly : Names → ℕ → List (Vec ℕ Global × Binding) → Type 0
HasOnly names directory list = All (λ n. names (entry directory n.0.items) ≡ Some n.1) list

-- no name of a directory is bound
abbrev pub HasNoName : Names → ℕ → Type 0
HasNoName names directory = (name : List ℕ) → names (entry directory name) ≡ None

-- each entry that the first names bind, the second ones bind to the same
abbrev pub IsWithin : Names → Names → Type 0
IsWithin names others = (e : List ℕ) (to : Binding) → names e ≡ Some to → others e ≡ Some to
