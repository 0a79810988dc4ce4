-- The new names of files that moved to another directory, as edits of their own.
use Rattle.std.specs.Prelude.{◌≡◌, ℕ, ◌<◌, List, [], ◌∷◌, ◌++◌, Vec, Option, Some, false, true, get_or, length, map}
use Rattle.std.specs.Global.{Global}
use Rattle.std.specs.List.{All, Contains}
use Rattle.blob_directory.specs.declared.edit.Binding.{Binding}
use Rattle.blob_directory.specs.declared.unsettled.Unsettled.{Unsettled}
use Rattle.blob_directory.specs.Names.{edit_of, new_name}
use Rattle.blob_directory.specs.Records.{Found}
use Rattle.blob_directory.specs.Syncs.{moved_into, of_name, unbound}
use Rattle.blob_journal.specs.declared.journaled.Journaled.{Journaled}
use Rattle.blob_journal.specs.Keeping.{names_in, told_in}
use Rattle.blob_journal.specs.Settling.{unsettled_of}

-- an entry, and what it is bound to
abbrev pub Name : Type 0
Name = List ℕ × Binding

abbrev pub view_name : Vec ℕ Global × Binding → Name
view_name name = (name.0.items, name.1)

-- an edit that binds it, which nothing settled
abbrev pub binding_told : Name → Found
binding_told name = Some ((name.0, Some name.1) ∷ [], false)

-- edits may be told more, each of which binds a name to what calls see there
pub record TellsAgain {R : Type 0} (j j' : Journaled R) : Type 0 where
  pub again : List Name
  pub seen : All (λ name. names_in j name.0 ≡ Some name.1) again
  pub told : told_in j' ≡ told_in j ++ map binding_told again

-- a name has an edit of its own in this list, in a directory
pub record HasName (edits : List Unsettled) (inode directory : ℕ) (name : Name) : Type 0 where
  pub edit : Unsettled
  pub there : Contains edits edit
  pub is : edit_of edit.edit ≡ (name.0, Some name.1) ∷ []
  pub is_about : edit.about ≡ of_name inode directory

-- edits may be unsettled more, each of one name
pub record AddsNames {R : Type 0} (more : List Unsettled) (j j' : Journaled R) : Type 0 where
  pub is : unsettled_of j' ≡ unsettled_of j ++ more
  pub plain : (directory : ℕ) → map (unbound directory) more ≡ more

-- this name has one of them if calls see it
pub record AddsName {R : Type 0} (name : Option Name) (inode directory : ℕ) (j j' : Journaled R) : Type 0 where
  pub more : List Unsettled
  pub adds : AddsNames more j j'
  pub bound : (n : Name) → name ≡ Some n → names_in j n.0 ≡ Some n.1 → HasName more inode directory n

-- the new name of a move has an edit of its own among these if calls see it
abbrev pub NewNameIsBound : {R : Type 0} → Journaled R → ℕ → List Unsettled → Unsettled → Type 0
NewNameIsBound j directory more e = moved_into directory e.about ≡ true → (n : Name) → new_name (edit_of e.edit) ≡ Some n → names_in j n.0 ≡ Some n.1
    → HasName more e.about.inode directory n

pub record BindsMovedAt {R : Type 0} (index directory : ℕ) (j j' : Journaled R) : Type 0 where
  pub more : List Unsettled
  pub adds : AddsNames more j j'
  pub bound : (e : Unsettled) → index < length (unsettled_of j) → e ≡ get_or (unsettled_of j) index e → NewNameIsBound j directory more e

-- Each unsettled move into the directory is noted, and its new name has an edit of its own behind them if calls see it.
pub record BindsMoved {R : Type 0} (directory : ℕ) (j j' : Journaled R) : Type 0 where
  pub more : List Unsettled
  pub is : unsettled_of j' ≡ map (unbound directory) (unsettled_of j) ++ more
  pub bound : (e : Unsettled) → Contains (unsettled_of j) e → NewNameIsBound j directory more e
