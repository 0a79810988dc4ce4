-- Which edits a sync settles, of those that nothing settled: the rows of a profile.
use Rattle.std.specs.Prelude.{◌≡◌, ◌⊎◌, ◌↔◌, ℕ, ◌<◌, ◌≤◌, ◌&&◌, ◌||◌, not, Bool, true, false, List, Option, Some, None, IsTrue, is_some, if◌then◌else◌, map, nat_eq}
use Rattle.std.specs.List.{Contains, list_any}
use Rattle.blob_directory.specs.declared.profile.Settles.{Settles}
use Rattle.blob_directory.specs.declared.profile.Settles.TheVariants.{Own, Names, UpToLast, UpToLastOrSize, All}
use Rattle.blob_directory.specs.declared.unsettled.About.{About}
use Rattle.blob_directory.specs.declared.unsettled.Synced.{Synced}
use Rattle.blob_directory.specs.declared.unsettled.Synced.TheVariants.{File, Data, Directory}
use Rattle.blob_directory.specs.declared.unsettled.Unsettled.{Unsettled}
use Rattle.blob_directory.specs.declared.edit.Binding.{Binding}
use Rattle.blob_directory.specs.declared.edit.Change as rust_change
use Rattle.blob_directory.specs.Names.{all_edited, edit_of, is_binding}

abbrev pub is_number : Option ℕ → ℕ → Bool
is_number None n = false
is_number (Some m) n = nat_eq m n

-- an edit of a name of this inode
abbrev pub is_of : ℕ → About → Bool
is_of inode about = nat_eq about.inode inode || is_number about.other inode

-- an edit of a name in this directory; a truncation is in the file's own number
abbrev pub is_in : ℕ → About → Bool
is_in directory about = nat_eq about.directory directory || is_number about.other_directory directory

-- what a truncation of this file is about
abbrev pub of_truncation : ℕ → About
of_truncation inode = record { inode = inode; other = None; directory = inode; other_directory = None; moves_file = false }

-- what the edit of one name is about
abbrev pub of_name : ℕ → ℕ → About
of_name inode directory = record { inode = inode; other = None; directory = directory; other_directory = None; moves_file = false }

-- the move of a file into this directory from another one
abbrev pub moved_into : ℕ → About → Bool
moved_into directory about = about.moves_file && is_number about.other_directory directory && not (nat_eq about.directory directory)

-- such a move, of which the new name has an edit of its own: it is in the old directory alone
abbrev pub unbound : ℕ → Unsettled → Unsettled
unbound directory edit = if moved_into directory edit.about then record edit { about = record edit.about { other_directory = None } } else edit

-- An edit of a name in this directory. The move of a file to another directory is one in the old directory alone.
abbrev pub is_settled_in : ℕ → About → Bool
is_settled_in directory about = is_in directory about && not (moved_into directory about)

-- one or the other; `alone` leaves out exchanges of two names
abbrev pub touches : Bool → ℕ → About → Bool
touches alone number about = (is_of number about || is_in number about) && not (alone && is_some about.other)

-- an edit that binds or frees one name of this inode
abbrev pub is_one_of : ℕ → About → Bool
is_one_of number about = nat_eq about.inode number && not (is_some about.other || is_some about.other_directory)

-- the edit makes this directory, or gives this file a name
abbrev pub makes : ℕ → Unsettled → Bool
makes inode edit = is_one_of inode edit.about && is_binding (edit_of edit.edit)

-- a directory that one of these edits makes
abbrev pub is_new : List Unsettled → ℕ → Bool
is_new edits directory = list_any (makes directory) edits

-- the names that these edits alone give
abbrev pub named : List Unsettled → List ℕ → Option Binding
named edits = all_edited (λ _. None) (map (λ (u : Unsettled). edit_of u.edit) edits)

abbrev pub is_bound_to : ℕ → Option Binding → Bool
is_bound_to inode None = false
is_bound_to inode (Some to) = nat_eq to.inode inode

-- these edits leave the name that this change is of to the inode
abbrev pub leaves : List Unsettled → ℕ → rust_change.Change → Bool
leaves edits inode change = is_bound_to inode (named edits change.entry.items)

abbrev pub leaves_second : List Unsettled → ℕ → Option rust_change.Change → Bool
leaves_second edits inode None = false
leaves_second edits inode (Some change) = leaves edits inode change

-- The edit changes a name in the directory that the edits leave to the inode. Its second name is in its other directory.
abbrev pub keeps_name : List Unsettled → ℕ → ℕ → Unsettled → Bool
keeps_name edits inode directory edit =
    (nat_eq edit.about.directory directory && leaves edits inode edit.edit.first)
    || (is_number edit.about.other_directory directory && leaves_second edits inode edit.edit.second)

-- an edit of the inode is of a name in the directory that the inode still has
pub record IsAbove (edits : List Unsettled) (inode directory : ℕ) : Type 0 where
  pub edit : Unsettled
  pub there : Contains edits edit
  pub of_inode : is_of inode edit.about ≡ true
  pub in_directory : keeps_name edits inode directory edit ≡ true

-- the inode itself and, upward, each new directory in which one of these has a name
pub data Upward (edits : List Unsettled) (inode : ℕ) : ℕ → Type 0 where
  Itself : Upward edits inode inode
  Above : (i d : ℕ) → Upward edits inode i → IsAbove edits i d → is_new edits d ≡ true → Upward edits inode d

-- the edit makes one of these
pub record MakesUpward (edits : List Unsettled) (inode : ℕ) (edit : Unsettled) : Type 0 where
  pub above : ℕ
  pub upward : Upward edits inode above
  pub makes : makes above edit ≡ true

-- an edit of the inode, or one that makes a directory above it
abbrev pub IsUpward : List Unsettled → ℕ → Unsettled → Type 0
IsUpward edits inode edit = (is_of inode edit.about ≡ true) ⊎ MakesUpward edits inode edit

-- some edit is of a name of the inode, or in the directory
pub record HasEdit (edits : List Unsettled) (alone : Bool) (number : ℕ) : Type 0 where
  pub edit : Unsettled
  pub there : Contains edits edit
  pub touches : touches alone number edit.about ≡ true

-- such an edit is this one or comes after it
pub record IsUpToLast (edits : List Unsettled) (alone : Bool) (number : ℕ) (edit : Unsettled) : Type 0 where
  pub last : HasEdit edits alone number
  pub up_to : edit.number ≤ last.edit.number

-- A sync of a file or of a directory settles this edit. The edits in a file's own number are its truncations.
abbrev pub SyncSettles : Settles → Synced → List Unsettled → Unsettled → Type 0
SyncSettles All synced edits edit = Unit {0}
SyncSettles Own (File inode sized) edits edit = is_in inode edit.about ≡ true
SyncSettles Own (Data inode sized) edits edit = is_in inode edit.about ≡ true
SyncSettles Own (Directory d) edits edit = is_in d edit.about ≡ true
SyncSettles Names (File inode sized) edits edit = IsUpward edits inode edit
SyncSettles Names (Data inode sized) edits edit = IsUpward edits inode edit
SyncSettles Names (Directory d) edits edit = IsUpward edits d edit ⊎ (is_settled_in d edit.about ≡ true)
SyncSettles UpToLast (File inode sized) edits edit = IsUpToLast edits false inode edit ⊎ (edit.number < sized)
SyncSettles UpToLast (Data inode sized) edits edit = IsUpToLast edits true inode edit ⊎ (edit.number < sized)
SyncSettles UpToLast (Directory d) edits edit = IsUpToLast edits false d edit
SyncSettles UpToLastOrSize (File inode sized) edits edit = IsUpToLast edits false inode edit ⊎ (edit.number < sized)
SyncSettles UpToLastOrSize (Data inode sized) edits edit = edit.number < sized
SyncSettles UpToLastOrSize (Directory d) edits edit = Unit {0}

-- an edit, marked as wanted or not, and as seen
abbrev pub marked : (Unsettled → Bool) → Unsettled → Unsettled
marked wants edit = record edit { is_wanted = wants edit; is_seen = true }

-- the test passes exactly those that the sync settles
abbrev pub Wants : Settles → Synced → List Unsettled → (Unsettled → Bool) → Type 0
Wants settles synced edits wants = (edit : Unsettled) → Contains edits edit → IsTrue (wants edit) ↔ SyncSettles settles synced edits edit

-- the same edits, of which exactly those are marked that the sync settles
pub record Marks (settles : Settles) (synced : Synced) (edits marks : List Unsettled) : Type 0 where
  pub wants : Unsettled → Bool
  pub exactly : Wants settles synced edits wants
  pub is : marks ≡ map (marked wants) edits
