-- An index of what edits are about, and which syncs look into it.
use Rattle.std.specs.Prelude.{◌≡◌, ℕ, ◌&&◌, Bool, true, false, not, List, Option, Some, None}
use Rattle.std.specs.BTreeSet.{BTreeSet, contains}
use Rattle.std.specs.List.{list_any}
use Rattle.std.specs.Ordering.{nat_cmp}
use Rattle.blob_directory.specs.declared.profile.Settles.{Settles}
use Rattle.blob_directory.specs.declared.profile.Settles.TheVariants.{Own, Names, UpToLast, UpToLastOrSize, All}
use Rattle.blob_directory.specs.declared.unsettled.About.{About}
use Rattle.blob_directory.specs.declared.unsettled.Synced.{Synced}
use Rattle.blob_directory.specs.declared.unsettled.Synced.TheVariants.{File, Data, Directory}
use Rattle.blob_directory.specs.declared.unsettled.Unsettled.{Unsettled}
use Rattle.blob_directory.specs.Syncs.{touches}

-- one of the edits is of a name of this inode, or in this directory
abbrev pub about_any : ℕ → List Unsettled → Bool
about_any number edits = list_any (λ (e : Unsettled). touches false number e.about) edits

-- the index has the number
abbrev pub has : BTreeSet ℕ → ℕ → Bool
has index number = contains nat_cmp index number

abbrev pub has_other : BTreeSet ℕ → Option ℕ → Bool
has_other index None = true
has_other index (Some number) = has index number

-- the index has what an edit is about
abbrev pub has_about : BTreeSet ℕ → About → Bool
has_about index about = (has index about.inode && has index about.directory) && (has_other index about.other && has_other index about.other_directory)

abbrev pub is_indexed : BTreeSet ℕ → Unsettled → Bool
is_indexed index edit = has_about index edit.about

-- the index loses no number
abbrev pub KeepsAll : BTreeSet ℕ → BTreeSet ℕ → Type 0
KeepsAll index index' = (number : ℕ) → has index number ≡ true → has index' number ≡ true

-- a sync has seen the edit, and none wants it
abbrev pub is_noted : Unsettled → Bool
is_noted edit = edit.is_seen && not edit.is_wanted

abbrev pub unwanted : Unsettled → Bool
unwanted edit = not edit.is_wanted

abbrev pub number_of : Synced → ℕ
number_of (File inode sized) = inode
number_of (Data inode sized) = inode
number_of (Directory directory) = directory

-- If no edit is about this number, the sync settles none. There may be no such number.
abbrev pub decisive : Settles → Synced → Option ℕ
decisive Own synced = Some (number_of synced)
decisive Names synced = Some (number_of synced)
decisive UpToLast synced = None
decisive UpToLastOrSize synced = None
decisive All synced = None
