-- The edits that a sync settles, as the code tests them.
use Rattle.std.specs.Prelude.{◌≡◌, ◌⊎◌, ℕ, ◌||◌, ◌++◌, Bool, true, false, List, Option, Some, None, nat_lt, nat_le}
use Rattle.std.specs.List.{Contains, list_any}
use Rattle.blob_directory.specs.declared.unsettled.Unsettled.{Unsettled}
use Rattle.blob_directory.specs.declared.wanted.Wanted as wanted
use Rattle.blob_directory.specs.declared.wanted.Wanted.TheVariants as is
use Rattle.blob_directory.specs.Syncs.{HasEdit, is_in, is_new, is_of, is_settled_in, keeps_name, makes}

-- the edit makes one of these
abbrev pub makes_any : List ℕ → Unsettled → Bool
makes_any inodes edit = list_any (λ i. makes i edit) inodes

-- an edit of the inode, or one that makes one of these
abbrev pub is_upward : ℕ → List ℕ → Unsettled → Bool
is_upward inode above edit = is_of inode edit.about || makes_any above edit

abbrev pub is_up_to : Option ℕ → ℕ → Bool
is_up_to None n = false
is_up_to (Some last) n = nat_le n last

abbrev pub wants : wanted.Wanted → Unsettled → Bool
wants is.All edit = true
wants (is.In d) edit = is_in d edit.about
wants (is.Of inode above) edit = is_upward inode above.items edit
wants (is.OfOrIn d above) edit = is_upward d above.items edit || is_settled_in d edit.about
wants (is.UpTo last below) edit = is_up_to last edit.number || nat_lt edit.number below

-- more numbers at the end
abbrev pub Extends : List ℕ → List ℕ → Type 0
Extends old new = (more : List ℕ) × (new ≡ old ++ more)

-- a number was added unless it was there
pub record HasToo (old : List ℕ) (number : ℕ) (new : List ℕ) : Type 0 where
  pub extends : Extends old new
  pub there : Contains new number
  pub only : (n : ℕ) → Contains new n → Contains old n ⊎ (n ≡ number)

-- a number was added unless it was there, if it passes the test
abbrev pub HasWhen : Bool → List ℕ → ℕ → List ℕ → Type 0
HasWhen true old number new = HasToo old number new
HasWhen false old number new = new ≡ old

-- the new directories of an edit in which it changes a name that the inode still has were added unless they were there
pub record HasDirectories (edits : List Unsettled) (inode : ℕ) (edit : Unsettled) (old new : List ℕ) : Type 0 where
  pub extends : Extends old new
  pub there : (d : ℕ) → keeps_name edits inode d edit ≡ true → is_new edits d ≡ true → Contains new d
  pub only : (n : ℕ) → Contains new n → Contains old n ⊎ ((keeps_name edits inode n edit ≡ true) × (is_new edits n ≡ true))

-- one of the first edits, of the inode, is of a name in the directory that all of them leave to the inode
pub record IsAboveBy (edits first : List Unsettled) (inode directory : ℕ) : Type 0 where
  pub edit : Unsettled
  pub there : Contains first edit
  pub of_inode : is_of inode edit.about ≡ true
  pub in_directory : keeps_name edits inode directory edit ≡ true

-- the new directories above an inode by the first edits were added
pub record HasAbove (edits first : List Unsettled) (inode : ℕ) (old new : List ℕ) : Type 0 where
  pub extends : Extends old new
  pub there : (d : ℕ) → IsAboveBy edits first inode d → is_new edits d ≡ true → Contains new d
  pub only : (n : ℕ) → Contains new n → Contains old n ⊎ (IsAboveBy edits first inode n × (is_new edits n ≡ true))

-- the greatest number of an edit of the inode or in the directory
abbrev pub IsLast : List Unsettled → Bool → ℕ → Option ℕ → Type 0
IsLast edits alone number None = HasEdit edits alone number → ⊥
IsLast edits alone number (Some last) =
    (h : HasEdit edits alone number) × (last ≡ h.edit.number) × ((other : HasEdit edits alone number) → nat_le other.edit.number last ≡ true)
