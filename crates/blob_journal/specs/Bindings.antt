-- Which files a crash may find a name of, by the edits that were told.
use Rattle.std.specs.Prelude.{◌≡◌, ◌⊎◌, ℕ, suc, ◌<◌, ◌≤◌, Bool, true, false, ◌||◌, List, [], ◌∷◌, ◌++◌, length, take, Some, None}
use Rattle.blob_directory.specs.declared.edit.Binding.{Binding}
use Rattle.blob_directory.specs.Names.{Edit, Names, Same, all_edited, edited, file}
use Rattle.blob_directory.specs.Profiles.{Rule}
use Rattle.blob_directory.specs.Records.{Found}
use Rattle.blob_directory.specs.Rules.{any}
use Rattle.blob_directory.specs.Settled.{AreSettled}
use Rattle.blob_journal.specs.Told.{OnlySettles, names_kept}

-- the edits of some records
abbrev pub edits_in : List Found → List Edit
edits_in [] = []
edits_in (None ∷ told) = edits_in told
edits_in (Some (edit, settled) ∷ told) = edit ∷ edits_in told

-- if no edit is lost, they bind no entry but as these names do
abbrev pub BindsWithin : List Found → Names → Type 0
BindsWithin told names = (e : List ℕ) (to : Binding) → all_edited (λ _. None) (edits_in told) e ≡ Some to → names e ≡ Some to

-- some crash that may lose any edit that nothing settled finds a name of the file
pub record MayName (told : List Found) (inode : ℕ) : Type 0 where
  pub chosen : ℕ → Bool
  pub entry : List ℕ
  pub is : names_kept any chosen told entry ≡ Some (file inode)

-- none of the edits below a number is lost
abbrev pub KeepsBelow : ℕ → (ℕ → Bool) → ℕ → List Found → Type 0
KeepsBelow limit chosen n [] = Unit {0}
KeepsBelow limit chosen n (None ∷ told) = KeepsBelow limit chosen (suc n) told
KeepsBelow limit chosen n (Some (edit, settled) ∷ told) = (n < limit → (settled || chosen n) ≡ true) × KeepsBelow limit chosen (suc n) told

-- no crash that keeps this many of the first edits finds a name of the file
abbrev pub IsFreed : ℕ → List Found → ℕ → Type 0
IsFreed limit told inode = (chosen : ℕ → Bool) (e : List ℕ) → KeepsBelow limit chosen 0 told → names_kept any chosen told e ≡ Some (file inode) → ⊥

-- Laws of these.

-- a crash by any profile finds names of no other files
abbrev pub KeptMayName : Type 0
KeptMayName = (rule : Rule) (chosen : ℕ → Bool) (told : List Found) (e : List ℕ) (inode : ℕ) → names_kept rule chosen told e ≡ Some (file inode) → MayName told inode

-- an edit adds no file but those that it binds
abbrev pub MayNameOneMore : Type 0
MayNameOneMore = (told : List Found) (edit : Edit) (names : Names) (inode : ℕ) → MayName (told ++ Some (edit, false) ∷ []) inode
    → MayName told inode ⊎ ((e : List ℕ) × (edited names edit e ≡ Some (file inode)))

-- a sync adds none
abbrev pub MayNameSettled : Type 0
MayNameSettled = (told told' : List Found) (inode : ℕ) → OnlySettles told told' → MayName told' inode → MayName told inode

-- an edit binds entries as calls see them after it
abbrev pub WithinOneMore : Type 0
WithinOneMore = (told : List Found) (edit : Edit) (names names' : Names) → ((e : List ℕ) (to : Binding) → edited names edit e ≡ Some to → names' e ≡ Some to)
    → BindsWithin told names → BindsWithin (told ++ Some (edit, false) ∷ []) names'

abbrev pub WithinSettled : Type 0
WithinSettled = (told told' : List Found) (names : Names) → OnlySettles told told' → BindsWithin told names → BindsWithin told' names

-- if each crash finds exactly these names, the edits bind no entry but as they do
abbrev pub WithinGiven : Type 0
WithinGiven = (told : List Found) (names : Names) → ((rule : Rule) (chosen : ℕ → Bool) → Same (names_kept rule chosen told) names) → BindsWithin told names

-- a file without a name is freed by the edits so far
abbrev pub FreedNow : Type 0
FreedNow = (told : List Found) (names : Names) (inode : ℕ) → BindsWithin told names → ((e : List ℕ) → names e ≡ Some (file inode) → ⊥) → IsFreed (length told) told inode

-- it stays so through an edit that doesn't bind it
abbrev pub FreedOneMore : Type 0
FreedOneMore = (limit : ℕ) (told : List Found) (edit : Edit) (names : Names) (inode : ℕ) → ((e : List ℕ) → edited names edit e ≡ Some (file inode) → ⊥)
    → IsFreed limit told inode → IsFreed limit (told ++ Some (edit, false) ∷ []) inode

abbrev pub FreedSettled : Type 0
FreedSettled = (limit : ℕ) (told told' : List Found) (inode : ℕ) → OnlySettles told told' → IsFreed limit told inode → IsFreed limit told' inode

-- once these edits are settled, no crash finds a name of it
abbrev pub FreedIsNotNamed : Type 0
FreedIsNotNamed = (limit n : ℕ) (told : List Found) (inode : ℕ) → limit ≤ n → AreSettled (take n told) → IsFreed limit told inode → MayName told inode → ⊥
