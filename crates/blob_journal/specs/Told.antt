-- The edits of a journal as they were told, and those of them that a crash keeps.
use Rattle.std.specs.Prelude.{◌≡◌, ℕ, suc, Bool, true, false, ◌&&◌, ◌||◌, List, [], ◌∷◌, ◌++◌, length, drop, Option, Some, None, option_map, if◌then◌else◌, nat_eq}
use Rattle.std.specs.List.{list_any}
use Rattle.blob_directory.specs.declared.unsettled.Unsettled.{Unsettled}
use Rattle.blob_directory.specs.Names.{Edit, Names, all_edited, edited}
use Rattle.blob_directory.specs.Profiles.{Rule, kept_edits, with_seen}
use Rattle.blob_directory.specs.Records.{Found}
use Rattle.blob_directory.specs.Settled.{IsBeside, changes_entry}

-- a crash loses no settled edit, and of the others those in records that it doesn't choose
abbrev pub after_loss : (ℕ → Bool) → ℕ → List Found → List Found
after_loss chosen n [] = []
after_loss chosen n (None ∷ told) = None ∷ after_loss chosen (suc n) told
after_loss chosen n (Some (edit, settled) ∷ told) =
    (if settled || chosen n then Some (edit, settled) else None) ∷ after_loss chosen (suc n) told

-- the edits that count after such a crash, by a rule
abbrev pub edits_kept : Rule → (ℕ → Bool) → List Found → List Edit
edits_kept rule chosen told = kept_edits rule false (with_seen rule false 0 (after_loss chosen 0 told))

-- the names that they give
abbrev pub names_kept : Rule → (ℕ → Bool) → List Found → Names
names_kept rule chosen told = all_edited (λ _. None) (edits_kept rule chosen told)

-- a sync settles the edits of some records
abbrev pub settle_one : Bool → Found → Found
settle_one now None = None
settle_one now (Some (edit, settled)) = Some (edit, settled || now)

abbrev pub settled_in : (ℕ → Bool) → ℕ → List Found → List Found
settled_in which n [] = []
settled_in which n (found ∷ told) = settle_one (which n) found ∷ settled_in which (suc n) told

-- those of the edits that are marked
abbrev pub is_marked_in : List Unsettled → ℕ → Bool
is_marked_in edits n = list_any (λ e. e.is_wanted && nat_eq e.record n) edits

-- the edit of a record, and whether it is settled
abbrev pub edit_in : Found → Option Edit
edit_in found = option_map (λ f. f.0) found

abbrev pub was_settled : Found → Bool
was_settled None = false
was_settled (Some (edit, settled)) = settled

-- the same edit, settled if it was
abbrev pub Stays : Found → Found → Type 0
Stays found found' = (edit_in found' ≡ edit_in found) × (was_settled found ≡ true → was_settled found' ≡ true)

-- later calls add edits behind these, and settle some; no edit changes, and none is unsettled again
abbrev pub Grows : List Found → List Found → Type 0
Grows [] told' = Unit {0}
Grows (found ∷ told) [] = ⊥
Grows (found ∷ told) (found' ∷ told') = Stays found found' × Grows told told'

-- some edits are settled; none is added, none changes, and none is unsettled again
pub record OnlySettles (told told' : List Found) : Type 0 where
  pub grows : Grows told told'
  pub length : length told' ≡ length told

-- of the edits that were told this one is settled and changes the entry, and no later one does
pub record IsLastTold (told : List Found) (edit : Edit) (e : List ℕ) : Type 0 where
  pub before : List Found
  pub after : List Found
  pub is : told ≡ before ++ Some (edit, true) ∷ after
  pub changes : changes_entry e edit ≡ true
  pub beside : IsBeside e after

-- then the entry has what this edit made of it, whatever a crash loses
abbrev pub SettledIsKept : Type 0
SettledIsKept = (rule : Rule) (chosen : ℕ → Bool) (told : List Found) (edit : Edit) (e : List ℕ) → IsLastTold told edit e
    → names_kept rule chosen told e ≡ edited (λ _. None) edit e

-- and it stays so through later calls, unless one of their edits changes the entry
abbrev pub SettledStays : Type 0
SettledStays = (told told' : List Found) (edit : Edit) (e : List ℕ) → IsLastTold told edit e → Grows told told' → IsBeside e (drop (length told) told')
    → IsLastTold told' edit e

-- calls one after another
abbrev pub GrowsOn : Type 0
GrowsOn = (a b c : List Found) → Grows a b → Grows b c → Grows a c

abbrev pub GrowsSame : Type 0
GrowsSame = (told : List Found) → Grows told told
