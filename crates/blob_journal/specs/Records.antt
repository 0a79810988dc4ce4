-- The edits of a journal that nothing settled, and their records.
use Rattle.std.specs.Prelude.{◌≡◌, ℕ, suc, ◌≤◌, Bool, true, ◌||◌, List, Some, None, [], ◌∷◌, ◌++◌, length, nat_eq}
use Rattle.std.specs.List.{list_any}
use Rattle.blob_packed.specs.Records.{Record, packed}
use Rattle.blob_directory.specs.declared.unsettled.Unsettled.{Unsettled}
use Rattle.blob_directory.specs.Names.{edit_of}
use Rattle.blob_directory.specs.Records.{Found, record_of}

-- the record of an edit has it, settled or not; it has the number that the edit says, and begins where the edit says
pub record HasEdit (records : List Record) (e : Unsettled) : Type 0 where
  pub before : List Record
  pub after : List Record
  pub settled : Bool
  pub is : records ≡ before ++ record_of (edit_of e.edit) settled ∷ after
  pub number : e.record ≡ length before
  pub offset : e.offset ≡ length (packed before)

-- the same records, that of the edit settled
abbrev pub settled_of : (records : List Record) (e : Unsettled) → HasEdit records e → List Record
settled_of records e has = has.before ++ record_of (edit_of e.edit) true ∷ has.after

-- edits with records of their own, whose numbers are from one on, in order
abbrev pub InRecords : ℕ → List Record → List Unsettled → Type 0
InRecords from records [] = Unit {0}
InRecords from records (e ∷ edits) = (from ≤ e.record) × HasEdit records e × InRecords (suc e.record) records edits

-- one of the edits has the record of this number
abbrev pub is_listed : List Unsettled → ℕ → Bool
is_listed edits n = list_any (λ e. nat_eq e.record n) edits

-- the edit of a record, if it has one, is settled or listed
abbrev pub IsListed : Bool → Found → Type 0
IsListed listed None = Unit {0}
IsListed listed (Some (edit, settled)) = (settled || listed) ≡ true

-- so is the edit of each record, from one on
abbrev pub AreListed : ℕ → List Found → List Unsettled → Type 0
AreListed n [] edits = Unit {0}
AreListed n (found ∷ told) edits = IsListed (is_listed edits n) found × AreListed (suc n) told edits
