-- A name that a settled edit changes, and no later one.
use Rattle.std.specs.Prelude.{◌≡◌, ℕ, Bool, true, false, ◌||◌, List, [], ◌∷◌, ◌++◌, Some, None}
use Rattle.std.specs.Str.{bytes_eq}
use Rattle.blob_directory.specs.Names.{Edit, edited}
use Rattle.blob_directory.specs.Profiles.{Rule, names_told}
use Rattle.blob_directory.specs.Records.{Found, found_in}

-- some change of the edit is of this entry
abbrev pub changes_entry : List ℕ → Edit → Bool
changes_entry e [] = false
changes_entry e (c ∷ edit) = bytes_eq c.0 e || changes_entry e edit

-- no edit that was found changes this entry
abbrev pub IsBeside : List ℕ → List Found → Type 0
IsBeside e [] = Unit {0}
IsBeside e (None ∷ found) = IsBeside e found
IsBeside e (Some (edit, settled) ∷ found) = (changes_entry e edit ≡ false) × IsBeside e found

-- a record of the journal has this edit, settled; it changes the entry, and no later edit does
pub record IsLastSettled (journal : List ℕ) (edit : Edit) (e : List ℕ) : Type 0 where
  pub before : List Found
  pub after : List Found
  pub found : found_in journal ≡ before ++ Some (edit, true) ∷ after
  pub changes : changes_entry e edit ≡ true
  pub beside : IsBeside e after

-- then the journal gives the entry the value that this edit sets, whatever was lost
abbrev pub SettledIsFound : Type 0
SettledIsFound = (rule : Rule) (journal : List ℕ) (edit : Edit) (e : List ℕ) → IsLastSettled journal edit e
    → names_told rule journal e ≡ edited (λ _. None) edit e

-- each edit that was found is settled
abbrev pub AreSettled : List Found → Type 0
AreSettled [] = Unit {0}
AreSettled (None ∷ found) = AreSettled found
AreSettled (Some (edit, settled) ∷ found) = (settled ≡ true) × AreSettled found
