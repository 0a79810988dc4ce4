-- Exclusive opens: a current incarnation has one handle, and its name is open by that handle.
use Rattle.std.specs.Prelude.{◌≡◌, ℕ, true, Option, Some}
use Rattle.blob_model.specs.Directory.{is_current}
use Rattle.blob_model.specs.Places.{Place, same_place}
use Rattle.blob_lab_model.specs.Answers.{kept_at}
use Rattle.blob_opens.specs.OpenNames.{OpenNames, Registration}
use Rattle.blob_lab_model.specs.States.{State, Held}

-- an incarnation's name is open by this registration
pub record IsOpenBy (names : OpenNames) (o : Place) (registration : Option Registration) : Type 0 where
  pub by : Registration
  pub held : registration ≡ Some by
  pub partition : by.partition ≡ o.partition
  pub name : by.name ≡ o.name
  pub number : names.registered o.partition o.name ≡ Some by.number

-- the name of each handle on a current incarnation is open by the handle's registration
abbrev pub HoldNames : State → Type 0
HoldNames v = (i : ℕ) (h : Held) → kept_at v.handles i ≡ Some h → is_current v.files.directory h.place ≡ true → IsOpenBy v.names h.place h.registration

-- no two handles are on the same current incarnation
abbrev pub Sole : State → Type 0
Sole v = (i j : ℕ) (h k : Held) → kept_at v.handles i ≡ Some h → kept_at v.handles j ≡ Some k → is_current v.files.directory h.place ≡ true → same_place h.place k.place ≡ true → i ≡ j
