-- What the passes over the pending writes before a crash note of their places, by numbers.
use Rattle.std.specs.Prelude.{◌≡◌, ℕ, Bool, true, List, [], ◌∷◌, Option, Some, None, Vec, if◌then◌else◌, is_some, unwrap_or}
use Rattle.std.specs.BTreeMap.{BTreeMap, get}
use Rattle.std.specs.Global.{Global}
use Rattle.std.specs.Ordering.{is_eq, nat_cmp}
use Rattle.blob_model.specs.Log.{Need}
use Rattle.blob_model.specs.Order.{In}
use Rattle.blob_model.specs.Pending.{waiting}
use Rattle.blob_model.specs.Places.{Place as Origin}
use Rattle.blob_journal.specs.Currents.{pending_at}
use Rattle.blob_journal.specs.Journals.{store_of}
use Rattle.blob_fs.specs.declared.crash.Place.{Place}
use Rattle.blob_fs.specs.declared.file_system.FileSystem.{FileSystem}
use Rattle.blob_fs.specs.Files.{journaled_of}
use Rattle.blob_fs.specs.Places.{IsInodeOf, IsPlaceOf}

-- the place of a write of a file
abbrev pub place_in : Option ℕ → Need → Place
place_in inode w = record { inode = inode; offset = w.write.offset }

-- the place of a number after those of these writes of a file are noted, one after another
abbrev pub noted : Option ℕ → List Need → ℕ → Option Place → Option Place
noted inode [] number place = place
noted inode (w ∷ ws) number place =
    noted inode ws number (if is_eq (nat_cmp w.write.number number) then Some (place_in inode w) else place)

-- after these writes of a file are noted in a map
abbrev pub NotesPlaces : Option ℕ → List Need → BTreeMap ℕ Place → BTreeMap ℕ Place → Type 0
NotesPlaces inode ws before after =
    (number : ℕ) → get nat_cmp after number ≡ noted inode ws number (get nat_cmp before number)

-- the place of a row's number
abbrev pub place_of_row : BTreeMap ℕ Place → ℕ × Vec Bool Global → Place
place_of_row places row = unwrap_or (get nat_cmp places row.0) (record { inode = None; offset = 0 })

-- the file of each number
abbrev pub AreInodes : {R : Type 0} → FileSystem R → BTreeMap ℕ ℕ → Type 0
AreInodes fs inodes = (number : ℕ) → IsInodeOf fs number (get nat_cmp inodes number)

-- the place of each pending write by its number, and no other
pub record ArePlaces {R : Type 0} (fs : FileSystem R) (places : BTreeMap ℕ Place) : Type 0 where
  pub found : (number : ℕ) (place : Place) → get nat_cmp places number ≡ Some place → IsPlaceOf fs number place
  pub each : (origin : Origin) (need : Need) → In need (waiting (pending_at (store_of (journaled_of fs)) origin))
      → is_some (get nat_cmp places need.write.number) ≡ true
