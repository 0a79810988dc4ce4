-- A wrapper, seen as its inner store, its configuration, and what it has recorded.
use Rattle.std.specs.Prelude.{◌≡◌, ℕ, ◌<◌, List, [], ◌∷◌, ◌++◌, Option, Some, None}
use Rattle.blob_model.specs.Directory.{Directory}
use Rattle.blob_model.specs.Durable.{Durable}
use Rattle.blob_model.specs.Files.{Files, all_logged}
use Rattle.blob_model.specs.Log.{Entry, need_of}
use Rattle.blob_model.specs.Pending.{Pending, Waiting, finish}
use Rattle.blob_model.specs.Places.{Place}
use Rattle.blob_model.specs.Stands.{StandsFor}
use Rattle.blob_draws.specs.declared.config.Config.{Config}
use Rattle.blob_draws.specs.declared.config.WriteConfig.{WriteConfig}
use Rattle.blob_draws.specs.Faults.{new_write}
use Rattle.blob_faulty.specs.declared.storage.Storage.{Storage}
use Rattle.blob_faulty.specs.declared.blob.Blob.{Blob}
use Rattle.blob_pending.specs.Lists.{list_of, ChangesAt}

abbrev pub inner_of : {S R O : Type 0} → Storage S R O → S
inner_of w = w.inner

abbrev pub rng_of : {S R O : Type 0} → Storage S R O → R
rng_of w = w.rng

abbrev pub config_of : {S R O : Type 0} → Storage S R O → Config
config_of w = w.config

abbrev pub next_write_of : {S R O : Type 0} → Storage S R O → ℕ
next_write_of w = w.next_write

abbrev pub next_marker_of : {S R O : Type 0} → Storage S R O → ℕ
next_marker_of w = w.next_marker

-- what is pending of each incarnation, where `place` says which one an origin names
abbrev pub pending_of : {S R O : Type 0} → (O → Place) → Storage S R O → Place → List Pending
pending_of place w = list_of place w.lists.all.lists.items

-- a pending list after the started sync with a marker, if there is one, is finished
abbrev pub finished_by : Option ℕ → List Pending → List Pending
finished_by None list = list
finished_by (Some marker) list = finish marker list

-- the numbers still to be given, and the configuration, stay
pub record KeepsNumbers {S R O : Type 0} (old new : Storage S R O) : Type 0 where
  pub next_write : next_write_of new ≡ next_write_of old
  pub next_marker : next_marker_of new ≡ next_marker_of old
  pub config : config_of new ≡ config_of old

-- nor does a durable byte of the store change, by what `bytes_of` shows of it
pub record KeepsDurable {S R O : Type 0} (bytes_of : S → Durable) (old new : Storage S R O) : Type 0 where
  pub durable : bytes_of (inner_of new) ≡ bytes_of (inner_of old)
  pub numbers : KeepsNumbers old new

-- nothing was recorded and nothing retired
pub record KeepsRecords {S R O : Type 0} (place : O → Place) (old new : Storage S R O) : Type 0 where
  pub pending : (o : Place) → pending_of place new o ≡ pending_of place old o
  pub numbers : KeepsNumbers old new

-- a write is added at the end of the list at this index
abbrev pub GainsWrite : {S R O : Type 0} → (O → Place) → Storage S R O → Storage S R O → ℕ → ℕ → List ℕ → WriteConfig → Type 0
GainsWrite place old new list offset bytes config =
    ChangesAt place old.lists.all.lists.items new.lists.all.lists.items list (λ q. q ++ Waiting (need_of (new_write (next_write_of old) offset bytes config) []) ∷ [])

-- a wrapper over a store with this directory and these durable bytes represents files
abbrev pub Stands : {S R O : Type 0} → (O → Place) → Directory → Durable → Storage S R O → Files → Type 0
Stands place directory durable w files = StandsFor directory durable (pending_of place w) (next_write_of w) (next_marker_of w) files

-- if nothing was recorded, and directory and durable bytes are the same, it represents the same files
abbrev pub KeepsFiles : (S R O : Type 0) → (O → Place) → Type 0
KeepsFiles S R O place = (names names_after : Directory) (bytes bytes_after : Durable) (old new : Storage S R O) (files : Files) →
    names_after ≡ names → bytes_after ≡ bytes → KeepsRecords place old new → Stands place names bytes old files → Stands place names_after bytes_after new files

-- if a wrapper represented files, it now represents them with these entries added to an incarnation's log. The directory is the same
abbrev pub Adds : {S R O : Type 0} → (O → Place) → Directory → Durable → Durable → Storage S R O → Storage S R O → Place → List Entry → Type 0
Adds place names bytes bytes' old new o entries = (files : Files) → o.number < names.next → Stands place names bytes old files → Stands place names bytes' new (all_logged files o entries)

-- a handle's inner handle, and the size that it tracks
abbrev pub inside : {B : Type 0} → Blob B → B
inside blob = blob.inner

abbrev pub size_of : {B : Type 0} → Blob B → ℕ
size_of blob = blob.size
