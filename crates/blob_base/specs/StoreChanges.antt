-- What a call changes in a store's directory and durable bytes, by the ghost members of its `Durable`.
use Rattle.std.specs.Prelude.{◌≡◌, ℕ, ◌≤◌, List, Bool, true, false, Option, Result, OnOk}
use Rattle.blob_base.specs.declared.options.WriteOptions.{WriteOptions}
use Rattle.blob_base.specs.declared.storage.Durable as stores
use Rattle.blob_base.specs.Options.{IsSync}
use Rattle.blob_header.specs.declared.error.Error.{Error}
use Rattle.blob_model.specs.Directory.{is_current, directory_without}
use Rattle.blob_model.specs.Durable.{durable_without, with_changed, with_overlay}
use Rattle.blob_model.specs.Places.{Place}

-- `s` is the store before the call, `s'` the store after it.
module _ {S O : Type 0} (store : stores.Ghosts S O) (s : S) where
  -- the incarnation is its name's current one
  abbrev pub IsCurrentIn : Place → Type 0
  IsCurrentIn o = is_current (store.directory s) o ≡ true

  -- the incarnation isn't current: it has ended
  abbrev pub IsStaleIn : Place → Type 0
  IsStaleIn o = is_current (store.directory s) o ≡ false

  -- the durable bytes are unchanged
  abbrev pub SameDurable : S → Type 0
  SameDurable s' = store.durable s' ≡ store.durable s

  -- the directory and the durable bytes are unchanged
  abbrev pub SameFiles : S → Type 0
  SameFiles s' = (store.directory s' ≡ store.directory s) × (store.durable s' ≡ store.durable s)

  -- these bytes replace the durable bytes of an incarnation, if it is current
  abbrev pub Publishes : S → Place → List ℕ → Type 0
  Publishes s' o bytes = store.durable s' ≡ with_changed (store.durable s) o (λ _. bytes)

  -- a range is applied to the durable bytes of an incarnation, if it is current
  abbrev pub Overlays : S → Place → ℕ → List ℕ → Type 0
  Overlays s' o offset bytes = store.durable s' ≡ with_overlay (store.durable s) o offset bytes

  -- the same, if the write has SYNC
  abbrev pub OverlaysIfSync : WriteOptions → S → Place → ℕ → List ℕ → Type 0
  OverlaysIfSync options s' o offset bytes = IsSync options → Overlays s' o offset bytes

  -- the directory loses this name, or with None this partition
  abbrev pub DropsNames : S → List ℕ → Option (List ℕ) → Type 0
  DropsNames s' p n = store.directory s' ≡ directory_without (store.directory s) p n

  -- the durable bytes of this name are dropped, or with None those of this partition
  abbrev pub DropsBytes : S → List ℕ → Option (List ℕ) → Type 0
  DropsBytes s' p n = store.durable s' ≡ durable_without (store.durable s) p n

  -- after Ok on a current incarnation, in a store that injects nothing, this logical end is within the room
  abbrev pub ReservesRoom : Bool → Place → Result (Unit {0}) Error → ℕ → ℕ → Type 0
  ReservesRoom direct o result end room = direct ≡ true → is_current (store.directory s) o ≡ true → OnOk result (end ≤ room)
