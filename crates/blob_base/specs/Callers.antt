-- The possible results of two calls in sequence.
use Rattle.std.specs.Prelude.{◌≡◌, ◌⊎◌, ℕ, List, true, false, Option, Some, None, Result, OnOk, OnErr}
use Rattle.blob_base.specs.StoreChanges.{Publishes}
use Rattle.blob_base.specs.Stores.{LeavesLive, StorageGhosts}
use Rattle.blob_base.specs.declared.storage.Blob as handles
use Rattle.blob_base.specs.declared.storage.Durable as stores
use Rattle.blob_header.specs.declared.error.Error.{Error}
use Rattle.blob_model.specs.Bytes.{resize, write_live}
use Rattle.blob_model.specs.Durable.{durable_without, with_overlay}
use Rattle.blob_model.specs.Live.{live_written}
use Rattle.blob_header.specs.Refusals.{Refusal, error_of}

-- An error of the first call, or a result of the second, by a handle and a store as the first left them.
pub data InTurn {B S : Type 0} (first : Option Refusal → Type 0) (left : B → S → Type 0) (second : B → S → Option Refusal → Type 0) : Option Refusal → Type 0 where
  First : (refusal : Refusal) → first (Some refusal) → InTurn first left second (Some refusal)
  Second : (b : B) (s : S) (answer : Option Refusal) → first None → left b s → second b s answer → InTurn first left second answer

-- as before both calls, or as the first left it
abbrev pub BeforeOrBetween : {X : Type 0} → X → X → X → Type 0
BeforeOrBetween before between now = (now ≡ before) ⊎ (now ≡ between)

-- live bytes before or after a SYNC write of these bytes
abbrev pub MayWriteLive : List ℕ → ℕ → List ℕ → List ℕ → Type 0
MayWriteLive live offset bytes now = BeforeOrBetween live (live_written true live offset bytes) now

-- A handle and its store.

-- a plain write and then a sync
abbrev pub WritesAndSyncs : {S O B : Type 0} → stores.Ghosts S O → handles.Ghosts B S O → B → S → ℕ → List ℕ → Option Refusal → Type 0
WritesAndSyncs store handle b s offset bytes =
    InTurn (handle.allows_write b s offset bytes false) (LeavesLive store handle b s (write_live (handle.live b) offset bytes)) handle.allows_sync

-- a resize and then a started sync
abbrev pub ResizesAndStarts : {S O B : Type 0} → stores.Ghosts S O → handles.Ghosts B S O → B → S → ℕ → Option Refusal → Type 0
ResizesAndStarts store handle b s len =
    InTurn (handle.allows_resize b s len) (LeavesLive store handle b s (resize (handle.live b) len)) handle.allows_start_sync

-- `s` is the store before the call, `s'` the store after it.
module _ {S O B : Type 0} (store : stores.Ghosts S O) (handle : handles.Ghosts B S O) (b : B) (s : S) where
  -- the live bytes with a write are durable
  abbrev pub PublishesWrite : S → ℕ → List ℕ → Type 0
  PublishesWrite s' offset bytes = Publishes store s s' (handle.place b) (write_live (handle.live b) offset bytes)

  -- the resized live bytes are durable
  abbrev pub PublishesResize : S → ℕ → Type 0
  PublishesResize s' len = Publishes store s s' (handle.place b) (resize (handle.live b) len)

  -- durable bytes before or after a SYNC write
  abbrev pub MayWriteRange : S → ℕ → List ℕ → Type 0
  MayWriteRange s' offset bytes =
      BeforeOrBetween (store.durable s) (with_overlay (store.durable s) (handle.place b) offset bytes) (store.durable s')

  -- after an error, durable bytes before or after a SYNC write
  abbrev pub MayWriteOnErr : S → ℕ → List ℕ → Result (Unit {0}) Error → Type 0
  MayWriteOnErr s' offset bytes result = OnErr result (MayWriteRange s' offset bytes)

  -- after Ok, durable bytes after a SYNC write and then a removal of this name
  abbrev pub WriteDrops : S → ℕ → List ℕ → List ℕ → List ℕ → Result (Unit {0}) Error → Type 0
  WriteDrops s' offset bytes p n result =
      OnOk result (store.durable s' ≡ durable_without (with_overlay (store.durable s) (handle.place b) offset bytes) p (Some n))

-- the possible results of a SYNC write and then a removal of this name
abbrev pub WritesAndRemoves : {S H O B : Type 0} → StorageGhosts S H O → handles.Ghosts B S O
    → B → S → ℕ → List ℕ → List ℕ → List ℕ → Result (Unit {0}) Error → Type 0
WritesAndRemoves {S} {H} {O} {B} store handle b s offset bytes p n result = InTurn (handle.allows_write b s offset bytes true)
    (λ (b' : B) s'. (store.durable s' ≡ with_overlay (store.durable s) (handle.place b) offset bytes) × (store.directory s' ≡ store.directory s))
    (λ b' s'. store.allows_remove s' p (Some n)) (error_of result)
