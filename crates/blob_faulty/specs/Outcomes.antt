-- What a crash may leave of an incarnation, by its durable bytes and what is pending of it, and what calls are recorded as.
use Rattle.std.specs.Prelude.{◌≡◌, ◌⊎◌, ℕ, ◌≤◌, max, Bool, true, false, List, length, Option, Some, None, option_map}
use Rattle.rand_core.specs.Stream.{Stream}
use Rattle.blob_base.specs.declared.storage.Blob as handles
use Rattle.blob_base.specs.declared.storage.Durable as stores
use Rattle.blob_header.specs.Refusals.{Refusal, BlobMissing}
use Rattle.blob_model.specs.Bytes.{lies, overlay_by, resize}
use Rattle.blob_model.specs.Directory.{is_current}
use Rattle.blob_model.specs.Durable.{Durable}
use Rattle.blob_model.specs.Files.{Files, all_logged}
use Rattle.blob_model.specs.Log.{Entry, Choices, replay_log}
use Rattle.blob_model.specs.Persistence.{HasByte, any_touches}
use Rattle.blob_model.specs.Places.{Place}
use Rattle.blob_model.specs.Stands.{replayed_at}
use Rattle.blob_memory.specs.Store.{directory, place}
use Rattle.blob_memory.specs.declared.blob.Blob as memory_blob
use Rattle.blob_memory.specs.declared.storage.Storage as memory
use Rattle.blob_draws.specs.declared.config.Config.{Config}
use Rattle.blob_draws.specs.declared.config.ResizeConfig.{ResizeConfig}
use Rattle.blob_draws.specs.Faults.{ResizeFate, resize_fate}
use Rattle.blob_draws.specs.Recorded.{kept_entries, recorded_write, recorded_resize, live_of_write, live_of_resize, size_of_write, size_of_resize}
use Rattle.blob_faulty.specs.declared.blob.Blob.{Blob}
use Rattle.blob_faulty.specs.declared.storage.Storage.{Storage}
use Rattle.blob_faulty.specs.Certain.{IsNever, partial_resizes}
use Rattle.blob_faulty.specs.Wrapper.{inner_of, rng_of, config_of, next_write_of, pending_of, inside, Adds, Stands}

-- with these choices, none if it isn't current
abbrev pub left_of : {S R O : Type 0} → (O → Place) → (S → Durable) → Storage S R O → Choices → Place → Option (List ℕ)
left_of place durable w t o = replayed_at t (pending_of place w o) (durable (inner_of w) o)

-- entries of which a crash applies some of these bytes at this offset, and makes no other change
abbrev pub LaysSome : ℕ → List ℕ → List Entry → Choices → Type 0
LaysSome offset bytes entries t = (chosen : ℕ → Bool) × ((x : List ℕ) → replay_log x entries t ≡ overlay_by x offset bytes chosen)

-- bytes, extended by zeros at most up to an offset, with some of a write's bytes over them there
pub record WritesSome (offset : ℕ) (bytes old new : List ℕ) : Type 0 where
  pub grown : ℕ
  pub chosen : ℕ → Bool
  pub no_shorter : length old ≤ grown
  pub no_longer : grown ≤ max (length old) offset
  pub is : new ≡ overlay_by (resize old grown) offset bytes chosen

-- What calls are recorded as.

module _ (R : Type 0) {S O : Type 0} (store : stores.Ghosts S O) where
  -- after a recorded call the wrapper represents the files with its entries
  abbrev pub RecordedStands : Type 0
  RecordedStands = (before after : Storage S R O) (o : Place) (entries : List Entry) (files : Files) →
      is_current (store.directory (inner_of before)) o ≡ true → store.directory (inner_of after) ≡ store.directory (inner_of before) →
      Stands store.place (store.directory (inner_of before)) (store.durable (inner_of before)) before files →
      Adds store.place (store.directory (inner_of before)) (store.durable (inner_of before)) (store.durable (inner_of after)) before after o entries →
      Stands store.place (store.directory (inner_of after)) (store.durable (inner_of after)) after (all_logged files o entries)

  -- and a crash may leave what it might have left before, with these entries done by the same choices
  abbrev pub RecordedLeft : Type 0
  RecordedLeft = (before after : Storage S R O) (o : Place) (entries : List Entry) (files : Files) (t : Choices) →
      is_current (store.directory (inner_of before)) o ≡ true → store.directory (inner_of after) ≡ store.directory (inner_of before) →
      Stands store.place (store.directory (inner_of before)) (store.durable (inner_of before)) before files →
      Adds store.place (store.directory (inner_of before)) (store.durable (inner_of before)) (store.durable (inner_of after)) before after o entries →
      left_of store.place store.durable after t o ≡ option_map (λ x. replay_log x entries t) (left_of store.place store.durable before t o)

-- a crash applies some bytes of a write, and of a resize the requested length or nothing
abbrev pub WritesLay : Type 0
WritesLay = (config : Config) (number : ℕ) (stream : Stream) (sync : Bool) (offset : ℕ) (bytes : List ℕ) (answer : Option Refusal) (t : Choices) →
    LaysSome offset bytes (recorded_write config number stream sync offset bytes answer) t

abbrev pub ResizesCut : Type 0
ResizesCut = (config : Option ResizeConfig) (size len : ℕ) (stream : Stream) (answer : Option Refusal) (t : Choices) → IsNever (partial_resizes config) → (x : List ℕ) →
    (replay_log x (recorded_resize (resize_fate config size len stream).0 len answer) t ≡ x) ⊎ (replay_log x (recorded_resize (resize_fate config size len stream).0 len answer) t ≡ resize x len)

-- a SYNC write that was done is one write that is kept whole
abbrev pub SyncWritesKept : {S R O B : Type 0} → handles.Ghosts (Blob B) (Storage S R O) O → (R → Stream) → Type 0
SyncWritesKept {S} {R} {O} {B} wrapped stream = (b : Blob B) (s : Storage S R O) (offset : ℕ) (bytes : List ℕ) →
    wrapped.allows_write b s offset bytes true None →
    recorded_write (config_of s) (next_write_of s) (stream (rng_of s)) true offset bytes None ≡ kept_entries offset bytes

-- what a write records and what it changes of live bytes lies in its range
abbrev pub RecordedInRange : Type 0
RecordedInRange = (config : Config) (number : ℕ) (stream : Stream) (sync : Bool) (p offset : ℕ) (bytes : List ℕ) (answer : Option Refusal) →
    lies offset (length bytes) p ≡ false → any_touches p (recorded_write config number stream sync offset bytes answer) ≡ false

abbrev pub LiveInRange : Type 0
LiveInRange = (config : Config) (stream : Stream) (sync : Bool) (p v offset : ℕ) (bytes live : List ℕ) (answer : Option Refusal) →
    lies offset (length bytes) p ≡ false → HasByte p v live → HasByte p v (live_of_write config stream sync live offset bytes answer)

-- By a handle on a current incarnation over the memory store.

-- which no write reports as missing
abbrev pub IsNotMissing : Option Refusal → Type 0
IsNotMissing answer = (p n : List ℕ) → answer ≡ Some (BlobMissing p n) → ⊥

abbrev pub FoundWhileCurrent : {R : Type 0} → handles.Ghosts (Blob memory_blob.Blob) (Storage memory.Storage R Place) Place → Type 0
FoundWhileCurrent {R} wrapped = (b : Blob memory_blob.Blob) (w : Storage memory.Storage R Place) (offset : ℕ) (bytes : List ℕ) (sync : Bool) (answer : Option Refusal) →
    is_current (directory (inner_of w)) (place (inside b)) ≡ true → wrapped.allows_write b w offset bytes sync answer → IsNotMissing answer

-- the tracked size stays the length of the live bytes
abbrev pub WriteSizes : Type 0
WriteSizes = (config : Config) (stream : Stream) (sync : Bool) (size : ℕ) (live : List ℕ) (offset : ℕ) (bytes : List ℕ) (answer : Option Refusal) → IsNotMissing answer → size ≡ length live →
    size_of_write config stream sync size offset bytes answer ≡ length (live_of_write config stream sync live offset bytes answer)

abbrev pub ResizeSizes : Type 0
ResizeSizes = (fate : ResizeFate) (size : ℕ) (live : List ℕ) (len : ℕ) (answer : Option Refusal) → size ≡ length live →
    size_of_resize fate size len answer ≡ length (live_of_resize fate live len answer)

-- a write leaves some of its bytes over the live ones; a resize reaches the requested length or leaves them
abbrev pub WriteBytes : Type 0
WriteBytes = (config : Config) (stream : Stream) (sync : Bool) (live : List ℕ) (offset : ℕ) (bytes : List ℕ) (answer : Option Refusal) → IsNotMissing answer →
    WritesSome offset bytes live (live_of_write config stream sync live offset bytes answer)

abbrev pub ResizeBytes : Type 0
ResizeBytes = (config : Option ResizeConfig) (size len : ℕ) (stream : Stream) (live : List ℕ) (answer : Option Refusal) → IsNever (partial_resizes config) →
    (live_of_resize (resize_fate config size len stream).0 live len answer ≡ live) ⊎ (live_of_resize (resize_fate config size len stream).0 live len answer ≡ resize live len)
