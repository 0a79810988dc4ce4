-- Bytes that a wrapper keeps: no crash can lose them.
use Rattle.std.specs.Prelude.{◌≡◌, ℕ, ◌<◌, ◌≤◌, ◌++◌, length, Bool, true, List, [], Option, Some, None, unwrap_or}
use Rattle.rand_core.specs.Stream.{Stream}
use Rattle.blob_base.specs.declared.storage.Blob as handles
use Rattle.blob_base.specs.declared.storage.Durable as stores
use Rattle.blob_header.specs.Fronts.{BeginsWith}
use Rattle.blob_header.specs.Refusals.{Refusal}
use Rattle.blob_draws.specs.Recorded.{recorded_write}
use Rattle.blob_faulty.specs.declared.blob.Blob.{Blob}
use Rattle.blob_model.specs.Directory.{Directory, current}
use Rattle.blob_model.specs.Durable.{Durable}
use Rattle.blob_model.specs.Files.{Files}
use Rattle.blob_model.specs.Opening.{IsOpened}
use Rattle.blob_model.specs.Persistence.{AreFixed}
use Rattle.blob_model.specs.Places.{Place}
use Rattle.blob_faulty.specs.declared.storage.Storage.{Storage}
use Rattle.blob_faulty.specs.Names.{OpenLeaves}
use Rattle.blob_faulty.specs.Wrapper.{Stands, Adds, KeepsRecords, inner_of, rng_of, config_of, next_write_of}
use Rattle.blob_memory.specs.Store.{directory, durable}
use Rattle.blob_memory.specs.declared.storage.Storage as memory

-- the first bytes of a name's current incarnation, for some files that the wrapper represents
pub record KeepsBytes {S R O : Type 0} (place : O → Place) (names : S → Directory) (bytes_of : S → Durable) (w : Storage S R O) (o : Place) (bytes : List ℕ) : Type 0 where
  pub files : Files
  pub stands : Stands place (names (inner_of w)) (bytes_of (inner_of w)) w files
  -- the incarnation is current, and its number was given
  pub here : current (names (inner_of w)) o.partition o.name ≡ Some o
  pub given : o.number < (names (inner_of w)).next
  -- each of the bytes is fixed
  pub fixed : AreFixed bytes files o

-- the bytes of each incarnation of a store that is wrapped, none if it isn't current
abbrev pub bytes_found : Durable → Place → List ℕ
bytes_found bytes_of o = unwrap_or (bytes_of o) []

-- What is kept through calls that are known by their contracts.

module _ (R : Type 0) {S O : Type 0} (store : stores.Ghosts S O) where
  -- through one that records and retires nothing
  abbrev pub KeptUnrecorded : Type 0
  KeptUnrecorded = (old new : Storage S R O) (o : Place) (bytes : List ℕ) →
      store.directory (inner_of new) ≡ store.directory (inner_of old) → store.durable (inner_of new) ≡ store.durable (inner_of old) → KeepsRecords store.place old new →
      KeepsBytes store.place store.directory store.durable old o bytes → KeepsBytes store.place store.directory store.durable new o bytes

  -- with all its fronts
  abbrev pub KeptFronts : Type 0
  KeptFronts = (w : Storage S R O) (o : Place) (front bytes : List ℕ) → BeginsWith front bytes →
      KeepsBytes store.place store.directory store.durable w o bytes → KeepsBytes store.place store.directory store.durable w o front

  -- through an accepted open of any name, by what it may leave of the inner store
  abbrev pub KeptOpens : (R → Stream) → (S → List ℕ → List ℕ → ℕ → ℕ → Option Refusal → S → Type 0) → Type 0
  KeptOpens stream asked = (old new : Storage S R O) (p n : List ℕ) (first last : ℕ) (at : Place) (live : List ℕ) (version : ℕ) (o : Place) (bytes : List ℕ) →
      IsOpened (store.directory (inner_of old)) (store.durable (inner_of old)) (store.directory (inner_of new)) (store.durable (inner_of new)) p n first last at live version →
      OpenLeaves store.place stream (asked (inner_of old) p n first last None) old new →
      KeepsBytes store.place store.directory store.durable old o bytes → KeepsBytes store.place store.directory store.durable new o bytes

  -- through a write after it
  abbrev pub KeptBehind : (R → Stream) → Type 0
  KeptBehind stream = (old new : Storage S R O) (o : Place) (kept bytes : List ℕ) (offset : ℕ) (sync : Bool) (answer : Option Refusal) →
      store.directory (inner_of new) ≡ store.directory (inner_of old) →
      Adds store.place (store.directory (inner_of old)) (store.durable (inner_of old)) (store.durable (inner_of new)) old new o (recorded_write (config_of old) (next_write_of old) (stream (rng_of old)) sync offset bytes answer) →
      length kept ≤ offset → KeepsBytes store.place store.directory store.durable old o kept → KeepsBytes store.place store.directory store.durable new o kept

  -- with a SYNC write that was done and begins at its end
  abbrev pub KeptAppended : {B : Type 0} → handles.Ghosts (Blob B) (Storage S R O) O → (R → Stream) → Type 0
  KeptAppended {B} wrapped stream = (b : Blob B) (old new : Storage S R O) (o : Place) (kept bytes : List ℕ) (offset : ℕ) →
      wrapped.allows_write b old offset bytes true None →
      store.directory (inner_of new) ≡ store.directory (inner_of old) →
      Adds store.place (store.directory (inner_of old)) (store.durable (inner_of old)) (store.durable (inner_of new)) old new o (recorded_write (config_of old) (next_write_of old) (stream (rng_of old)) true offset bytes None) →
      offset ≡ length kept → KeepsBytes store.place store.directory store.durable old o kept → KeepsBytes store.place store.directory store.durable new o (kept ++ bytes)

-- Over the memory store.

abbrev pub OverMemory : Type 0 → Type 0
OverMemory R = Storage memory.Storage R Place

-- a wrapper represents these files
abbrev pub IsFor : {R : Type 0} → OverMemory R → Files → Type 0
IsFor w f = Stands (λ o. o) (directory (inner_of w)) (durable (inner_of w)) w f

-- it keeps these bytes
abbrev pub Keeps : {R : Type 0} → OverMemory R → Place → List ℕ → Type 0
Keeps w o bytes = KeepsBytes (λ o. o) directory durable w o bytes

-- whatever it kept it still keeps
abbrev pub LosesNothing : {R : Type 0} → OverMemory R → OverMemory R → Type 0
LosesNothing before after = (o : Place) (bytes : List ℕ) → Keeps before o bytes → Keeps after o bytes
