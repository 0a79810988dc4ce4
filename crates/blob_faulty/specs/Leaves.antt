-- What may be found of a blob from now on: its durable bytes, and what any crash leaves that the wrapper may draw.
use Rattle.std.specs.Prelude.{◌≡◌, ◌⊎◌, ℕ, ◌<◌, min, List, Bool, true, false, Option, Some, None}
use Rattle.rand_core.specs.Stream.{Stream}
use Rattle.blob_base.specs.declared.storage.Durable as stores
use Rattle.blob_header.specs.Refusals.{Refusal}
use Rattle.blob_model.specs.Bytes.{resize}
use Rattle.blob_model.specs.Directory.{Directory, current}
use Rattle.blob_model.specs.Durable.{Durable}
use Rattle.blob_model.specs.Files.{Files, admit, crashed_at, durable_at, log_of}
use Rattle.blob_model.specs.Log.{Choices, Entry}
use Rattle.blob_model.specs.Opening.{IsOpened}
use Rattle.blob_model.specs.Places.{Place, same_place}
use Rattle.blob_draws.specs.declared.config.ResizeConfig.{ResizeConfig}
use Rattle.blob_draws.specs.declared.selections.Selections.{Selections}
use Rattle.blob_draws.specs.Faults.{resize_fate}
use Rattle.blob_draws.specs.Recorded.{recorded_resize, recorded_write}
use Rattle.blob_faulty.specs.declared.storage.Storage.{Storage}
use Rattle.blob_faulty.specs.Crashes.{CrashDraws, CrashLeaves}
use Rattle.blob_faulty.specs.Fits.{FitsAll, LaysFitting}
use Rattle.blob_faulty.specs.Keeps.{OverMemory}
use Rattle.blob_faulty.specs.Names.{OpenLeaves, Steps}
use Rattle.blob_faulty.specs.Syncs.{Publishes, Starts}
use Rattle.blob_faulty.specs.Wrapper.{Stands, Adds, KeepsRecords, inner_of, rng_of, config_of, next_write_of}
use Rattle.blob_memory.specs.Store.{directory, durable}

-- a test of bytes
abbrev pub Test : Type 0
Test = List ℕ → Bool

-- all that may be found of a name's current incarnation passes the test, by some files that the wrapper represents
pub record LeavesOnly {S R O : Type 0} (place : O → Place) (names : S → Directory) (bytes_of : S → Durable) (w : Storage S R O) (o : Place) (test : Test) : Type 0 where
  pub files : Files
  pub stands : Stands place (names (inner_of w)) (bytes_of (inner_of w)) w files
  pub here : current (names (inner_of w)) o.partition o.name ≡ Some o
  pub given : o.number < (names (inner_of w)).next
  pub durable : test (durable_at files o) ≡ true
  pub crash : (t : Choices) → FitsAll t (log_of files.log o) → test (crashed_at files t o) ≡ true

module _ (R : Type 0) {S O : Type 0} (store : stores.Ghosts S O) where
  abbrev pub Leaves : Storage S R O → Place → Test → Type 0
  Leaves w o test = LeavesOnly store.place store.directory store.durable w o test

  -- the durable bytes pass the test
  abbrev pub LeavesFound : Type 0
  LeavesFound = (w : Storage S R O) (o : Place) (test : Test) (live : List ℕ) → Leaves w o test → store.durable (inner_of w) o ≡ Some live → test live ≡ true

  -- and so do they each weaker test
  abbrev pub LeavesWeaker : Type 0
  LeavesWeaker = (w : Storage S R O) (o : Place) (test weaker : Test) → ((x : List ℕ) → test x ≡ true → weaker x ≡ true) → Leaves w o test → Leaves w o weaker

  -- after a call that records and retires nothing
  abbrev pub LeavesUnrecorded : Type 0
  LeavesUnrecorded = (old new : Storage S R O) (o : Place) (test : Test) →
      store.directory (inner_of new) ≡ store.directory (inner_of old) → store.durable (inner_of new) ≡ store.durable (inner_of old) → KeepsRecords store.place old new →
      Leaves old o test → Leaves new o test

  -- after a call after which the wrapper represents the same files, as a finished sync or one that returned an error
  abbrev pub LeavesSame : Type 0
  LeavesSame = (old new : Storage S R O) (o : Place) (test : Test) → store.directory (inner_of new) ≡ store.directory (inner_of old) →
      Steps store.place store.directory store.durable old new (λ files. files) →
      Leaves old o test → Leaves new o test

  -- after what is pending of a name was discarded
  abbrev pub LeavesDiscarded : Type 0
  LeavesDiscarded = (old new : Storage S R O) (p n : List ℕ) (o : Place) (test : Test) → store.directory (inner_of new) ≡ store.directory (inner_of old) →
      Steps store.place store.directory store.durable old new (λ files. admit files p n) →
      Leaves old o test → Leaves new o test

  -- after an accepted open of any name
  abbrev pub LeavesOpened : (R → Stream) → (S → List ℕ → List ℕ → ℕ → ℕ → Option Refusal → S → Type 0) → Type 0
  LeavesOpened stream asked = (old new : Storage S R O) (p n : List ℕ) (first last : ℕ) (at : Place) (live : List ℕ) (version : ℕ) (o : Place) (test : Test) →
      IsOpened (store.directory (inner_of old)) (store.durable (inner_of old)) (store.directory (inner_of new)) (store.durable (inner_of new)) p n first last at live version →
      OpenLeaves store.place stream (asked (inner_of old) p n first last None) old new →
      Leaves old o test → Leaves new o test

  -- after a write or a resize of another incarnation
  abbrev pub LeavesBeside : Type 0
  LeavesBeside = (old new : Storage S R O) (a o : Place) (test : Test) (entries : List Entry) → a.number < (store.directory (inner_of old)).next → same_place a o ≡ false →
      store.directory (inner_of new) ≡ store.directory (inner_of old) →
      Adds store.place (store.directory (inner_of old)) (store.durable (inner_of old)) (store.durable (inner_of new)) old new a entries →
      Leaves old o test → Leaves new o test

  -- after a sync or a started sync of another incarnation
  abbrev pub LeavesSyncedBeside : Type 0
  LeavesSyncedBeside = (old new : Storage S R O) (a o : Place) (test : Test) (live : List ℕ) → a.number < (store.directory (inner_of old)).next → same_place a o ≡ false →
      store.directory (inner_of new) ≡ store.directory (inner_of old) →
      Publishes store.place (store.directory (inner_of old)) (store.durable (inner_of old)) (store.durable (inner_of new)) old new a live ⊎ Starts store.place (store.directory (inner_of old)) (store.durable (inner_of old)) (store.durable (inner_of new)) old new a live →
      Leaves old o test → Leaves new o test

  -- after a write, whatever it returns: what passed the test, with bytes of the write over it that its mode allows, passes the next one
  abbrev pub LeavesWritten : (R → Stream) → Type 0
  LeavesWritten stream = (old new : Storage S R O) (o : Place) (test next : Test) (offset : ℕ) (bytes : List ℕ) (sync : Bool) (answer : Option Refusal) →
      store.directory (inner_of new) ≡ store.directory (inner_of old) →
      Adds store.place (store.directory (inner_of old)) (store.durable (inner_of old)) (store.durable (inner_of new)) old new o (recorded_write (config_of old) (next_write_of old) (stream (rng_of old)) sync offset bytes answer) →
      ((x y : List ℕ) → test x ≡ true → LaysFitting (config_of old) offset bytes x y → next y ≡ true) →
      Leaves old o test → Leaves new o next

  -- after a resize, whatever it returns: what passed the test, as it is or cut or extended, passes the next one
  abbrev pub LeavesResized : Type 0
  LeavesResized = (old new : Storage S R O) (o : Place) (test next : Test) (config : Option ResizeConfig) (size len : ℕ) (stream : Stream) (answer : Option Refusal) →
      store.directory (inner_of new) ≡ store.directory (inner_of old) →
      Adds store.place (store.directory (inner_of old)) (store.durable (inner_of old)) (store.durable (inner_of new)) old new o (recorded_resize (resize_fate config size len stream).0 len answer) →
      ((x : List ℕ) → test x ≡ true → next x ≡ true) →
      ((x : List ℕ) (n : ℕ) → test x ≡ true → (n ≡ len) ⊎ (min size len < n) → next (resize x n) ≡ true) →
      Leaves old o test → Leaves new o next

  -- after a sync or a started sync: the live bytes alone need pass the next test
  abbrev pub LeavesSynced : Type 0
  LeavesSynced = (old new : Storage S R O) (o : Place) (test next : Test) (live : List ℕ) →
      store.directory (inner_of new) ≡ store.directory (inner_of old) →
      Publishes store.place (store.directory (inner_of old)) (store.durable (inner_of old)) (store.durable (inner_of new)) old new o live ⊎ Starts store.place (store.directory (inner_of old)) (store.durable (inner_of old)) (store.durable (inner_of new)) old new o live →
      next live ≡ true → Leaves old o test → Leaves new o next

-- after a crash of a wrapper over the memory store
abbrev pub LeavesCrashed : {R : Type 0} → (R → Stream) → Type 0
LeavesCrashed {R} stream = (old new : OverMemory R) (o : Place) (test : Test) (kept : Selections) →
    directory (inner_of new) ≡ directory (inner_of old) → CrashDraws stream old new kept → CrashLeaves old new kept →
    LeavesOnly (λ o. o) directory durable old o test → LeavesOnly (λ o. o) directory durable new o test
