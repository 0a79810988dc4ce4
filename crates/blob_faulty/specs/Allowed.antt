-- What a write and its steps may return, and the capacity that they reserve for its runs.
use Rattle.std.specs.Prelude.{◌≡◌, ℕ, ◌+◌, ◌≤◌, Bool, true, false, List, ◌∷◌, length, All, Option, is_some, Result, OnOk}
use Rattle.rand_core.specs.Stream.{Stream}
use Rattle.blob_base.specs.declared.storage.Blob as handles
use Rattle.blob_base.specs.declared.storage.Durable as stores
use Rattle.blob_header.specs.Refusals.{Refusal}
use Rattle.blob_header.specs.declared.error.Error.{Error}
use Rattle.blob_model.specs.Directory.{is_current}
use Rattle.blob_model.specs.Holes.{Holes}
use Rattle.blob_model.specs.Runs.{Run}
use Rattle.blob_draws.specs.Changes.{lacks_number}
use Rattle.blob_draws.specs.Answers.{Allowed, or_memory, exhausted_or, last_end, allows_fate, allows_laid, allows_resize, allows_runs, allows_write}
use Rattle.blob_draws.specs.Fates.{write_fate_of, resize_fate_of}
use Rattle.blob_draws.specs.Faults.{WriteFate, retention}
use Rattle.blob_draws.specs.declared.faults.ResizeFate as drawn_resize
use Rattle.blob_draws.specs.declared.faults.WriteFate as drawn_write
use Rattle.blob_pending.specs.Lists.{HasRoomAt}
use Rattle.blob_faulty.specs.declared.blob.Blob.{Blob}
use Rattle.blob_faulty.specs.declared.storage.Storage.{Storage}
use Rattle.blob_faulty.specs.Pieces.{EndsWithin}
use Rattle.blob_faulty.specs.Wrapper.{inner_of, rng_of, config_of, next_write_of, inside}

module _ {S R O B : Type 0} (handle : handles.Ghosts B S O) (b : Blob B) (w : Storage S R O) where
  abbrev InnerWrites : ℕ → List ℕ → Bool → Allowed
  InnerWrites = handle.allows_write (inside b) (inner_of w)

  abbrev InnerReserves : ℕ → Allowed
  InnerReserves = handle.allows_reserve (inside b) (inner_of w)

  -- a write, by the draws that the generator's stream decides
  abbrev pub MayWrite : (R → Stream) → ℕ → List ℕ → Bool → Allowed
  MayWrite stream = allows_write InnerWrites InnerReserves handle.is_direct (config_of w) (next_write_of w) (stream (rng_of w))

  -- a plain write, which needs a number if it is recorded
  abbrev pub MayWritePlain : ℕ → List ℕ → Allowed
  MayWritePlain offset bytes = or_memory (exhausted_or (lacks_number (is_some (retention (config_of w).write_rate)) (next_write_of w) bytes) (InnerWrites offset bytes false))

  -- a write with a drawn outcome
  abbrev pub MayWriteBy : WriteFate → Bool → ℕ → List ℕ → Allowed
  MayWriteBy fate sync offset bytes = or_memory (allows_fate fate InnerWrites InnerReserves handle.is_direct (is_some (retention (config_of w).write_rate)) (next_write_of w) sync offset bytes)

  -- by the code's outcome
  abbrev pub MayWriteAs : drawn_write.WriteFate → Bool → ℕ → List ℕ → Allowed
  MayWriteAs fate = MayWriteBy (write_fate_of fate)

  -- a SYNC write
  abbrev pub MayWriteSynced : ℕ → List ℕ → Allowed
  MayWriteSynced offset bytes = or_memory (InnerWrites offset bytes true)

  -- a resize, by the code's outcome
  abbrev pub MayResizeAs : drawn_resize.ResizeFate → ℕ → Allowed
  MayResizeAs fate = allows_resize (handle.allows_resize (inside b) (inner_of w)) (resize_fate_of fate)

  -- the reservation for runs
  abbrev pub MayReserve : List Run → Allowed
  MayReserve rs = or_memory (InnerReserves (last_end 0 rs))

  -- the kept runs of a failed write: with the reservation for them, and after it
  abbrev pub MayLayKept : List Run → Allowed
  MayLayKept rs = or_memory (allows_runs InnerWrites InnerReserves handle.is_direct rs)

  abbrev pub MayLay : List Run → Allowed
  MayLay rs = allows_laid InnerWrites handle.is_direct rs

  -- another handle and store may return from a later write only what these may
  abbrev pub AllowsAsMuch : Blob B → Storage S R O → Type 0
  AllowsAsMuch c after = (offset : ℕ) (bytes : List ℕ) (sync : Bool) (answer : Option Refusal) → handle.allows_write (inside c) (inner_of after) offset bytes sync answer → InnerWrites offset bytes sync answer

module _ {S R O B : Type 0} (store : stores.Ghosts S O) (handle : handles.Ghosts B S O) (b : Blob B) (w : Storage S R O) where
  -- the list at this index is that of the handle's incarnation, and has capacity for these durable ranges
  abbrev pub HasListRoom : ℕ → Holes → Type 0
  HasListRoom list ranges = HasRoomAt store.place w.lists.all.lists.items list (handle.place (inside b)) ranges

  -- a fact about a current handle of a store that keeps reserved capacity
  abbrev pub IfRoomIsKept : Type 0 → Type 0
  IfRoomIsKept P = handle.is_direct ≡ true → is_current (store.directory (inner_of w)) (handle.place (inside b)) ≡ true → P

  -- after Ok it has the capacity for the runs
  abbrev pub ReservesRoom : {T : Type 0} → Blob B → Storage S R O → List Run → Result T Error → Type 0
  ReservesRoom c after rs result = IfRoomIsKept (OnOk result (last_end 0 rs ≤ handle.room (inside c) (inner_of after)))

  abbrev pub HasInnerRoom : List Run → Type 0
  HasInnerRoom rs = IfRoomIsKept (All (EndsWithin (handle.room (inside b) (inner_of w))) rs)

  -- capacity for a range was used, and that for later ranges is left
  abbrev pub LeavesRoom : Blob B → Storage S R O → ℕ → Run → Type 0
  LeavesRoom c after list run = (later : Holes) → HasListRoom list ((run.0, run.0 + length run.1) ∷ later) → HasRoomAt store.place after.lists.all.lists.items list (handle.place (inside c)) later
