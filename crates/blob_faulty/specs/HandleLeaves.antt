-- What a call through a handle leaves of it and of its wrapper, apart from files.
use Rattle.std.specs.Prelude.{◌≡◌, ◌≢◌, ◌⊎◌, ℕ, ◌+◌, max, Bool, true, false, List, [], ◌∷◌, ◌++◌, length, Option, Some, None, IsSome, MatchBool}
use Rattle.rand_core.specs.Stream.{Stream}
use Rattle.blob_model.specs.Durable.{with_at}
use Rattle.blob_model.specs.Log.{Entry}
use Rattle.blob_base.specs.HandleCalls.{HandleCall, Read, Write, Resize, Sync, StartSync, Reserve}
use Rattle.blob_base.specs.declared.storage.Blob as handles
use Rattle.blob_base.specs.declared.storage.Durable as stores
use Rattle.blob_model.specs.Pending.{Marker}
use Rattle.blob_model.specs.Places.{Place}
use Rattle.blob_header.specs.Refusals.{Refusal, Injected, Memory, WriteFailed}
use Rattle.blob_model.specs.Runs.{Run, all_behind, runs}
use Rattle.blob_faulty.specs.declared.storage.Storage.{Storage}
use Rattle.blob_faulty.specs.declared.blob.Blob.{Blob}
use Rattle.blob_draws.specs.Fates.{after_write}
use Rattle.blob_draws.specs.Faults.{WriteFate, Done, Failed, draw, ResizeFate, resize_fate, drawn_fate}
use Rattle.blob_draws.specs.Changes.{size_of_runs}
use Rattle.blob_draws.specs.Recorded.{recorded_write, recorded_resize, live_of_write, live_of_resize, size_of_write, size_of_resize}
use Rattle.blob_faulty.specs.Asked.{AsksDrawn, AsksResize, InnerReached, InnerRefusedInRoom}
use Rattle.blob_faulty.specs.Names.{Steps}
use Rattle.blob_faulty.specs.Syncs.{Publishes, Starts}
use Rattle.blob_faulty.specs.Wrapper.{inner_of, rng_of, config_of, next_write_of, next_marker_of, pending_of, inside, size_of, KeepsNumbers, KeepsRecords, Adds}

-- if the wrapper represented files, these entries were added to the log of the handle's incarnation
abbrev pub AddsToLog : {S R O B : Type 0} → stores.Ghosts S O → handles.Ghosts B S O → Blob B → Storage S R O → Storage S R O → List Entry → Type 0
AddsToLog store handle b before after entries =
    Adds store.place (store.directory (inner_of before)) (store.durable (inner_of before)) (store.durable (inner_of after)) before after (handle.place (inside b)) entries

-- the tracked size after a write that was done
abbrev pub size_written : Bool → ℕ → ℕ → List ℕ → ℕ
size_written true size offset [] = size
size_written true size offset (b ∷ bytes) = max size (offset + length (b ∷ bytes))
size_written false size offset bytes = max size (offset + length bytes)

-- nothing was recorded and nothing retired, and the handle tracks the size that it did
pub record Untouched {S R O B : Type 0} (store : stores.Ghosts S O) (b : Blob B) (before : Storage S R O) (c : Blob B) (after : Storage S R O) : Type 0 where
  pub records : KeepsRecords store.place before after
  pub size : size_of c ≡ size_of b

-- runs were written up to one that the inner blob rejected, each as a durable range in the list of the handle's incarnation and in the tracked size.
-- No other entry was recorded
pub record LaidSome {S R O B : Type 0} (store : stores.Ghosts S O) (handle : handles.Ghosts B S O) (rs : List Run) (b : Blob B) (before : Storage S R O) (c : Blob B) (after : Storage S R O) : Type 0 where
  pub front : List Run
  pub left : List Run
  pub parts : rs ≡ front ++ left
  pub refused : InnerRefusedInRoom handle b before c after rs front left
  pub pending : (o : Place) → pending_of store.place after o ≡ with_at (pending_of store.place before) (handle.place (inside b)) (all_behind (pending_of store.place before (handle.place (inside b))) front) o
  pub size : size_of c ≡ size_of_runs (size_of b) front
  pub numbers : KeepsNumbers before after

-- what a write that returns WriteFailed leaves, by its outcome
abbrev pub LeavesFailed : {S R O B : Type 0} → stores.Ghosts S O → handles.Ghosts B S O → WriteFate → ℕ → List ℕ → Blob B → Storage S R O → Blob B → Storage S R O → Type 0
LeavesFailed store handle (Failed chosen) offset bytes b before c after = LaidSome store handle (runs offset bytes chosen) b before c after
LeavesFailed store handle fate offset bytes b before c after = Untouched store b before c after

-- the inner store was asked once, or the call was refused before that
abbrev pub AsksOnce : {S R O : Type 0} → (S → Type 0) → Option Refusal → Storage S R O → Storage S R O → Type 0
AsksOnce asked answer before after = (IsSome answer × (inner_of after ≡ inner_of before)) ⊎ asked (inner_of after)

-- the inner store started a sync, and finished the handle that this returned
pub record Finishes {S : Type 0} (starts : Option ℕ → S → Type 0) (finishes : S → Option ℕ → S → Type 0) (after : S) : Type 0 where
  pub marker : Option ℕ
  pub between : S
  pub started : starts marker between
  pub finished : finishes between marker after

-- a sync, and a started one, by the inner blob
module _ {S R O B : Type 0} (handle : handles.Ghosts B S O) (b : Blob B) (before : Storage S R O) (c : Blob B) (after : Storage S R O) where
  abbrev pub AsksSync : Option Refusal → Type 0
  AsksSync answer = AsksOnce (handle.leaves Sync (inside b) (inner_of before) answer (inside c)) answer before after

  abbrev pub AsksStart : (S → Option ℕ → S → Type 0) → Option Refusal → Type 0
  AsksStart finishes answer = AsksOnce (Finishes (λ marker. handle.leaves (StartSync marker) (inside b) (inner_of before) answer (inside c)) finishes) answer before after

-- a read: one draw of the read rate, and if it is true, no call of the inner store
pub record ReadLeaves {S R O : Type 0} (store : stores.Ghosts S O) (stream : R → Stream) (asked : S → Type 0) (before after : Storage S R O) : Type 0 where
  pub drawn : stream (rng_of after) ≡ (draw (config_of before).read_rate (stream (rng_of before))).1
  pub inner : MatchBool (draw (config_of before).read_rate (stream (rng_of before))).0 (inner_of after ≡ inner_of before) (asked (inner_of after))
  pub unrecorded : KeepsRecords store.place before after
  pub files : Steps store.place store.directory store.durable before after (λ files. files)

-- a write
pub record WriteLeaves {S R O B : Type 0} (store : stores.Ghosts S O) (handle : handles.Ghosts B S O) (stream : R → Stream) (offset : ℕ) (bytes : List ℕ) (sync : Bool) (b : Blob B) (before : Storage S R O) (answer : Option Refusal) (c : Blob B) (after : Storage S R O) : Type 0 where
  pub drawn : answer ≢ Some Memory → stream (rng_of after) ≡ after_write (config_of before) sync offset bytes (stream (rng_of before))
  pub config : config_of after ≡ config_of before
  -- what was asked of the inner blob
  pub asked : AsksDrawn handle b before c after (config_of before) (stream (rng_of before)) sync offset bytes answer
  -- over a store that injects nothing
  pub recorded : handle.is_direct ≡ true → AddsToLog store handle b before after (recorded_write (config_of before) (next_write_of before) (stream (rng_of before)) sync offset bytes answer)
  pub live_after : handle.is_direct ≡ true → handle.live (inside c) ≡ live_of_write (config_of before) (stream (rng_of before)) sync (handle.live (inside b)) offset bytes answer
  pub size : handle.is_direct ≡ true → size_of c ≡ size_of_write (config_of before) (stream (rng_of before)) sync (size_of b) offset bytes answer
  -- after Ok, over any store
  pub done : answer ≡ None → AddsToLog store handle b before after (recorded_write (config_of before) (next_write_of before) (stream (rng_of before)) sync offset bytes None)
  pub done_size : answer ≡ None → size_of c ≡ size_written sync (size_of b) offset bytes
  -- after an error, over any store: if no draw fails it, and for all errors but a fault of the draws or of the inner store
  pub refused : (drawn_fate (config_of before) sync offset (length bytes) (stream (rng_of before))).0 ≡ Done → IsSome answer → Untouched store b before c after
  pub unrecorded : IsSome answer → answer ≢ Some Injected → answer ≢ Some WriteFailed → Untouched store b before c after
  -- a fault leaves nothing recorded, or all that is kept of the write
  pub injected : answer ≡ Some Injected →
      Untouched store b before c after ⊎ AddsToLog store handle b before after (recorded_write (config_of before) (next_write_of before) (stream (rng_of before)) sync offset bytes (Some Injected))
  -- if the inner store rejected a run, those before it are recorded
  pub failed : answer ≡ Some WriteFailed → LeavesFailed store handle (drawn_fate (config_of before) sync offset (length bytes) (stream (rng_of before))).0 offset bytes b before c after

-- a resize, by its drawn outcome
pub record ResizeLeaves {S R O B : Type 0} (store : stores.Ghosts S O) (handle : handles.Ghosts B S O) (stream : R → Stream) (len : ℕ) (fate : ResizeFate) (left : Stream) (b : Blob B) (before : Storage S R O) (answer : Option Refusal) (c : Blob B) (after : Storage S R O) : Type 0 where
  pub drawn : stream (rng_of after) ≡ left
  pub asked : AsksResize handle b before c after fate len answer
  pub numbers : KeepsNumbers before after
  -- after Ok, over any store
  pub size : answer ≡ None → size_of c ≡ len
  pub recorded : answer ≡ None → AddsToLog store handle b before after (recorded_resize fate len None)
  -- over a store that injects nothing
  pub live_after : handle.is_direct ≡ true → handle.live (inside c) ≡ live_of_resize fate (handle.live (inside b)) len answer
  pub size_after : handle.is_direct ≡ true → size_of c ≡ size_of_resize fate (size_of b) len answer
  pub recorded_after : handle.is_direct ≡ true → AddsToLog store handle b before after (recorded_resize fate len answer)
  -- refused over any store, as a write
  pub unrecorded : IsSome answer → answer ≢ Some Injected → Untouched store b before c after
  pub injected : answer ≡ Some Injected → Untouched store b before c after ⊎ AddsToLog store handle b before after (recorded_resize fate len (Some Injected))
  -- and leaves something recorded only if the inner blob resized to the drawn length
  pub reached : answer ≡ Some Injected → Untouched store b before c after ⊎ InnerReached handle b before c after fate

-- a sync
pub record SyncLeaves {S R O B : Type 0} (store : stores.Ghosts S O) (handle : handles.Ghosts B S O) (stream : R → Stream) (b : Blob B) (before : Storage S R O) (answer : Option Refusal) (c : Blob B) (after : Storage S R O) : Type 0 where
  pub drawn : stream (rng_of after) ≡ (draw (config_of before).sync_rate (stream (rng_of before))).1
  pub inner : MatchBool (draw (config_of before).sync_rate (stream (rng_of before))).0 (inner_of after ≡ inner_of before) (AsksSync handle b before c after answer)
  pub numbers : KeepsNumbers before after
  pub size : size_of c ≡ size_of b
  pub pending : answer ≡ None → (o : Place) → pending_of store.place after o ≡ with_at (pending_of store.place before) (handle.place (inside b)) [] o
  pub published : answer ≡ None → Publishes store.place (store.directory (inner_of before)) (store.durable (inner_of before)) (store.durable (inner_of after)) before after (handle.place (inside b)) (handle.live (inside b))
  pub unrecorded : IsSome answer → KeepsRecords store.place before after
  pub same_files : IsSome answer → Steps store.place store.directory store.durable before after (λ files. files)

-- a started sync: after Ok, its handle has the next marker, which is the last entry of the list; after an error, it has none
pub record StartLeaves {S R O B : Type 0} (store : stores.Ghosts S O) (handle : handles.Ghosts B S O) (finishes : S → Option ℕ → S → Type 0) (stream : R → Stream) (marker : Option ℕ) (b : Blob B) (before : Storage S R O) (answer : Option Refusal) (c : Blob B) (after : Storage S R O) : Type 0 where
  pub drawn : stream (rng_of after) ≡ (draw (config_of before).sync_rate (stream (rng_of before))).1
  pub inner : MatchBool (draw (config_of before).sync_rate (stream (rng_of before))).0 (inner_of after ≡ inner_of before) (AsksStart handle b before c after finishes answer)
  pub config : config_of after ≡ config_of before
  pub next_write : next_write_of after ≡ next_write_of before
  pub size : size_of c ≡ size_of b
  pub marked : answer ≡ None → marker ≡ Some (next_marker_of before)
  pub next_marker : answer ≡ None → next_marker_of after ≡ next_marker_of before + 1
  pub pending : answer ≡ None → (o : Place) →
      pending_of store.place after o ≡ with_at (pending_of store.place before) (handle.place (inside b)) (pending_of store.place before (handle.place (inside b)) ++ Marker (next_marker_of before) ∷ []) o
  pub started : answer ≡ None → Starts store.place (store.directory (inner_of before)) (store.durable (inner_of before)) (store.durable (inner_of after)) before after (handle.place (inside b)) (handle.live (inside b))
  pub unrecorded : IsSome answer → KeepsRecords store.place before after
  pub same_files : IsSome answer → Steps store.place store.directory store.durable before after (λ files. files)

-- a reservation: nothing is drawn
pub record ReserveLeaves {S R O B : Type 0} (store : stores.Ghosts S O) (stream : R → Stream) (asked : S → Type 0) (b : Blob B) (before : Storage S R O) (c : Blob B) (after : Storage S R O) : Type 0 where
  pub drawn : stream (rng_of after) ≡ stream (rng_of before)
  pub inner : asked (inner_of after)
  pub unrecorded : KeepsRecords store.place before after
  pub files : Steps store.place store.directory store.durable before after (λ files. files)
  pub size : size_of c ≡ size_of b

-- any of these, where `finishes` is what a finished sync leaves of the inner store
abbrev pub HandleLeaves : {S R O B : Type 0} → stores.Ghosts S O → handles.Ghosts B S O → (S → Option ℕ → S → Type 0) → (R → Stream) → HandleCall → Blob B → Storage S R O → Option Refusal → Blob B → Storage S R O → Type 0
HandleLeaves store handle finishes stream (Read offset len) b before answer c after =
    ReadLeaves store stream (handle.leaves (Read offset len) (inside b) (inner_of before) answer (inside c)) before after
HandleLeaves store handle finishes stream (Write offset bytes sync) b before answer c after = WriteLeaves store handle stream offset bytes sync b before answer c after
HandleLeaves store handle finishes stream (Resize len) b before answer c after =
    let fate = resize_fate (config_of before).resize_rate (size_of b) len (stream (rng_of before)) in
    ResizeLeaves store handle stream len fate.0 fate.1 b before answer c after
HandleLeaves store handle finishes stream Sync b before answer c after = SyncLeaves store handle stream b before answer c after
HandleLeaves store handle finishes stream (StartSync marker) b before answer c after = StartLeaves store handle finishes stream marker b before answer c after
HandleLeaves store handle finishes stream (Reserve end) b before answer c after =
    ReserveLeaves store stream (handle.leaves (Reserve end) (inside b) (inner_of before) answer (inside c)) b before c after
