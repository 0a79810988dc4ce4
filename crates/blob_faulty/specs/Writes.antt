-- The effect of a write on a handle and on its wrapper.
use Rattle.std.specs.Prelude.{◌≡◌, ◌≢◌, ◌⊎◌, ℕ, ◌<◌, ◌+◌, max, Bool, true, false, List, [], ◌∷◌, ◌++◌, length, Option, Some, None, IsSome}
use Rattle.blob_model.specs.Bytes.{overlay, resize}
use Rattle.blob_model.specs.Directory.{Directory, is_current}
use Rattle.blob_model.specs.Durable.{Durable, with_changed, with_at}
use Rattle.blob_model.specs.Files.{Files, all_logged}
use Rattle.blob_model.specs.Live.{live_after, live_written, all_written}
use Rattle.blob_model.specs.Log.{Entry}
use Rattle.blob_model.specs.Order.{ListAt, held_at}
use Rattle.blob_model.specs.Pending.{Pending, Marker}
use Rattle.blob_model.specs.Places.{Place}
use Rattle.blob_header.specs.Refusals.{Refusal, Injected, Memory, WriteFailed}
use Rattle.blob_model.specs.Runs.{Run, all_behind, kept_runs, runs}
use Rattle.blob_model.specs.Stands.{StandsFor}
use Rattle.blob_base.specs.declared.storage.Durable as stores
use Rattle.blob_base.specs.declared.storage.Blob as handles
use Rattle.blob_faulty.specs.declared.blob.Blob.{Blob}
use Rattle.blob_draws.specs.declared.config.Config.{Config}
use Rattle.blob_faulty.specs.declared.storage.Storage.{Storage}
use Rattle.blob_pending.specs.Lists.{lists_of}
use Rattle.blob_faulty.specs.Asked.{AsksLaid, InnerReached, InnerRefused, InnerRefusedInRoom}
use Rattle.blob_faulty.specs.Pieces.{first_after}
use Rattle.blob_faulty.specs.Wrapper.{pending_of}
use Rattle.blob_draws.specs.Faults.{WriteFate, Done, Failed, ResizeFate, retention}
use Rattle.blob_draws.specs.Changes.{Changes, loose, size_of_runs, write_changes}
use Rattle.blob_draws.specs.Recorded.{recorded_resize, live_of_resize, size_of_resize}

-- a handle and its wrapper, over an inner store
pub record View (R : Type 0) : Type 0 where
  pub directory : Directory
  pub durable : Durable
  pub place : Place
  pub live : List ℕ
  pub size : ℕ
  pub held : List ListAt
  pub next_write : ℕ
  pub next_marker : ℕ
  pub config : Config
  pub rng : R

-- by what the inner store and its handles show
abbrev pub view_of : {S R O B : Type 0} → stores.Ghosts S O → handles.Ghosts B S O → Blob B → Storage S R O → View R
view_of store handle b w = record {
  directory = store.directory w.inner;
  durable = store.durable w.inner;
  place = handle.place b.inner;
  live = handle.live b.inner;
  size = b.size;
  held = lists_of store.place w.lists.all.lists.items;
  next_write = w.next_write;
  next_marker = w.next_marker;
  config = w.config;
  rng = w.rng;
}

-- a wrapper represents files
abbrev pub ViewFor : {R : Type 0} → View R → Files → Type 0
ViewFor v files = StandsFor v.directory v.durable (held_at v.held) v.next_write v.next_marker files

-- if it represented files, it now represents them with these entries added to the log of the handle's incarnation
abbrev pub Logs : {R : Type 0} → View R → View R → List Entry → Type 0
Logs old new entries = (files : Files) → old.place.number < old.directory.next → ViewFor old files → ViewFor new (all_logged files old.place entries)

-- nothing was recorded and nothing retired, and the size is tracked as before
pub record SameRecords {R : Type 0} (old new : View R) : Type 0 where
  pub size : new.size ≡ old.size
  pub pending : (o : Place) → held_at new.held o ≡ held_at old.held o
  pub next_write : new.next_write ≡ old.next_write
  pub next_marker : new.next_marker ≡ old.next_marker

-- these runs were written, each as a durable range in the list of the handle's incarnation; no other entry was added
pub record Lays {R : Type 0} (old new : View R) (rs : List Run) : Type 0 where
  pub size : new.size ≡ size_of_runs old.size rs
  pub pending : (o : Place) → held_at new.held o ≡ with_at (held_at old.held) old.place (all_behind (held_at old.held old.place) rs) o
  pub next_write : new.next_write ≡ old.next_write
  pub next_marker : new.next_marker ≡ old.next_marker

-- all but those that are left, of which this is known
pub record LaysUpTo {R : Type 0} (known : List Run → List Run → Type 0) (old new : View R) (all : List Run) (left : List Run) : Type 0 where
  pub front : List Run
  pub parts : all ≡ front ++ left
  pub lays : Lays old new front
  pub is : known front left

abbrev pub LaysFront : {R : Type 0} → (List Run → List Run → Type 0) → View R → View R → List Run → Type 0
LaysFront known old new all = (left : List Run) × LaysUpTo known old new all left

-- the effect of a write that was done; the live bytes depend on its result
pub record Effect : Type 0 where
  pub live : Option Refusal → List ℕ
  pub durable : Durable
  pub size : ℕ
  pub entries : List Entry

pub record HasBytes {R : Type 0} (v : View R) (bytes : List ℕ) (kept : Durable) (most : ℕ) : Type 0 where
  pub live : v.live ≡ bytes
  pub durable : v.durable ≡ kept
  pub size : v.size ≡ most

-- a step that changes nothing that is seen
pub record Unchanged {R : Type 0} (old new : View R) : Type 0 where
  pub bytes : HasBytes new old.live old.durable old.size
  pub records : SameRecords old new
  pub directory : new.directory ≡ old.directory
  pub place : new.place ≡ old.place
  pub config : new.config ≡ old.config
  pub rng : new.rng ≡ old.rng

-- what a write by this answer made of the bytes
pub record Wrote {R : Type 0} (direct : Bool) (old new : View R) (effect : View R → Effect) (answer : Option Refusal) : Type 0 where
  pub done : answer ≡ None → HasBytes new ((effect old).live None) (effect old).durable (effect old).size
  -- refused by a store that injects nothing
  pub refused : direct ≡ true → IsSome answer → HasBytes new ((effect old).live answer) old.durable old.size
  -- refused for memory
  pub memory : answer ≡ Some Memory → HasBytes new old.live old.durable old.size
  -- by the handle of an incarnation that has ended
  pub stale : is_current old.directory old.place ≡ false → new.durable ≡ old.durable
  pub directory : new.directory ≡ old.directory
  pub place : new.place ≡ old.place

-- the same, and what it recorded; `whole` if a rejected one has recorded nothing over any inner store
pub record Recorded {R : Type 0} (direct whole : Bool) (old new : View R) (effect : View R → Effect) (answer : Option Refusal) : Type 0 where
  pub wrote : Wrote direct old new effect answer
  pub done : answer ≡ None → Logs old new (effect old).entries
  pub refused : whole ≡ true → IsSome answer → SameRecords old new
  pub undone : IsSome answer → answer ≢ Some WriteFailed → SameRecords old new
  pub config : new.config ≡ old.config
  pub rng : new.rng ≡ old.rng

-- The effects.

abbrev pub durable_written : Bool → Durable → Place → ℕ → List ℕ → Durable
durable_written true durable o offset bytes = with_changed durable o (λ x. overlay x offset bytes)
durable_written false durable o offset bytes = durable

-- a write of the inner blob, of which nothing is recorded
abbrev pub unrecorded_write : {R : Type 0} → Bool → ℕ → List ℕ → View R → Effect
unrecorded_write sync offset bytes v = record {
  live = live_after sync v.live offset bytes;
  durable = durable_written sync v.durable v.place offset bytes;
  size = max v.size (offset + length bytes);
  entries = [];
}

-- a write that isn't durable, and that a crash may lose where retention is set
abbrev pub plain : {R : Type 0} → ℕ → List ℕ → View R → Effect
plain offset bytes v = record {
  live = live_after false v.live offset bytes;
  durable = v.durable;
  size = max v.size (offset + length bytes);
  entries = loose (retention v.config.write_rate) v.next_write offset bytes;
}

abbrev pub all_changed : Durable → Place → List Run → Durable
all_changed durable o [] = durable
all_changed durable o (r ∷ rs) = all_changed (with_changed durable o (λ x. overlay x r.0 r.1)) o rs

-- refused, what the first run leaves
abbrev pub live_of_runs : List ℕ → List Run → Option Refusal → List ℕ
live_of_runs live rs None = all_written live rs
live_of_runs live rs (Some refusal) = first_after live rs (Some refusal)

-- runs that become durable
abbrev pub laid_runs : {R : Type 0} → List Run → View R → Effect
laid_runs rs v = record { live = live_of_runs v.live rs; durable = all_changed v.durable v.place rs; size = size_of_runs v.size rs; entries = kept_runs rs }

-- what a write changes, by its drawn outcome
abbrev pub changes_by : {R : Type 0} → WriteFate → View R → Bool → ℕ → List ℕ → Option Refusal → Changes
changes_by fate old sync offset bytes answer = write_changes fate (retention old.config.write_rate) sync offset bytes answer

-- a write of some bytes by this outcome
pub record WroteBy {R : Type 0} (fate : WriteFate) (direct : Bool) (old new : View R) (sync : Bool) (offset : ℕ) (bytes : List ℕ) (answer : Option Refusal) : Type 0 where
  pub done : answer ≡ None → HasBytes new (live_written sync old.live offset bytes) (durable_written sync old.durable old.place offset bytes) (max old.size (offset + length bytes))
  -- with any result, by a store that injects nothing
  pub live : direct ≡ true → new.live ≡ (changes_by fate old sync offset bytes answer).live old.live
  pub size : direct ≡ true → new.size ≡ (changes_by fate old sync offset bytes answer).size old.size
  pub logs : direct ≡ true → Logs old new ((changes_by fate old sync offset bytes answer).entries old.next_write)
  -- by any store: what was done is recorded; a write that no draw fails records no more than that
  pub recorded : answer ≡ None → Logs old new ((changes_by fate old sync offset bytes None).entries old.next_write)
  pub undone : fate ≡ Done → IsSome answer → SameRecords old new
  pub unrecorded : IsSome answer → answer ≢ Some Injected → answer ≢ Some WriteFailed → SameRecords old new
  pub injected : answer ≡ Some Injected → SameRecords old new ⊎ Logs old new ((changes_by fate old sync offset bytes (Some Injected)).entries old.next_write)
  -- refused for memory
  pub memory : answer ≡ Some Memory → HasBytes new old.live old.durable old.size
  -- by the handle of an incarnation that has ended
  pub stale : is_current old.directory old.place ≡ false → new.durable ≡ old.durable
  pub directory : new.directory ≡ old.directory
  pub place : new.place ≡ old.place
  pub config : new.config ≡ old.config
  pub rng : new.rng ≡ old.rng

-- some runs were written, and these with the rest amount to all of them
pub record LeavesRuns {R : Type 0} (old new : View R) (all left : List Run) : Type 0 where
  pub live : all_written new.live left ≡ all_written old.live all
  pub durable : all_changed new.durable new.place left ≡ all_changed old.durable old.place all
  pub size : size_of_runs new.size left ≡ size_of_runs old.size all
  pub logs : (later : View R) → Logs new later (kept_runs left) → Logs old later (kept_runs all)
  pub directory : new.directory ≡ old.directory
  pub place : new.place ≡ old.place
  pub config : new.config ≡ old.config
  pub rng : new.rng ≡ old.rng

-- A resize.

abbrev pub live_cut : List ℕ → ℕ → Option Refusal → List ℕ
live_cut live len None = resize live len
live_cut live len (Some refusal) = live

-- with what is recorded of it
abbrev pub resize_effect : {R : Type 0} → ℕ → List Entry → View R → Effect
resize_effect len entries v = record { live = live_cut v.live len; durable = v.durable; size = len; entries = entries }

-- by its drawn outcome
pub record ResizedBy {R : Type 0} (fate : ResizeFate) (direct : Bool) (old new : View R) (len : ℕ) (answer : Option Refusal) : Type 0 where
  pub done : answer ≡ None → HasBytes new (resize old.live len) old.durable len
  pub recorded : answer ≡ None → Logs old new (recorded_resize fate len None)
  -- with any result, by a store that injects nothing
  pub live : direct ≡ true → new.live ≡ live_of_resize fate old.live len answer
  pub size : direct ≡ true → new.size ≡ size_of_resize fate old.size len answer
  pub logs : direct ≡ true → Logs old new (recorded_resize fate len answer)
  -- refused by any store
  pub unrecorded : IsSome answer → answer ≢ Some Injected → SameRecords old new
  pub injected : answer ≡ Some Injected → SameRecords old new ⊎ Logs old new (recorded_resize fate len (Some Injected))
  -- refused for memory
  pub memory : answer ≡ Some Memory → HasBytes new old.live old.durable old.size
  pub directory : new.directory ≡ old.directory
  pub place : new.place ≡ old.place
  pub rng : new.rng ≡ old.rng

-- A sync.

-- by this answer
pub record Synced {R : Type 0} (old new : View R) (answer : Option Refusal) : Type 0 where
  pub done : answer ≡ None → new.durable ≡ with_changed old.durable old.place (λ _. old.live)
  -- by the handle of an incarnation that has ended it isn't done
  pub current : answer ≡ None → is_current old.directory old.place ≡ true
  pub refused : IsSome answer → new.durable ≡ old.durable
  pub unrecorded : IsSome answer → SameRecords old new
  pub live : new.live ≡ old.live
  pub size : new.size ≡ old.size
  pub next_write : new.next_write ≡ old.next_write
  pub directory : new.directory ≡ old.directory
  pub place : new.place ≡ old.place
  pub config : new.config ≡ old.config
  pub rng : new.rng ≡ old.rng

-- what was pending of the handle's incarnation is another list
abbrev pub Holds : {R : Type 0} → View R → View R → List Pending → Type 0
Holds old new list = (o : Place) → held_at new.held o ≡ with_at (held_at old.held) old.place list o

-- The same of a handle and a wrapper before a call and after it.

module _ {S R O B : Type 0} (store : stores.Ghosts S O) (handle : handles.Ghosts B S O) (b : Blob B) (w : Storage S R O) (b' : Blob B) (w' : Storage S R O) where
  abbrev pub StaysUnchanged : Type 0
  StaysUnchanged = Unchanged (view_of store handle b w) (view_of store handle b' w')

  abbrev pub Writes : (View R → Effect) → Option Refusal → Type 0
  Writes effect answer = Wrote handle.is_direct (view_of store handle b w) (view_of store handle b' w') effect answer

  abbrev pub Records : (View R → Effect) → Option Refusal → Type 0
  Records effect answer = Recorded handle.is_direct true (view_of store handle b w) (view_of store handle b' w') effect answer

  -- if an error may come after runs that were written
  abbrev pub RecordsRuns : List Run → Option Refusal → Type 0
  RecordsRuns rs answer = Recorded handle.is_direct handle.is_direct (view_of store handle b w) (view_of store handle b' w') (laid_runs rs) answer

  abbrev pub LaidRuns : List Run → Type 0
  LaidRuns rs = Lays (view_of store handle b w) (view_of store handle b' w') rs

  -- up to a run that the inner blob refused
  abbrev pub LaidFront : List Run → Type 0
  LaidFront rs = LaysFront (InnerRefused handle b w b' w') (view_of store handle b w) (view_of store handle b' w') rs

  -- what a write that returns WriteFailed records, by its outcome
  abbrev pub FailedBy : WriteFate → ℕ → List ℕ → Type 0
  FailedBy (Failed chosen) offset bytes = LaysFront (InnerRefusedInRoom handle b w b' w' (runs offset bytes chosen)) (view_of store handle b w) (view_of store handle b' w') (runs offset bytes chosen)
  FailedBy fate offset bytes = SameRecords (view_of store handle b w) (view_of store handle b' w')

  abbrev pub FailsBy : WriteFate → ℕ → List ℕ → Option Refusal → Type 0
  FailsBy fate offset bytes answer = answer ≡ Some WriteFailed → FailedBy fate offset bytes

  abbrev pub WritesBy : WriteFate → Bool → ℕ → List ℕ → Option Refusal → Type 0
  WritesBy fate sync offset bytes answer = WroteBy fate handle.is_direct (view_of store handle b w) (view_of store handle b' w') sync offset bytes answer

  abbrev pub ResizesBy : ResizeFate → ℕ → Option Refusal → Type 0
  ResizesBy fate len answer = ResizedBy fate handle.is_direct (view_of store handle b w) (view_of store handle b' w') len answer

  -- a fault records nothing, unless the inner blob resized to the drawn length
  abbrev pub ReachesBy : ResizeFate → Option Refusal → Type 0
  ReachesBy fate answer = answer ≡ Some Injected → SameRecords (view_of store handle b w) (view_of store handle b' w') ⊎ InnerReached handle b w b' w' fate

  abbrev pub Syncs : Option Refusal → Type 0
  Syncs answer = Synced (view_of store handle b w) (view_of store handle b' w') answer

  abbrev pub Retires : List Pending → Type 0
  Retires list = Holds (view_of store handle b w) (view_of store handle b' w') list

  -- the next marker is the last entry
  abbrev pub Marks : Type 0
  Marks = Retires (pending_of store.place w (handle.place b.inner) ++ Marker w.next_marker ∷ [])

-- runs to be written: the calls of the inner blob, what is recorded, and what was written if a run after the first was rejected
pub record LaysAll {S R O B : Type 0} (store : stores.Ghosts S O) (handle : handles.Ghosts B S O) (b : Blob B) (w : Storage S R O) (b' : Blob B) (w' : Storage S R O) (rs : List Run) (answer : Option Refusal) : Type 0 where
  pub asked : AsksLaid handle b w b' w' rs answer
  pub recorded : RecordsRuns store handle b w b' w' rs answer
  pub front : answer ≡ Some WriteFailed → LaidFront store handle b w b' w' rs
