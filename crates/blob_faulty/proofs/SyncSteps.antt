-- How a sync, and a started one, change the files that a wrapper represents.
use Rattle.std.proofs.Common.{◌≡◌, ◌++◌, ◌∷◌, [], ℕ, ◌+◌, List, refl}
use Rattle.std.specs.Prelude.{Option, Result, Ok, Err, OnOk, OnErr, IsSome, None}
use Rattle.blob_base.specs.declared.storage.Blob as handles
use Rattle.blob_base.specs.declared.storage.Durable as stores
use Rattle.blob_header.specs.declared.error.Error.{Error}
use Rattle.blob_model.specs.Directory.{Directory}
use Rattle.blob_model.specs.Durable.{Durable, with_at, with_changed}
use Rattle.blob_model.specs.Pending.{Marker}
use Rattle.blob_model.specs.Places.{Place}
use Rattle.blob_header.specs.Refusals.{Refusal, error_of}
use Rattle.blob_model.proofs.FileSteps.{stands_synced, stands_begun}
use Rattle.blob_faulty.specs.declared.blob.Blob.{Blob}
use Rattle.blob_faulty.specs.declared.storage.Storage.{Storage}
use Rattle.blob_faulty.specs.Names.{Steps}
use Rattle.blob_faulty.specs.Syncs.{Publishes, Starts}
use Rattle.blob_faulty.specs.Wrapper.{pending_of, next_write_of, next_marker_of, KeepsRecords}
use Rattle.blob_faulty.specs.Writes.{SameRecords, Synced, view_of}
use Rattle.blob_faulty.proofs.Adding.{numbered_so, at_each, keeps_stands}

-- a sync
pub sync_publishes : {S R O : Type 0} (place : O → Place) (names : Directory) (bytes bytes' : Durable) (old new : Storage S R O) (o : Place) (live : List ℕ) →
    bytes' ≡ with_changed bytes o (λ _. live) → ((a : Place) → pending_of place new a ≡ with_at (pending_of place old) o [] a) →
    next_write_of new ≡ next_write_of old → next_marker_of new ≡ next_marker_of old →
    Publishes place names bytes bytes' old new o live
sync_publishes place names bytes bytes' old new o live over lists write marker files s =
    numbered_so names bytes' (pending_of place new) _ _ _ _ _ write marker
    (stands_synced names bytes bytes' (pending_of place old) (pending_of place new) (next_write_of old) (next_marker_of old) files o live (at_each over) lists s)

-- a started sync
pub marker_starts : {S R O : Type 0} (place : O → Place) (names : Directory) (bytes bytes' : Durable) (old new : Storage S R O) (o : Place) (live : List ℕ) →
    bytes' ≡ with_changed bytes o (λ _. live) → ((a : Place) → pending_of place new a ≡ with_at (pending_of place old) o (pending_of place old o ++ Marker (next_marker_of old) ∷ []) a) →
    next_write_of new ≡ next_write_of old → next_marker_of new ≡ next_marker_of old + 1 →
    Starts place names bytes bytes' old new o live
marker_starts place names bytes bytes' old new o live over lists write marker files below s =
    numbered_so names bytes' (pending_of place new) _ _ _ _ _ write marker
    (stands_begun names bytes bytes' (pending_of place old) (pending_of place new) (next_write_of old) (next_marker_of old) files o live below (at_each over) lists s)

-- a refused one records nothing, and leaves the files
pub records_of : {S R O B : Type 0} (store : stores.Ghosts S O) (handle : handles.Ghosts B S O) (b c : Blob B) (old new : Storage S R O) (rng : R) →
    SameRecords (view_of store handle b (record old { rng = rng })) (view_of store handle c new) → new.config ≡ old.config → KeepsRecords store.place old new
records_of store handle b c old new rng k config = record { pending = k.pending; numbers = record { next_write = k.next_write; next_marker = k.next_marker; config = config } }

pub refused_steps : {S R O B : Type 0} (store : stores.Ghosts S O) (handle : handles.Ghosts B S O) (b c : Blob B) (old new : Storage S R O) (rng : R) (answer : Option Refusal) →
    Synced (view_of store handle b (record old { rng = rng })) (view_of store handle c new) answer → IsSome answer → Steps store.place store.directory store.durable old new (λ files. files)
refused_steps store handle b c old new rng answer synced some files s =
    keeps_stands store.place _ _ _ _ old new files synced.directory (synced.refused some) (records_of store handle b c old new rng (synced.unrecorded some) synced.config) s

pub err_by : {T P : Type 0} (r : Result T Error) → (IsSome (error_of r) → P) → OnErr r P
err_by (Ok x) h = tt
err_by (Err e) h = h refl

pub when_ok : {T P : Type 0} (r : Result T Error) → error_of r ≡ None → OnOk r P → P
when_ok (Ok x) is h = h
when_ok (Err e) is h = absurd (cc)
