-- The effect of a call on a store's files and on a handle's live bytes, by the ghost members of both.
use Rattle.std.specs.Prelude.{◌≡◌, ℕ, List, Option}
use Rattle.std.specs.declared.ops.RangeInclusive.{RangeInclusive}
use Rattle.blob_base.specs.declared.storage.Blob as handles
use Rattle.blob_base.specs.declared.storage.Durable as stores
use Rattle.blob_header.specs.declared.version.BlobVersion.{BlobVersion}
use Rattle.blob_header.specs.Refusals.{Refusal}
use Rattle.blob_header.specs.Versions.{lower, upper}
use Rattle.blob_model.specs.Directory.{Directory}
use Rattle.blob_model.specs.Durable.{Durable}
use Rattle.blob_model.specs.Opening.{IsOpened}
use Rattle.blob_model.specs.Places.{Place}

-- all ghost members of a store, those of its `Durable` first: `S.Storage` in a contract
abbrev pub StorageGhosts : Type 0 → Type 0 → Type 0 → Type 1
StorageGhosts S H O = record {
  place : O → Place;
  directory : S → Directory;
  durable : S → Durable;
  allows_open : S → List ℕ → List ℕ → ℕ → ℕ → Option Refusal → Type 0;
  allows_remove : S → List ℕ → Option (List ℕ) → Option Refusal → Type 0;
  allows_scan : S → List ℕ → Option Refusal → Type 0;
  leaves_open : S → List ℕ → List ℕ → ℕ → ℕ → Option Refusal → S → Type 0;
  leaves_remove : S → List ℕ → Option (List ℕ) → Option Refusal → S → Type 0;
  leaves_scan : S → List ℕ → Option Refusal → S → Type 0;
  leaves_finish : S → Option ℕ → S → Type 0;
  keeps_size : H → ℕ → Type 0;
}

-- an open for the versions from first to last returned this handle and this version
abbrev pub OpensBlob : {S O B : Type 0} → stores.Ghosts S O → handles.Ghosts B S O → S → S → List ℕ → List ℕ → ℕ → ℕ → B → ℕ → Type 0
OpensBlob store handle s s' p n first last b version =
    IsOpened (store.directory s) (store.durable s) (store.directory s') (store.durable s') p n first last (handle.place b) (handle.live b) version

module _ {S O B : Type 0} (store : stores.Ghosts S O) (handle : handles.Ghosts B S O) (s s' : S) (p n : List ℕ) where
  -- an open for this range of versions returned this handle, size and version
  abbrev pub OpensFor : RangeInclusive BlobVersion → B × ℕ × BlobVersion → Type 0
  OpensFor versions opened = OpensBlob store handle s s' p n (lower versions) (upper versions) opened.0 opened.2.0

  -- an open for the default version returned this handle and size
  abbrev pub OpensDefault : B × ℕ → Type 0
  OpensDefault opened = OpensBlob store handle s s' p n 0 0 opened.0 0

-- what an open for this range of versions leaves, apart from files
abbrev pub OpenLeft : {S : Type 0} → (S → List ℕ → List ℕ → ℕ → ℕ → Option Refusal → S → Type 0)
    → S → S → List ℕ → List ℕ → RangeInclusive BlobVersion → Option Refusal → Type 0
OpenLeft leaves s s' p n versions answer = leaves s p n (lower versions) (upper versions) answer s'

-- the handle has these live bytes, and the rest is unchanged
abbrev pub LeavesLive : {S O B : Type 0} → stores.Ghosts S O → handles.Ghosts B S O → B → S → List ℕ → B → S → Type 0
LeavesLive store handle b s live b' s' =
    (handle.live b' ≡ live) × (handle.place b' ≡ handle.place b) × (store.durable s' ≡ store.durable s) × (store.directory s' ≡ store.directory s)
