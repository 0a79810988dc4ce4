-- What the registry of open names shows.
use Rattle.std.specs.Prelude.{◌≡◌, ◌^◌, ◌-◌, ℕ, List, Option}
use Rattle.std.specs.declared.ops.RangeInclusive.{RangeInclusive}
use Rattle.blob_base.specs.Stores.{OpensBlob, StorageGhosts}
use Rattle.blob_base.specs.declared.storage.Blob as handles
use Rattle.blob_base.specs.declared.storage.Durable as stores
use Rattle.blob_header.specs.Refusals.{Refusal}
use Rattle.blob_header.specs.Versions.{lower, upper}
use Rattle.blob_header.specs.declared.version.BlobVersion.{BlobVersion}
use Rattle.blob_model.specs.Directory.{Directory}
use Rattle.blob_model.specs.Durable.{Durable}
use Rattle.blob_model.specs.Opening.{IsOpened}
use Rattle.blob_model.specs.Places.{Place}
use Rattle.blob_opens.specs.declared.open.Blob.{Blob}
use Rattle.blob_opens.specs.declared.opens.Opens.{Opens}
use Rattle.blob_names.specs.Names.{at}
use Rattle.blob_opens.specs.OpenNames.{OpenAnswer, OpenNames, Registration, end_names}

-- the open names and the next number
abbrev pub names_of : Opens → OpenNames
names_of o = record { registered = at o.names; next = o.next }

-- the opens of a name are ended, or of a whole partition
abbrev pub EndsNames : Opens → Opens → List ℕ → Option (List ℕ) → Type 0
EndsNames old new p n = names_of new ≡ end_names (names_of old) p n

-- the open that a handle is of
abbrev pub registration_of : {B : Type 0} → Blob B → Registration
registration_of b = b.registration

-- the registration of the next open, if it is of this name
abbrev pub next_registration : Opens → List ℕ → List ℕ → Registration
next_registration o p n = record { partition = p; name = n; number = o.next }

-- no number is left for an open: the greatest is never given
abbrev pub HasNoNumber : Opens → Type 0
HasNoNumber o = o.next ≡ 2 ^ 64 - 1

-- the store's own handle
abbrev pub store_handle : {B : Type 0} → Blob B → B
store_handle b = b.inner

-- a store's open was accepted, and left this in the store
pub record IsMade (d : Directory) (durable : Durable) (d' : Directory) (durable' : Durable) (p n : List ℕ) (first last : ℕ) : Type 0 where
  pub place : Place
  pub live : List ℕ
  pub version : ℕ
  pub is : IsOpened d durable d' durable' p n first last place live version

-- an open for this range of versions returned this handle, size and version. The handle's incarnation and live bytes are
-- those of the store's own handle
abbrev pub OpensHandle : {S O B : Type 0} → stores.Ghosts S O → handles.Ghosts B S O
    → S → S → List ℕ → List ℕ → RangeInclusive BlobVersion → Blob B × ℕ × BlobVersion → Type 0
OpensHandle store handle s s' p n versions opened =
    OpensBlob store handle s s' p n (lower versions) (upper versions) (store_handle opened.0) opened.2.0

-- what an open through the registry returns, given the open names, and what the store's own open may return and leave
abbrev pub OpensName : {S H O : Type 0} → StorageGhosts S H O
    → Opens → S → S → List ℕ → List ℕ → RangeInclusive BlobVersion → Option Refusal → Type 0
OpensName store opens s s' p n versions =
    let first = lower versions in
    let last = upper versions in
    OpenAnswer (names_of opens) p n
    (λ answer. store.allows_open s p n first last answer × store.leaves_open s p n first last answer s')
    (IsMade (store.directory s) (store.durable s) (store.directory s') (store.durable s') p n first last)
    ((store.directory s' ≡ store.directory s) × (store.durable s' ≡ store.durable s)) (s' ≡ s)
