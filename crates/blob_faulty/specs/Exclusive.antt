-- An exclusive open with `admit` over the memory store: what it may return and what it leaves.
use Rattle.std.specs.Prelude.{◌≡◌, ℕ, List, Option, Some, None, Result}
use Rattle.std.specs.declared.ops.RangeInclusive.{RangeInclusive}
use Rattle.rand_core.specs.Stream.{Stream}
use Rattle.blob_header.specs.Refusals.{Refusal, error_of}
use Rattle.blob_header.specs.declared.error.Error.{Error}
use Rattle.blob_header.specs.Versions.{lower, upper}
use Rattle.blob_header.specs.declared.version.BlobVersion.{BlobVersion}
use Rattle.blob_opens.specs.declared.opens.Opens.{Opens}
use Rattle.blob_opens.specs.OpenNames.{OpenNames, OpenAnswer, Registration}
use Rattle.blob_opens.specs.Opens.{IsMade, names_of, store_handle}
use Rattle.blob_opens.specs.declared.open.Blob as registered
use Rattle.blob_faulty.specs.declared.blob.Blob.{Blob}
use Rattle.blob_memory.specs.declared.blob.Blob as memory_blob
use Rattle.blob_faulty.specs.Admitted.{OpensAlone, OpensAdmitted, RefusesOpen, MayOpen, LeavesAdmitted, FindsVersions}
use Rattle.blob_faulty.specs.Keeps.{OverMemory}
use Rattle.blob_faulty.specs.Wrapper.{inner_of}
use Rattle.blob_memory.specs.Store.{directory, durable}

module _ {R : Type 0} (before after : OverMemory R) (p n : List ℕ) (first last : ℕ) where
  -- the store's own open returned this; the pending list was retired by the result of the whole call
  abbrev pub Asked : (R → Stream) → Option Refusal → Option Refusal → Type 0
  Asked stream answer asked = MayOpen before after p n first last stream asked × LeavesAdmitted before after p n first last stream answer

  -- the store's own open was accepted: the whole call was too, or the name is open
  abbrev pub MadeAccepted : Option Refusal → Type 0
  MadeAccepted answer =
      IsMade (directory (inner_of before)) (durable (inner_of before)) (directory (inner_of after)) (durable (inner_of after)) p n first last
      × elim answer [ None ↦ OpensAdmitted before after p n first last | Some refusal ↦ OpensAlone before after p n first last ]

  -- the answer, by the open names
  abbrev pub ExclusiveAnswer : (R → Stream) → OpenNames → Option Refusal → Type 0
  ExclusiveAnswer stream s answer = OpenAnswer s p n (Asked stream answer) (MadeAccepted answer) (RefusesOpen before after) (after ≡ before) answer

-- the same for a range of versions and a registry
module _ {R : Type 0} (before after : OverMemory R) (p n : List ℕ) (versions : RangeInclusive BlobVersion) where
  abbrev pub AnswersExclusive : {T : Type 0} → (R → Stream) → Opens → Result T Error → Type 0
  AnswersExclusive stream registry result = ExclusiveAnswer before after p n (lower versions) (upper versions) stream (names_of registry) (error_of result)

  -- what an accepted one finds: the registry's handle, the size and the version
  abbrev pub FindsExclusive : registered.Blob (Blob memory_blob.Blob) × ℕ × BlobVersion → Type 0
  FindsExclusive opened = FindsVersions before after p n versions (store_handle opened.0) opened.1 opened.2.0

-- the registration of the next open of a name
abbrev pub next_registration : Opens → List ℕ → List ℕ → Registration
next_registration registry p n = record { partition = p; name = n; number = (names_of registry).next }
