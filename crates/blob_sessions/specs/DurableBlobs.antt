-- The durable bytes of a session's store.
use Rattle.std.specs.Prelude.{◌≡◌, ◌⊎◌, ℕ, List, Bool, true, false, Option, MatchOption, IsUtf8}
use Rattle.blob_faulty.specs.Wrapper.{inner_of}
use Rattle.blob_header.specs.Checksum.{crc32c}
use Rattle.blob_lab_store.specs.LabStands.{wrapper_of}
use Rattle.blob_memory.specs.Audit.{audit}
use Rattle.blob_memory.specs.Listing.{logical_blob_of, raw_blob_of}
use Rattle.blob_memory.specs.Store.{directory, durable, listing}
use Rattle.blob_memory.specs.declared.storage.Storage.{Storage}
use Rattle.blob_sessions.specs.Parts.{CopiesBytes}
use Rattle.blob_sessions.specs.Sessions.{IsClosed, Inspects, stopped}
use Rattle.blob_sessions.specs.declared.session.Session.{Session}
use Rattle.blob_sessions.specs.declared.kept.Kept.{Kept}
use Rattle.blob_statuses.specs.declared.ran.Ran.{Ran}
use Rattle.blob_statuses.specs.declared.ran.TheConstants.{BAD_CALL, NO_MEMORY}
use Rattle.blob_statuses.specs.declared.refusals.TheConstants.{BLOB_MISSING}

abbrev pub store_of : Kept → Storage
store_of k = inner_of (wrapper_of k.lab)

-- a blob's bytes, with its header or those after it
abbrev pub durable_blob : Bool → Kept → List ℕ → List ℕ → Option (List ℕ)
durable_blob true k partition name = raw_blob_of (directory (store_of k)) (durable (store_of k)) partition name
durable_blob false k partition name = logical_blob_of (directory (store_of k)) (durable (store_of k)) partition name

-- nothing was copied
abbrev pub IsRefusedCopy : ℕ → Ran → List ℕ → List ℕ → Type 0
IsRefusedCopy status ran old new = (ran ≡ stopped status) × (new ≡ old)

abbrev pub CopiesFound : Option (List ℕ) → Ran → List ℕ → List ℕ → Type 0
CopiesFound blob ran old new = MatchOption blob (IsRefusedCopy BLOB_MISSING ran old new) (λ bytes. CopiesBytes bytes ran old new)

-- a blob's bytes are copied, unless memory was refused or the partition is no text
abbrev pub CopiesBlob : Option (List ℕ) → List ℕ → Ran → List ℕ → List ℕ → Type 0
CopiesBlob blob partition ran old new =
    CopiesFound blob ran old new ⊎ IsRefusedCopy NO_MEMORY ran old new ⊎ (IsRefusedCopy BAD_CALL ran old new × ¬ (IsUtf8 partition))

-- the same of a session's store, which stays as it is
abbrev pub CopiesFrom : Session → Session → Bool → List ℕ → List ℕ → Ran → List ℕ → List ℕ → Type 0
CopiesFrom before after with_header partition name ran old new =
    Inspects before after (λ k. CopiesBlob (durable_blob with_header k partition name) partition ran old new) (IsClosed ran old new)

abbrev pub CopiesDigest : Kept → Ran → List ℕ → List ℕ → Type 0
CopiesDigest k ran old new = CopiesBytes (audit crc32c (listing (store_of k))) ran old new

abbrev pub CopiesDigestFrom : Session → Session → Ran → List ℕ → List ℕ → Type 0
CopiesDigestFrom before after ran old new = Inspects before after (λ k. CopiesDigest k ran old new) (IsClosed ran old new)
