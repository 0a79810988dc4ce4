-- Headers in numbers.
use Rattle.std.specs.Prelude.{◌≡◌, ◌⊎◌, ◌↔◌, ◌<◌, ◌≤◌, ◌==◌, ℕ, List, length, min, if◌then◌else◌, Option, Some, None, IfSome, MatchOption, Result, Ok, Err}
use Rattle.blob_header.specs.Header.{IsTorn, layout_number, region}
use Rattle.blob_header.specs.Parse.{Accepted, Failure, InvalidMagic, UnsupportedLayoutVersion, Truncated, InvalidChecksum, InvalidPadding, LayoutMismatch, VersionMismatch, parse}
use Rattle.blob_header.specs.Resolve.{OfBlobs}
use Rattle.blob_header.specs.declared.layout.Layout.{Layout}
use Rattle.blob_header.specs.declared.layout.Layout.TheVariants.{V0, V1}
use Rattle.blob_header.specs.declared.version.BlobVersion.{BlobVersion}
use Rattle.blob_sessions.specs.DurableBlobs.{IsRefusedCopy}
use Rattle.blob_sessions.specs.Parts.{CopiesBytes}
use Rattle.blob_sessions.specs.declared.headers.Accepts.{Accepts}
use Rattle.blob_sessions.specs.declared.headers.ParsedHeader.{ParsedHeader}
use Rattle.blob_sessions.specs.declared.headers.TheConstants.{INVALID_MAGIC, UNSUPPORTED_LAYOUT_VERSION, LAYOUT_MISMATCH, VERSION_MISMATCH, INVALID_CHECKSUM, INVALID_PADDING, TRUNCATED, TO_CREATE}
use Rattle.blob_statuses.specs.declared.ran.Ran.{Ran}
use Rattle.blob_statuses.specs.declared.ran.TheConstants.{BAD_CALL, DONE, NO_MEMORY}

abbrev pub layout_numbered : ℕ → Option Layout
layout_numbered number = if number == 0 then Some V0 else if number == 1 then Some V1 else None

-- what is accepted, if both layouts exist
abbrev pub accepted_by : Accepts → Option Accepted
accepted_by a = elim (layout_numbered a.oldest) [
  | None ↦ None
  | Some oldest ↦ elim (layout_numbered a.newest) [
    | None ↦ None
    | Some newest ↦ Some (record { oldest = oldest; newest = newest; least = a.least; greatest = a.greatest })
  ]
]

-- a prefix of a blob of this length, which has the whole header if there is one
pub record IsFrontOfBlob (raw : List ℕ) (raw_len : ℕ) : Type 0 where
  pub whole : 8 ≤ raw_len
  pub front : min raw_len 4096 ≤ length raw
  pub within : length raw ≤ raw_len

abbrev pub no_header : ℕ → ParsedHeader
no_header status = record { status = status; version = 0; size = 0; data_offset = 0 }

abbrev pub refused_header : Failure → ParsedHeader
refused_header (InvalidMagic found) = no_header INVALID_MAGIC
refused_header (UnsupportedLayoutVersion expected found) = record { status = UNSUPPORTED_LAYOUT_VERSION; version = found; size = 0; data_offset = 0 }
refused_header (LayoutMismatch oldest newest found) = record { status = LAYOUT_MISMATCH; version = layout_number found; size = 0; data_offset = 0 }
refused_header (VersionMismatch least greatest found) = record { status = VERSION_MISMATCH; version = found; size = 0; data_offset = 0 }
refused_header InvalidChecksum = no_header INVALID_CHECKSUM
refused_header InvalidPadding = no_header INVALID_PADDING
refused_header (Truncated required_len raw_len) = record { status = TRUNCATED; version = 0; size = required_len; data_offset = 0 }

abbrev pub header_reply : Result (ℕ × BlobVersion × ℕ) Failure → ParsedHeader
header_reply (Ok found) = record { status = DONE; version = found.1.0; size = found.0; data_offset = found.2 }
header_reply (Err failure) = refused_header failure

-- the header of a prefix of a blob is parsed, if both layouts exist
abbrev pub ParsesHeader : List ℕ → ℕ → Accepts → ParsedHeader → Type 0
ParsesHeader raw raw_len accepts reply = IfSome (accepted_by accepts) (λ accepted. reply ≡ header_reply (parse raw raw_len accepted))

-- a prefix of a blob of this length, which may be too short for a header
pub record HasFront (raw : List ℕ) (raw_len : ℕ) : Type 0 where
  pub front : min raw_len 4096 ≤ length raw
  pub within : length raw ≤ raw_len

-- an open creates a blob of this length: it is too short for a header, or an interrupted creation left it
abbrev pub IsCreated : ℕ → List ℕ → Type 0
IsCreated raw_len blob = (raw_len < 8) ⊎ IsTorn blob

-- the reply says so
abbrev pub IsToCreate : ParsedHeader → Type 0
IsToCreate reply = reply ≡ no_header TO_CREATE

-- a prefix of a blob is resolved: either an open creates the blob, or its header is parsed
pub record Resolves (raw : List ℕ) (raw_len : ℕ) (accepted : Accepted) (reply : ParsedHeader) : Type 0 where
  pub to_create : OfBlobs raw raw_len (λ blob. IsToCreate reply ↔ IsCreated raw_len blob)
  pub header : IsToCreate reply ⊎ (reply ≡ header_reply (parse raw raw_len accepted))

-- the same, if both layouts exist
abbrev pub ResolvesHeader : List ℕ → ℕ → Accepts → ParsedHeader → Type 0
ResolvesHeader raw raw_len accepts reply = IfSome (accepted_by accepts) (λ accepted. Resolves raw raw_len accepted reply)

-- the header region of a new blob is copied, unless memory was refused, or there is no such layout
abbrev pub CopiesRegion : ℕ → ℕ → Ran → List ℕ → List ℕ → Type 0
CopiesRegion number version ran old new =
    MatchOption (layout_numbered number) (IsRefusedCopy BAD_CALL ran old new)
    (λ layout. CopiesBytes (region layout version) ran old new ⊎ IsRefusedCopy NO_MEMORY ran old new)
