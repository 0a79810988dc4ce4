-- The resolution of an image as a line, and the reply to a line of hex.
use Rattle.std.specs.Prelude.{ℕ, List, [], ◌∷◌, ◌++◌, ◌≡◌, ◌⊎◌, codes, Option, Some, None, Result, Ok, Err, IsErr}
use Rattle.std.specs.Fmt.{decimal}
use Rattle.std.specs.Io.BufRead.{first_piece}
use Rattle.std.specs.Io.KnownBytes.{Appends}
use Rattle.hex.specs.Hex.{decode_of}
use Rattle.blob_header.specs.declared.version.BlobVersion.{BlobVersion}
use Rattle.blob_header.specs.declared.error.Error.{Error}
use Rattle.blob_header.specs.Parse.{every_layout}
use Rattle.blob_header.specs.Refusals.{Refusal, Memory, refusal_of}
use Rattle.blob_header.specs.ReplyLines.{refusal_line}
use Rattle.blob_header.specs.Resolve.{refusing, resolution}

-- size, version and data offset; `create` if the blob must be created; or the error
abbrev pub resolution_line : Result (Option (ℕ × BlobVersion × ℕ)) Refusal → List ℕ
resolution_line (Ok (Some found)) = codes "valid " ++ decimal found.0 ++ codes " " ++ decimal found.1.0 ++ codes " " ++ decimal found.2
resolution_line (Ok None) = codes "create"
resolution_line (Err refusal) = refusal_line refusal

-- a result with its error as data
abbrev pub by_refusal : {T : Type 0} → Result T Error → Result T Refusal
by_refusal (Ok x) = Ok x
by_refusal (Err e) = Err (refusal_of e)

-- the resolution of these bytes as a whole blob of any layout and version, with the program's fixed partition and name
abbrev pub resolved_image : List ℕ → Result (Option (ℕ × BlobVersion × ℕ)) Refusal
resolved_image image = refusing (codes "image") (codes "blob") (resolution image (every_layout 0 65535))

-- the reply to a line of hex was appended; in place of an error it may be `Memory`
abbrev pub AnswersLine : List ℕ → Option (List ℕ) → Option (List ℕ) → Type 0
AnswersLine line old new = (image : List ℕ) × (reply : List ℕ) × (decode_of line ≡ Ok image) × Appends old new (reply ++ 10 ∷ [])
    × ((reply ≡ resolution_line (resolved_image image)) ⊎ (IsErr (resolved_image image) × (reply ≡ refusal_line Memory)))

-- this is the first line of these bytes
abbrev pub IsFirstLine : List ℕ → List ℕ → Type 0
IsFirstLine line bytes = line ≡ first_piece 10 bytes

-- the same for the first line of these bytes
abbrev pub ResolvesLine : List ℕ → Option (List ℕ) → Option (List ℕ) → Type 0
ResolvesLine bytes old new = AnswersLine (first_piece 10 bytes) old new

-- the first line of these bytes isn't hex
abbrev pub HasBadHex : List ℕ → Type 0
HasBadHex bytes = IsErr (decode_of (first_piece 10 bytes))
