-- What an open finds, in terms of the definition of an open.
use Rattle.std.specs.Prelude.{◌≡◌, ◌⊎◌, ◌≤◌, ℕ, List, [], Bool, true, false, Option, None, Some, length, drop}
use Rattle.blob_header.specs.declared.layout.Layout.{Layout}
use Rattle.blob_header.specs.declared.version.BlobVersion.{BlobVersion}
use Rattle.std.specs.Range.{range_inclusive_start, range_inclusive_end}
use Rattle.std.specs.declared.ops.RangeInclusive.{RangeInclusive}
use Rattle.blob_model.specs.Directory.{Directory, File, Raw, current}
use Rattle.blob_model.specs.Durable.{Durable}
use Rattle.blob_header.specs.declared.error.Error.{Error}
use Rattle.blob_header.specs.Header.{data_start}
use Rattle.blob_header.specs.Refusals.{IsMemoryError, refusal_of}
use Rattle.blob_model.specs.Opening.{Opening, Continues, Begins, Declines, layout_from, opening, place_of}
use Rattle.blob_memory.specs.declared.contents.Contents.{Contents}
use Rattle.blob_memory.specs.declared.found.Found.{Found}
use Rattle.blob_memory.specs.declared.item.Held.{Held}
use Rattle.blob_memory.specs.Contents.{with_begun, directory_of, durable_made, durable_of, file_when, item_of, IsUnder, logical_of}

-- the incarnation of this number continues, or with None a new one begins
abbrev pub opening_with : Option ℕ → Layout → ℕ → List ℕ → Opening
opening_with (Some number) layout version live = Continues number layout version
opening_with None layout version live = Begins layout version live

-- the opening that a found file represents
abbrev pub opening_of : Found → Opening
opening_of f = opening_with f.number f.layout f.version.0 f.live.items

-- the opening of a file, for these versions
abbrev pub opening_for : List ℕ → List ℕ → Option File → RangeInclusive BlobVersion → Opening
opening_for p n file versions = opening p n file (range_inclusive_start versions).0 (range_inclusive_end versions).0

-- the opening of a name's file
abbrev pub opening_in : Contents → List ℕ → List ℕ → RangeInclusive BlobVersion → Opening
opening_in s p n versions = opening_for p n ((directory_of s).file p n) versions

-- the opening of an incarnation, current or ended, whatever its name
abbrev pub FindsHeld : Bool → Held → RangeInclusive BlobVersion → Opening → Type 0
FindsHeld is_ended h versions found = (p n : List ℕ) → opening_for p n (Some (file_when is_ended h)) versions ≡ found

-- the error of this opening, or out of memory
abbrev pub IsDeclined : Opening → Error → Type 0
IsDeclined found error = IsMemoryError error ⊎ (found ≡ Declines (refusal_of error))

-- found of a raw file: no number; no bytes, or those after an existing header
abbrev pub IsFoundRaw : Option ℕ → Bool → Layout → List ℕ → List ℕ → Type 0
IsFoundRaw (Some number) is_file layout live raw = ⊥
IsFoundRaw None false layout live raw = live ≡ []
IsFoundRaw None true layout live raw = (data_start layout ≤ length raw) × (live ≡ drop (data_start layout) raw)

-- found of any file: the durable bytes of the incarnation, those of the file, or none
abbrev pub IsFoundBy : Option ℕ → Bool → Contents → List ℕ → List ℕ → Layout → BlobVersion → List ℕ → Type 0
IsFoundBy (Some number) is_file s p n layout version live = durable_of s (place_of p n number layout) ≡ Some live
IsFoundBy None false s p n layout version live = (current (directory_of s) p n ≡ None) × (live ≡ [])
IsFoundBy None true s p n layout version live = IsUnder s layout version (item_of s p n) × (live ≡ logical_of (data_start layout) (item_of s p n))

-- found of a name's file
abbrev pub IsFound : Contents → List ℕ → List ℕ → Found → Type 0
IsFound s p n f = IsFoundBy f.number f.is_file s p n f.layout f.version f.live.items

-- an error of an open of an incarnation, current or ended
abbrev pub DeclinesHeld : Bool → Held → RangeInclusive BlobVersion → Error → Type 0
DeclinesHeld is_ended h versions error = IsMemoryError error ⊎ FindsHeld is_ended h versions (Declines (refusal_of error))

-- a new incarnation with the bytes of a raw file from `offset` on
abbrev pub begins_at : ℕ → BlobVersion → List ℕ → Opening
begins_at offset version raw = Begins (layout_from offset) version.0 (drop offset raw)

-- the opening of a raw file, for these versions
abbrev pub raw_opening : List ℕ → List ℕ → List ℕ → RangeInclusive BlobVersion → Opening
raw_opening p n raw versions = opening_for p n (Some (Raw raw)) versions

-- the directory after an open begins the incarnation that it found
abbrev pub directory_opened : Contents → List ℕ → List ℕ → Found → Directory
directory_opened s p n f = with_begun s p n f.layout f.version

-- the durable bytes after an open begins the incarnation that it found
abbrev pub durable_opened : Contents → List ℕ → List ℕ → Found → Durable
durable_opened s p n f = durable_made s p n f.layout f.live.items
