-- Records as bytes, one frame after another, and the records that bytes begin with.
use Rattle.std.specs.Prelude.{◌≡◌, true, ℕ, zero, suc, ◌+◌, ◌^◌, ◌<◌, Bool, ◌&&◌, List, [], ◌∷◌, ◌++◌, length, take, drop, nat_le, nat_eq, if◌then◌else◌}
use Rattle.std.specs.Int.{w32, to_be_bytes, from_be_bytes}
use Rattle.std.specs.List.{flat_map}
use Rattle.blob_header.specs.Checksum.{crc32c}

-- The checksum of a record covers the four bytes of its length too, so that zeros are no frame.
unfoldable pub checksum : List ℕ → ℕ
checksum entry = crc32c (to_be_bytes w32 (length entry) ++ entry)

-- a record's length and its checksum in four bytes each, the high one first, and the record
unfoldable pub frame : List ℕ → List ℕ
frame entry = to_be_bytes w32 (length entry) ++ to_be_bytes w32 (checksum entry) ++ entry

abbrev pub frames : List (List ℕ) → List ℕ
frames records = flat_map frame records

-- what bytes would tell as the first frame: its record's length, its checksum, its record
unfoldable pub length_told : List ℕ → ℕ
length_told bytes = from_be_bytes w32 bytes

unfoldable pub sum_told : List ℕ → ℕ
sum_told bytes = from_be_bytes w32 (drop 4 bytes)

abbrev pub payload : List ℕ → List ℕ
payload bytes = take (length_told bytes) (drop 8 bytes)

-- whether bytes begin with a complete frame with the right checksum
abbrev pub is_frame : List ℕ → Bool
is_frame bytes = nat_le (8 + length_told bytes) (length bytes) && nat_eq (checksum (payload bytes)) (sum_told bytes)

-- the record of the whole frame that bytes begin with
abbrev pub IsFirst : List ℕ → List ℕ → Type 0
IsFirst bytes entry = (is_frame bytes ≡ true) × (entry ≡ payload bytes)

-- the records of at most n frames
abbrev pub scan_to : ℕ → List ℕ → List (List ℕ)
scan_to zero bytes = []
scan_to (suc n) bytes = if is_frame bytes then payload bytes ∷ scan_to n (drop (8 + length_told bytes) bytes) else []

-- the records that bytes begin with, up to the first frame that is cut short or has a wrong checksum
unfoldable pub scan : List ℕ → List (List ℕ)
scan bytes = scan_to (length bytes) bytes

-- each record's length fits in four bytes
abbrev pub AreShort : List (List ℕ) → Type 0
AreShort [] = Unit {0}
AreShort (r ∷ rs) = (length r < 2 ^ 32) × AreShort rs
