-- The bytes that the audit of a store takes the checksum of.
use Rattle.std.specs.Prelude.{◌≡◌, ℕ, List, [], ◌∷◌, ◌++◌, Option, Some, codes}
use Rattle.std.specs.Int.{to_be_bytes, w32}
use Rattle.std.specs.List.{Contains}
use Rattle.std.specs.List.Sorted.{IsStrictlySortedBy}
use Rattle.std.specs.declared.cmp.Ordering.{Ordering}
use Rattle.std.specs.Ordering.{ordering_then, nat_cmp}
use Rattle.std.specs.Cmp.Lexicographic.{slice_cmp}

-- a blob: its partition, its name, and its raw bytes with the header
pub record Listed : Type 0 where
  pub partition : List ℕ
  pub name : List ℕ
  pub bytes : List ℕ

-- by partition and name, both by bytes
abbrev pub listed_cmp : Listed → Listed → Ordering
listed_cmp a b = ordering_then (slice_cmp nat_cmp a.partition b.partition) (slice_cmp nat_cmp a.name b.name)

-- all blobs of a store, each once, in increasing order
pub record IsListing (raw : List ℕ → List ℕ → Option (List ℕ)) (listing : List Listed) : Type 0 where
  pub rising : IsStrictlySortedBy listed_cmp listing
  pub each : (b : Listed) → Contains listing b → raw b.partition b.name ≡ Some b.bytes
  pub all : (b : Listed) → raw b.partition b.name ≡ Some b.bytes → Contains listing b

-- the bytes for one blob
abbrev pub piece_of : Listed → List ℕ
piece_of b = codes "partition" ++ b.partition ++ codes "blob" ++ b.name ++ codes "content" ++ b.bytes

-- a partition without blobs adds nothing
abbrev pub pieces_of : List Listed → List ℕ
pieces_of [] = []
pieces_of (b ∷ bs) = piece_of b ++ pieces_of bs

-- there are no lengths and no separators, so different stores can have the same audit
abbrev pub audit_bytes : List Listed → List ℕ
audit_bytes listing = codes "commonware-runtime-storage-audit-v1" ++ pieces_of listing

-- the audit, by a checksum function
abbrev pub audit : (List ℕ → ℕ) → List Listed → List ℕ
audit checksum listing = to_be_bytes w32 (checksum (audit_bytes listing))
