-- All blobs of a store, in order.
use Rattle.std.specs.Prelude.{ℕ, List, [], ◌++◌, drop, map, Option, Some, None, Result, Ok, Err, option_map, option_and_then, unwrap_or, Vec}
use Rattle.std.specs.Global.{Global}
use Rattle.std.specs.BTreeMap.{BTreeMap, IsOrdered}
use Rattle.std.specs.List.{flat_map, AllByRecursion}
use Rattle.std.specs.Cmp.Lexicographic.{slice_cmp}
use Rattle.std.specs.Ordering.{nat_cmp}
use Rattle.std.specs.String.{string_bytes}
use Rattle.std.specs.declared.string.String.{String}
use Rattle.blob_memory.specs.Audit.{Listed}
use Rattle.blob_header.specs.declared.version.BlobVersion.{BlobVersion}
use Rattle.blob_model.specs.Directory as directory
use Rattle.blob_model.specs.Directory.{Directory, File}
use Rattle.blob_model.specs.Durable.{Durable}
use Rattle.blob_model.specs.Files.{raw_again}
use Rattle.blob_header.specs.Header.{region}
use Rattle.blob_header.specs.Parse.{Failure, every_layout}
use Rattle.blob_header.specs.Resolve.{resolution}
use Rattle.blob_memory.specs.declared.contents.Contents.{Contents}
use Rattle.blob_memory.specs.declared.item.Item.{Item}
use Rattle.blob_memory.specs.declared.item.Item.TheVariants.{Raw, Held}
use Rattle.blob_memory.specs.declared.partitions.Partitions.{Partitions}
use Rattle.blob_names.specs.Names.{value_at, below}
use Rattle.blob_memory.specs.Contents.{directory_of, durable_of}
use Rattle.blob_memory.specs.Partitions.{item_at}

-- the raw bytes of an item, with the header
abbrev pub raw_bytes : Item → List ℕ
raw_bytes (Raw bytes) = bytes.items
raw_bytes (Held h) = region h.layout h.version.0 ++ h.bytes.items

-- the raw bytes of a name's file
abbrev pub raw_at : Partitions → List ℕ → List ℕ → Option (List ℕ)
raw_at s p n = option_map raw_bytes (item_at s p n)

-- the items of a partition, by name
abbrev pub Names : Type 0
Names = BTreeMap (Vec ℕ Global) Item

-- a blob of a listing
abbrev pub listed_of : List ℕ → List ℕ → Item → Listed
listed_of p n item = record { partition = p; name = n; bytes = raw_bytes item }

-- an entry of a partition in a listing
abbrev pub listing_entry : List ℕ → Vec ℕ Global × Item → Listed
listing_entry p e = listed_of p e.0.items e.1

-- the blobs of a partition
abbrev pub listing_in : List ℕ → List (Vec ℕ Global × Item) → List Listed
listing_in p es = map (listing_entry p) es

-- the blobs of some partitions
abbrev pub listing_all : List (String Global × Names) → List Listed
listing_all es = flat_map (λ e. listing_in (string_bytes e.0) e.1.entries) es

-- the names of a map are in order
abbrev pub AreOrderedNames : Names → Type 0
AreOrderedNames m = IsOrdered (λ x y. slice_cmp nat_cmp x.items y.items) m

-- the partitions of a map are in order
abbrev pub AreOrdered : BTreeMap (String Global) Names → Type 0
AreOrdered m = IsOrdered (λ x y. slice_cmp nat_cmp (string_bytes x) (string_bytes y)) m

-- the names of each partition are in order
abbrev pub AreAllOrdered : List (String Global × Names) → Type 0
AreAllOrdered es = AllByRecursion (λ e. AreOrderedNames e.1) es

-- the raw bytes of each name
abbrev pub raw_in : BTreeMap (String Global) Names → List ℕ → List ℕ → Option (List ℕ)
raw_in m p n = option_map raw_bytes (below (value_at (λ k. k.items)) (value_at string_bytes m p) n)

-- all blobs of a table
abbrev pub listing_of : Partitions → List Listed
listing_of s = listing_all s.names.entries

-- the bytes of a raw file
abbrev pub raw_only : Option File → Option (List ℕ)
raw_only None = None
raw_only (Some (directory.Raw bytes)) = Some bytes
raw_only (Some (directory.Incarnation number layout version)) = None

-- the raw bytes of a name's file, by the directory and the durable bytes
abbrev pub raw_blob_of : Directory → Durable → List ℕ → List ℕ → Option (List ℕ)
raw_blob_of d durable p n = raw_only (raw_again (λ o. unwrap_or (durable o) []) p n (d.file p n))

-- the bytes after the header that was resolved
abbrev pub left_behind_header : Result (Option (ℕ × BlobVersion × ℕ)) Failure → List ℕ → Option (List ℕ)
left_behind_header (Ok None) raw = None
left_behind_header (Ok (Some (size, version, offset))) raw = Some (drop offset raw)
left_behind_header (Err failure) raw = None

-- the bytes after the header of a blob, of any layout and version, if it has one
abbrev pub logical_found : List ℕ → Option (List ℕ)
logical_found raw = left_behind_header (resolution raw (every_layout 0 65535)) raw

-- the logical bytes of a name's file, if it has a header
abbrev pub logical_blob_of : Directory → Durable → List ℕ → List ℕ → Option (List ℕ)
logical_blob_of d durable p n = option_and_then logical_found (raw_blob_of d durable p n)

-- all blobs of a store
abbrev pub listing_at : Contents → List Listed
listing_at s = listing_of s.partitions

-- the raw bytes of a name's file
abbrev pub raw_blob_in : Contents → List ℕ → List ℕ → Option (List ℕ)
raw_blob_in s p n = raw_blob_of (directory_of s) (durable_of s) p n

-- the logical bytes of a name's file, if it has a header
abbrev pub logical_blob_in : Contents → List ℕ → List ℕ → Option (List ℕ)
logical_blob_in s p n = logical_blob_of (directory_of s) (durable_of s) p n
