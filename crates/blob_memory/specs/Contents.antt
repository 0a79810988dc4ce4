-- The contents of a memory store, by names and by places.
use Rattle.std.specs.Prelude.{◌≡◌, ℕ, ◌≤◌, List, [], ◌++◌, drop, length, map, Bool, true, false, cond, not, ◌&&◌, ◌==◌, nat_lt, Option, None, Some, is_some, unwrap_or, Vec}
use Rattle.blob_header.specs.declared.layout.Layout.{Layout}
use Rattle.blob_header.specs.declared.version.BlobVersion.{BlobVersion}
use Rattle.blob_model.specs.Places.{Place}
use Rattle.blob_model.specs.Directory as directory
use Rattle.blob_model.specs.Directory.{File, Directory, directory_made, place_made, with_file, with_partition}
use Rattle.blob_model.specs.Files.{directory_again}
use Rattle.blob_header.specs.Header.{data_start, region}
use Rattle.blob_base.specs.Names.{AreNames}
use Rattle.blob_model.specs.Durable.{Durable, durable_without, with_at}
use Rattle.blob_memory.specs.declared.item.Item.{Item}
use Rattle.blob_memory.specs.declared.item.Item.TheVariants.{Raw, Held}
use Rattle.blob_memory.specs.declared.item.Held as held
use Rattle.blob_memory.specs.declared.contents.Contents.{Contents}
use Rattle.blob_memory.specs.declared.partitions.Partitions.{Partitions}
use Rattle.blob_memory.specs.Partitions.{item_at, is_there}
use Rattle.std.specs.Global.{Global}
use Rattle.blob_pages.specs.Stored.{Stored}

-- the file of an incarnation: a raw file if it ended
abbrev pub file_when : Bool → held.Held → File
file_when true h = directory.Raw (region h.layout h.version.0 ++ h.bytes.items)
file_when false h = directory.Incarnation h.number h.layout h.version.0

-- the file of an item, if incarnations with numbers below `first` ended
abbrev pub file_of : ℕ → Option Item → Option File
file_of first None = None
file_of first (Some (Raw bytes)) = Some (directory.Raw bytes.items)
file_of first (Some (Held h)) = Some (file_when (nat_lt h.number first) h)

-- the partitions, names and files
abbrev pub directory_of : Contents → Directory
directory_of s = record { has_partition = is_there s.partitions; file = λ p n. file_of s.first (item_at s.partitions p n); next = s.next }

-- whether an incarnation in the table is the current one of this number and data offset
abbrev pub is_current_of : ℕ → held.Held → ℕ → ℕ → Bool
is_current_of first h k start = not (nat_lt h.number first) && ((h.number == k) && (data_start h.layout == start))

-- an item's logical bytes, if it is the current incarnation of this number and data offset
abbrev pub vec_in : ℕ → Option Item → ℕ → ℕ → Option Stored
vec_in first None k start = None
vec_in first (Some (Raw bytes)) k start = None
vec_in first (Some (Held h)) k start = cond (is_current_of first h k start) (Some h.bytes) None

-- an incarnation's durable logical bytes and their capacity, if it is current
abbrev pub vec_at : Contents → Place → Option Stored
vec_at s o = vec_in s.first (item_at s.partitions o.partition o.name) o.number o.start

-- the items of a vector, if any
abbrev pub items_of : Option (Vec ℕ Global) → Option (List ℕ)
items_of None = None
items_of (Some v) = Some v.items

-- the bytes, without the capacity
abbrev pub bytes_of : Option Stored → Option (List ℕ)
bytes_of None = None
bytes_of (Some v) = Some v.items

-- the durable bytes of each current incarnation
abbrev pub durable_of : Contents → Durable
durable_of s o = bytes_of (vec_at s o)

-- no durable bytes, or a capacity of at least n
abbrev pub Fits : Option Stored → ℕ → Type 0
Fits None n = Unit {0}
Fits (Some v) n = n ≤ v.capacity

-- the directory after one name's file is set to raw bytes
abbrev pub directory_raw : Directory → List ℕ → List ℕ → List ℕ → Directory
directory_raw d p n bytes = record { has_partition = with_partition d.has_partition p true; file = with_file d.file p n (Some (directory.Raw bytes)); next = d.next }

-- the item of a name
abbrev pub item_of : Contents → List ℕ → List ℕ → Option Item
item_of s p n = item_at s.partitions p n

-- whether the incarnation of this number ended, if its item still exists
abbrev pub is_ended : Contents → ℕ → Bool
is_ended s k = nat_lt k s.first

-- a file without a current incarnation, with a header of this layout and version: a raw file that is long enough, or an
-- incarnation that ended
abbrev pub IsUnder : Contents → Layout → BlobVersion → Option Item → Type 0
IsUnder s layout version None = ⊥
IsUnder s layout version (Some (Raw bytes)) = data_start layout ≤ length bytes.items
IsUnder s layout version (Some (Held h)) = (is_ended s h.number ≡ true) × (h.layout ≡ layout) × (h.version ≡ version)

-- the logical bytes of an item; those of a raw file begin at `start`
abbrev pub logical_from : ℕ → Item → List ℕ
logical_from start (Raw bytes) = drop start bytes.items
logical_from start (Held h) = h.bytes.items

-- the same, empty without an item
abbrev pub logical_of : ℕ → Option Item → List ℕ
logical_of start None = []
logical_of start (Some item) = logical_from start item

-- the logical bytes of a name's file under a header of this layout
abbrev pub logical_at : Contents → List ℕ → List ℕ → Layout → List ℕ
logical_at s p n layout = logical_of (data_start layout) (item_of s p n)

-- the durable bytes after a name gets a new incarnation with these bytes
abbrev pub durable_made : Contents → List ℕ → List ℕ → Layout → List ℕ → Durable
durable_made s p n layout bytes = with_at (durable_of s) (place_made (directory_of s) p n layout) (Some bytes)

-- a raw file of at least this length, or an incarnation
abbrev pub IsFrom : ℕ → Item → Type 0
IsFrom start (Raw bytes) = start ≤ length bytes.items
IsFrom start (Held h) = Unit {0}

-- an incarnation's durable logical bytes in a table, if it is current and those with numbers below `first` ended
abbrev pub current_bytes : Partitions → ℕ → Place → Option Stored
current_bytes s first o = vec_in first (item_at s o.partition o.name) o.number o.start

-- the directory of an empty store, with the next incarnation's number
abbrev pub empty_directory : ℕ → Directory
empty_directory next = record { has_partition = λ _. false; file = λ _ _. None; next = next }

-- the directory after a name gets a new incarnation
abbrev pub with_begun : Contents → List ℕ → List ℕ → Layout → BlobVersion → Directory
with_begun s p n layout version = directory_made (directory_of s) p n layout version.0

-- the durable bytes after a file becomes an incarnation: it keeps its logical bytes
abbrev pub durable_adopted : Contents → List ℕ → List ℕ → Layout → Durable
durable_adopted s p n layout = durable_made s p n layout (logical_at s p n layout)

-- the directory after all incarnations end: each is a raw file of its header and its durable bytes
abbrev pub directory_ended : Contents → Directory
directory_ended s = directory_again (λ o. unwrap_or (durable_of s o) []) (directory_of s)

-- the directory after a name's file is set to raw bytes
abbrev pub directory_with : Contents → List ℕ → List ℕ → List ℕ → Directory
directory_with s p n bytes = directory_raw (directory_of s) p n bytes

-- the durable bytes after a name's incarnation ends, or with None all those of a partition
abbrev pub durable_less : Contents → List ℕ → Option (List ℕ) → Durable
durable_less s p n = durable_without (durable_of s) p n

-- all names of a partition, sorted
abbrev pub AreFileNames : Contents → List ℕ → List (Vec ℕ Global) → Type 0
AreFileNames s p names = AreNames (map (λ name. name.items) names) (λ name. is_some ((directory_of s).file p name))
