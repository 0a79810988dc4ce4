-- A memory store and its handles, as contracts see them.
use Rattle.std.specs.Prelude.{ℕ, ◌-◌, ◌^◌, min, Bool, true, false, List, [], Option, None, Some, unwrap_or}
use Rattle.blob_header.specs.Refusals.{Refusal}
use Rattle.blob_memory.specs.Answers.{AllowsWrite}
use Rattle.blob_memory.specs.Audit.{Listed}
use Rattle.blob_model.specs.Directory.{Directory}
use Rattle.blob_model.specs.Durable.{Durable}
use Rattle.blob_model.specs.Files.{directory_again}
use Rattle.blob_model.specs.Places.{Place}
use Rattle.blob_memory.specs.declared.storage.Storage.{Storage}
use Rattle.blob_memory.specs.declared.blob.Blob.{Blob}
use Rattle.blob_memory.specs.declared.snapshot.Snapshot.{Snapshot}
use Rattle.blob_memory.specs.Contents.{directory_of, directory_raw, durable_of, vec_at, Fits}
use Rattle.blob_memory.specs.Listing.{listing_at, logical_blob_of, raw_blob_of}
use Rattle.blob_pages.specs.Stored.{Stored}

-- the partitions, names and files
abbrev pub directory : Storage → Directory
directory s = directory_of s.contents

-- the durable logical bytes of each current incarnation
abbrev pub durable : Storage → Durable
durable s = durable_of s.contents

-- the incarnation that a handle was opened on
abbrev pub place : Blob → Place
place b = b.origin

-- the bytes that a handle's reads see
abbrev pub live : Blob → List ℕ
live b = b.live.items

-- the capacity of live and durable bytes together; 0 without durable bytes
abbrev pub room_in : ℕ → Option Stored → ℕ
room_in capacity None = 0
room_in capacity (Some v) = min capacity v.capacity

-- the capacity of the live bytes, limited so that the physical end fits in 64 bits
abbrev pub live_room : Blob → ℕ
live_room b = min (2 ^ 64 - 1 - b.origin.start) b.live.capacity

-- the capacity for a SYNC write
abbrev pub room : Blob → Storage → ℕ
room b s = room_in (live_room b) (vec_at s.contents b.origin)

-- the capacity for a SYNC write, and for a plain one
abbrev pub room_for : Blob → Storage → Bool → ℕ
room_for b s true = room b s
room_for b s false = live_room b

-- the incarnation isn't current, or its durable bytes have a capacity of at least n
abbrev pub HasCrashRoom : Storage → Place → ℕ → Type 0
HasCrashRoom s o n = Fits (vec_at s.contents o) n

-- all blobs, in order
abbrev pub listing : Storage → List Listed
listing s = listing_at s.contents

-- the directory of a snapshot
abbrev pub kept_directory : Snapshot → Directory
kept_directory k = directory_of k.contents

-- the durable bytes of a snapshot
abbrev pub kept_durable : Snapshot → Durable
kept_durable k = durable_of k.contents

-- all blobs of a snapshot, in order
abbrev pub kept_listing : Snapshot → List Listed
kept_listing k = listing_at k.contents

-- the raw bytes of a name's file
abbrev pub raw_blob : Storage → List ℕ → List ℕ → Option (List ℕ)
raw_blob s p n = raw_blob_of (directory s) (durable s) p n

-- the logical bytes of a name's file, if it has a header
abbrev pub logical_blob : Storage → List ℕ → List ℕ → Option (List ℕ)
logical_blob s p n = logical_blob_of (directory s) (durable s) p n

-- the directory after a name's file is set to raw bytes
abbrev pub directory_set : Storage → List ℕ → List ℕ → List ℕ → Directory
directory_set s p n bytes = directory_raw (directory s) p n bytes

-- the directory after all incarnations end: each is a raw file of its header and its durable bytes
abbrev pub directory_closed : Storage → Directory
directory_closed s = directory_again (λ o. unwrap_or (durable s o) []) (directory s)

-- a write through a handle may return this error, or Ok with None
abbrev pub WriteMayReturn : Blob → Storage → ℕ → List ℕ → Bool → Option Refusal → Type 0
WriteMayReturn b s offset bytes sync answer = AllowsWrite (directory s) (place b) (room_for b s) offset bytes sync answer
