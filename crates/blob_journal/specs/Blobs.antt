-- The blobs of files: their bytes, and what calls leave of them.
use Rattle.std.specs.Prelude.{◌≡◌, ◌≢◌, ◌+◌, ◌<◌, ◌≤◌, ◌^◌, ℕ, List, length, take, drop, codes, Option, Some, option_and_then}
use Rattle.std.specs.Int.{w64, to_le_bytes}
use Rattle.blob_model.specs.Bytes.{resize, write_live}
use Rattle.blob_model.specs.Directory.{current}
use Rattle.blob_model.specs.Draws.{chosen_by}
use Rattle.blob_model.specs.Stands.{replayed_at}
use Rattle.blob_draws.specs.Rows.{table_of}
use Rattle.blob_draws.specs.declared.selections.Selections.{Selections}
use Rattle.blob_memory.specs.Store.{directory, durable, live, place}
use Rattle.blob_faulty.specs.Wrapper.{inner_of, inside, pending_of, size_of}
use Rattle.blob_journal.specs.declared.journaled.Journaled.{Journaled}
use Rattle.blob_journal.specs.declared.store.FileBlob.{FileBlob}
use Rattle.blob_journal.specs.Incarnations.{IsIncarnation, SameBlob}
use Rattle.blob_journal.specs.Journals.{durable_file, store_of}

-- The blob of a file's number.

abbrev pub file_name : ℕ → List ℕ
file_name inode = to_le_bytes w64 inode

-- its durable bytes
abbrev pub current_file : {R : Type 0} → Journaled R → ℕ → Option (List ℕ)
current_file j inode = option_and_then (durable (inner_of (store_of j))) (current (directory (inner_of (store_of j))) (codes "f") (file_name inode))

-- what the store's crash leaves of it: what was pending, replayed over its durable bytes by the rows that were kept
abbrev pub crashed_file : {R : Type 0} → Journaled R → Selections → ℕ → Option (List ℕ)
crashed_file j kept inode =
    option_and_then (λ o. replayed_at (chosen_by (table_of kept)) (pending_of (λ o. o) (store_of j) o) (durable (inner_of (store_of j)) o))
    (current (directory (inner_of (store_of j))) (codes "f") (file_name inode))

-- it is the same, with the same durable bytes
abbrev pub SameFile : {R : Type 0} → ℕ → Journaled R → Journaled R → Type 0
SameFile inode j j' = SameBlob (codes "f") (file_name inode) (store_of j) (store_of j')

-- so is that of each number
abbrev pub SameFiles : {R : Type 0} → Journaled R → Journaled R → Type 0
SameFiles j j' = (inode : ℕ) → SameFile inode j j'

-- and that of each other number
abbrev pub SameFilesBut : {R : Type 0} → ℕ → Journaled R → Journaled R → Type 0
SameFilesBut inode j j' = (other : ℕ) → other < 2 ^ 64 → other ≢ inode → SameFile other j j'

-- An open file.

-- the bytes that reads return
abbrev pub bytes_of : FileBlob → List ℕ
bytes_of file = take (size_of file.blob) (live (inside file.blob))

-- its blob is the current one of this number
abbrev pub IsCurrent : {R : Type 0} → Journaled R → ℕ → FileBlob → Type 0
IsCurrent j inode file = IsIncarnation (store_of j) (codes "f") (file_name inode) (place (inside file.blob))

-- its blob is that of this number, with these durable bytes
pub record IsFileOf {R : Type 0} (j : Journaled R) (inode : ℕ) (file : FileBlob) (bytes : List ℕ) : Type 0 where
  pub current : IsCurrent j inode file
  pub durable : durable (inner_of (store_of j)) (place (inside file.blob)) ≡ Some bytes

-- calls see these bytes
pub record Sees (file : FileBlob) (bytes : List ℕ) : Type 0 where
  pub live : live (inside file.blob) ≡ bytes
  pub size : size_of file.blob ≡ length bytes

-- these are as many bytes of the file from an offset on, as calls see them
abbrev pub ReadsFile : FileBlob → ℕ → ℕ → List ℕ → Type 0
ReadsFile file offset count bytes = (seen : List ℕ) → Sees file seen → (offset + count ≤ length seen) × (bytes ≡ take count (drop offset seen))

-- its blob is the current one of this number, with some durable bytes, and its size is that of the bytes that calls see
pub record IsOpen {R : Type 0} (j : Journaled R) (inode : ℕ) (file : FileBlob) : Type 0 where
  pub durable : List ℕ
  pub is : IsFileOf j inode file durable
  pub tracked : size_of file.blob ≡ length (live (inside file.blob))

-- calls see exactly the durable bytes of this number's blob
pub record HasDurable {R : Type 0} (j : Journaled R) (inode : ℕ) (file : FileBlob) (bytes : List ℕ) : Type 0 where
  pub is : IsFileOf j inode file bytes
  pub seen : Sees file bytes

-- a file was opened: calls see what was durable of it
pub record OpensFile {R : Type 0} (j : Journaled R) (inode : ℕ) (j' : Journaled R) (file : FileBlob) : Type 0 where
  pub bytes : List ℕ
  pub has : HasDurable j' inode file bytes
  pub found : (before : List ℕ) → current_file j inode ≡ Some before → before ≡ bytes

-- a file was resized, not durably
abbrev pub ResizesFile : {R : Type 0} → ℕ → Journaled R → FileBlob → Journaled R → FileBlob → Type 0
ResizesFile {R} length j file j' file' = (inode : ℕ) (bytes : List ℕ) → IsFileOf j inode file bytes
    → IsFileOf j' inode file' bytes × ((seen : List ℕ) → Sees file seen → Sees file' (resize seen length))

-- bytes were written to a file at an offset, not durably
abbrev pub WritesFile : {R : Type 0} → ℕ → List ℕ → Journaled R → FileBlob → Journaled R → FileBlob → Type 0
WritesFile {R} offset bytes j file j' file' = (inode : ℕ) (durable : List ℕ) → IsFileOf j inode file durable
    → IsFileOf j' inode file' durable × ((seen : List ℕ) → Sees file seen → Sees file' (write_live seen offset bytes))

-- what calls see of a file is durable
abbrev pub SyncsFile : {R : Type 0} → Journaled R → FileBlob → Journaled R → FileBlob → Type 0
SyncsFile {R} j file j' file' = (inode : ℕ) → IsOpen j inode file → HasDurable j' inode file' (bytes_of file)

-- and every crash of the store leaves it
abbrev pub FixesFile : {R : Type 0} → Journaled R → FileBlob → Journaled R → Type 0
FixesFile {R} j file j' = (inode : ℕ) → IsOpen j inode file → (kept : Selections) → crashed_file j' kept inode ≡ Some (bytes_of file)

-- if it is this number's file, each other one is the same
abbrev pub ChangesFile : {R : Type 0} → Journaled R → FileBlob → Journaled R → Type 0
ChangesFile {R} j file j' = (inode : ℕ) (bytes : List ℕ) → inode < 2 ^ 64 → IsFileOf j inode file bytes → SameFilesBut inode j j'

-- Laws of these.

-- the durable bytes of an open file are those of its number
abbrev pub DurableIsFound : Type 0 → Type 0
DurableIsFound R = (j : Journaled R) (inode : ℕ) (file : FileBlob) (bytes : List ℕ) → HasDurable j inode file bytes → durable_file j inode ≡ Some bytes

-- reads return what calls see
abbrev pub ReadsSeen : Type 0
ReadsSeen = (file : FileBlob) (bytes : List ℕ) → Sees file bytes → bytes_of file ≡ bytes

-- a blob that is the same has the same durable bytes
abbrev pub CurrentStays : Type 0 → Type 0
CurrentStays R = (j j' : Journaled R) (inode : ℕ) → SameFile inode j j' → current_file j' inode ≡ current_file j inode

-- also those of an open file
abbrev pub DurableStays : Type 0 → Type 0
DurableStays R = (j j' : Journaled R) (inode : ℕ) (file : FileBlob) (bytes : List ℕ) → SameFile inode j j' → HasDurable j inode file bytes → HasDurable j' inode file bytes

-- a file that is resized to no more than its length keeps its first bytes
abbrev pub ResizeShortens : Type 0
ResizeShortens = (bytes : List ℕ) (n : ℕ) → n ≤ length bytes → resize bytes n ≡ take n bytes

-- blobs that are the same after each of two calls are the same after both
abbrev pub SameTwice : Type 0 → Type 0
SameTwice R = (a b c : Journaled R) (inode : ℕ) → SameFile inode a b → SameFile inode b c → SameFile inode a c

-- calls see the bytes of an open file
abbrev pub OpenIsSeen : Type 0 → Type 0
OpenIsSeen R = (j : Journaled R) (inode : ℕ) (file : FileBlob) → IsOpen j inode file → Sees file (bytes_of file)

-- a file of which calls see the durable bytes is open
abbrev pub DurableIsOpen : Type 0 → Type 0
DurableIsOpen R = (j : Journaled R) (inode : ℕ) (file : FileBlob) (bytes : List ℕ) → HasDurable j inode file bytes → IsOpen j inode file

-- the number of an open file has its durable bytes
abbrev pub OpenIsFound : Type 0 → Type 0
OpenIsFound R = (j : Journaled R) (inode : ℕ) (file : FileBlob) (is : IsOpen j inode file) → current_file j inode ≡ Some is.durable
