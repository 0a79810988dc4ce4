-- Open files, and the bytes of them that no crash changes.
use Rattle.std.specs.Prelude.{◌≡◌, ◌≢◌, ◌&&◌, ◌+◌, ◌<◌, ◌≤◌, ◌^◌, ◌⊎◌, ℕ, true, length, get_or, nat_eq, nat_lt, option_map, Some}
use Rattle.blob_memory.specs.Store.{place}
use Rattle.blob_faulty.specs.Leaves.{Test}
use Rattle.blob_faulty.specs.Wrapper.{inside}
use Rattle.blob_journal.specs.declared.journaled.Journaled.{Journaled}
use Rattle.blob_journal.specs.declared.store.FileBlob.{FileBlob}
pub use Rattle.blob_journal.specs.Blobs.{IsOpen}
use Rattle.blob_journal.specs.Blobs.{bytes_of, current_file}
use Rattle.blob_journal.specs.Currents.{FindsOnly}
use Rattle.blob_journal.specs.Journals.{store_of}

-- this is the byte at a position
abbrev pub has_byte : ℕ → ℕ → Test
has_byte at byte bytes = nat_lt at (length bytes) && nat_eq (get_or bytes at 0) byte

-- calls see this byte at a position, and it is found there, now and after any crash that the store may draw
pub record HasFixed {R : Type 0} (j : Journaled R) (file : FileBlob) (at byte : ℕ) : Type 0 where
  pub seen : has_byte at byte (bytes_of file) ≡ true
  pub found : ∥ FindsOnly (store_of j) (place (inside file.blob)) (has_byte at byte) ∥₁

-- each open file is still open, and what is fixed of it stays so
pub record KeepsOpen {R : Type 0} (j j' : Journaled R) : Type 0 where
  pub still : (inode : ℕ) (file : FileBlob) → IsOpen j inode file → IsOpen j' inode file
  pub fixed : (file : FileBlob) (at byte : ℕ) → HasFixed j file at byte → HasFixed j' file at byte

-- each open file is still open, also by another handle of the same blob
abbrev pub KeepsHandles : {R : Type 0} → Journaled R → Journaled R → Type 0
KeepsHandles j j' = (inode : ℕ) (file : FileBlob) → IsOpen j inode file → IsOpen j' inode file

-- each open file of another number is, and what is fixed of it stays so
pub record KeepsOpenBut {R : Type 0} (inode : ℕ) (j j' : Journaled R) : Type 0 where
  pub still : (other : ℕ) (file : FileBlob) → other < 2 ^ 64 → other ≢ inode → IsOpen j other file → IsOpen j' other file
  pub fixed : (other : ℕ) (file : FileBlob) (at byte : ℕ) → other < 2 ^ 64 → other ≢ inode → IsOpen j other file → HasFixed j file at byte → HasFixed j' file at byte

-- A call on an open file, whatever it returns: the file is still open, and what is fixed of it stays so at each position that the call
-- doesn't reach. Other files stay as they are.
pub record ChangesOpen {R : Type 0} (spares : ℕ → Type 0) (j : Journaled R) (file : FileBlob) (j' : Journaled R) (file' : FileBlob) : Type 0 where
  pub still : (inode : ℕ) → IsOpen j inode file → IsOpen j' inode file'
  pub fixed : (at byte : ℕ) → spares at → HasFixed j file at byte → HasFixed j' file' at byte
  pub others : (inode : ℕ) → inode < 2 ^ 64 → IsOpen j inode file → KeepsOpenBut inode j j'

-- a write of so many bytes at an offset doesn't reach this position
abbrev pub IsBeside : ℕ → ℕ → ℕ → Type 0
IsBeside offset count at = (at < offset) ⊎ (offset + count ≤ at)

-- all that calls see of an open file is fixed
abbrev pub FixesOpen : {R : Type 0} → Journaled R → FileBlob → Journaled R → FileBlob → Type 0
FixesOpen {R} j file j' file' = (inode : ℕ) → IsOpen j inode file → (at byte : ℕ) → has_byte at byte (bytes_of file) ≡ true → HasFixed j' file' at byte

-- the file is open again, and what was fixed of it is
pub record ReopensFile {R : Type 0} (j : Journaled R) (inode : ℕ) (j' : Journaled R) (file' : FileBlob) : Type 0 where
  pub still : IsOpen j' inode file'
  pub fixed : (file : FileBlob) (at byte : ℕ) → IsOpen j inode file → HasFixed j file at byte → HasFixed j' file' at byte

-- Law: a fixed byte is durable.
abbrev pub FixedIsFound : Type 0 → Type 0
FixedIsFound R = (j : Journaled R) (inode : ℕ) (file : FileBlob) (at byte : ℕ) → IsOpen j inode file → HasFixed j file at byte
    → option_map (has_byte at byte) (current_file j inode) ≡ Some true
