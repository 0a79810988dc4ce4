-- Forks of names with their journal, and copies of open files for them.
use Rattle.std.specs.Prelude.{◌≡◌, ◌↔◌, ℕ, List, Bool}
use Rattle.blob_draws.specs.declared.selections.Selections.{Selections}
use Rattle.blob_memory.specs.Store.{durable, live, place}
use Rattle.blob_faulty.specs.Keeps.{OverMemory}
use Rattle.blob_faulty.specs.Wrapper.{KeepsRecords, inner_of, inside, size_of}
use Rattle.blob_directory.specs.Copies.{AreCopies}
use Rattle.blob_directory.specs.Names.{Names}
use Rattle.blob_directory.specs.declared.profile.Keeps.{Keeps}
use Rattle.blob_journal.specs.declared.journaled.Journaled.{Journaled}
use Rattle.blob_journal.specs.declared.store.FileBlob.{FileBlob}
use Rattle.blob_journal.specs.Blobs.{bytes_of}
use Rattle.blob_journal.specs.Currents.{SameDirectory}
use Rattle.blob_journal.specs.Fixed.{HasFixed, IsOpen}
use Rattle.blob_journal.specs.Journals.{FindsKept, FindsNames, generation_of, store_of}
use Rattle.blob_journal.specs.Keeping.{FindsTold, KeepsTold, names_in}
use Rattle.blob_journal.specs.Logs.{logged_in}
use Rattle.blob_journal.specs.Settling.{FindsKeptEdits, place_of, unsettled_of}

-- a handle of the same blob, with the same live bytes and the same size
pub record IsCopy (file copy : FileBlob) : Type 0 where
  pub place : place (inside copy.blob) ≡ place (inside file.blob)
  pub live : live (inside copy.blob) ≡ live (inside file.blob)
  pub size : size_of copy.blob ≡ size_of file.blob

-- the same blobs have the same durable bytes, and the same is pending of each; the fault rates and the numbers still to be given are the same
pub record IsSameStore {R : Type 0} (store fork : OverMemory R) : Type 0 where
  pub directory : SameDirectory store fork
  pub durable : durable (inner_of fork) ≡ durable (inner_of store)
  pub records : KeepsRecords (λ o. o) store fork

-- calls see the same names; the journal has the same edits, and the same of them are unsettled
pub record IsFork {R : Type 0} (j fork : Journaled R) : Type 0 where
  pub store : IsSameStore (store_of j) (store_of fork)
  pub names : names_in fork ≡ names_in j
  pub told : KeepsTold j fork
  pub unsettled : AreCopies (unsettled_of j) (unsettled_of fork)
  pub log : logged_in fork ≡ logged_in j
  pub place : place_of fork ≡ place_of j
  pub generation : generation_of fork ≡ generation_of j
  pub opened : fork.opened ≡ j.opened
  pub next_edit : fork.next_edit ≡ j.next_edit

-- A recovery finds the same names in both, now and after a crash that kept these rows, by every profile, and the same edits.
pub record FindsSame {R : Type 0} (j fork : Journaled R) : Type 0 where
  pub names : (keeps : Keeps) (names : Names) → FindsNames j keeps names ↔ FindsNames fork keeps names
  pub kept : (kept : Selections) (keeps : Keeps) (names : Names) → FindsKept j kept keeps names ↔ FindsKept fork kept keeps names
  pub edits : (kept : Selections) (keeps : Keeps) (edits : List Bool) → FindsKeptEdits j kept keeps edits ↔ FindsKeptEdits fork kept keeps edits
  pub told : (keeps : Keeps) (names : Names) → FindsTold j keeps names ↔ FindsTold fork keeps names

-- Laws of copies of open files.

-- calls see the same bytes by both
abbrev pub CopySees : Type 0
CopySees = (file copy : FileBlob) → IsCopy file copy → bytes_of copy ≡ bytes_of file

-- a copy of an open file is open
abbrev pub CopyIsOpen : Type 0 → Type 0
CopyIsOpen R = (j : Journaled R) (inode : ℕ) (file copy : FileBlob) → IsCopy file copy → IsOpen j inode file → IsOpen j inode copy

-- and has the same fixed bytes
abbrev pub CopyIsFixed : Type 0 → Type 0
CopyIsFixed R = (j : Journaled R) (file copy : FileBlob) (at byte : ℕ) → IsCopy file copy → HasFixed j file at byte → HasFixed j copy at byte
