-- The journal of some names, and the names that a recovery finds.
use Rattle.std.specs.Prelude.{◌≡◌, ℕ, List, Option, Some, codes}
use Rattle.std.specs.Int.{w64, to_be_bytes, to_le_bytes}
use Rattle.blob_model.specs.Directory.{current}
use Rattle.blob_model.specs.Draws.{chosen_by}
use Rattle.blob_model.specs.Places.{Place}
use Rattle.blob_model.specs.Stands.{replayed_at}
use Rattle.blob_draws.specs.Rows.{table_of}
use Rattle.blob_draws.specs.declared.selections.Selections.{Selections}
use Rattle.blob_memory.specs.Store.{directory, durable, logical_blob, place}
use Rattle.blob_faulty.specs.Keeps.{OverMemory}
use Rattle.blob_faulty.specs.Wrapper.{inner_of, inside, pending_of}
use Rattle.blob_directory.specs.Checkpoints.{Gives}
use Rattle.blob_directory.specs.Names.{Names}
use Rattle.blob_directory.specs.Profiles.{names_told}
use Rattle.blob_directory.specs.Trees.{Finds}
use Rattle.blob_directory.specs.declared.profile.Keeps.{Keeps}
use Rattle.blob_directory.specs.Rules.{rule_of}
use Rattle.blob_journal.specs.declared.journaled.Journaled.{Journaled}
use Rattle.blob_journal.specs.declared.store.FileBlob.{FileBlob}
use Rattle.blob_journal.specs.Currents.{IsFixed, IsGiven, KeepsFiles}
use Rattle.blob_journal.specs.Keeping.{names_in}

-- the journal of a generation: the durable bytes of its blob
pub record IsJournal {R : Type 0} (store : OverMemory R) (generation : ℕ) (bytes : List ℕ) : Type 0 where
  pub place : Place
  pub current : current (directory (inner_of store)) (codes "j") (to_be_bytes w64 generation) ≡ Some place
  pub durable : durable (inner_of store) place ≡ Some bytes

-- the same after a crash that kept these rows: what was pending of the blob, replayed over its durable bytes
pub record IsJournalAfter {R : Type 0} (store : OverMemory R) (generation : ℕ) (kept : Selections) (bytes : List ℕ) : Type 0 where
  pub place : Place
  pub current : current (directory (inner_of store)) (codes "j") (to_be_bytes w64 generation) ≡ Some place
  pub replayed : replayed_at (chosen_by (table_of kept)) (pending_of (λ o. o) store place) (durable (inner_of store) place) ≡ Some bytes

abbrev pub store_of : {R : Type 0} → Journaled R → OverMemory R
store_of j = j.store

abbrev pub generation_of : {R : Type 0} → Journaled R → ℕ
generation_of j = j.journal.generation

-- the durable bytes of a file's number; none if it has no blob
abbrev pub durable_file : {R : Type 0} → Journaled R → ℕ → Option (List ℕ)
durable_file j inode = logical_blob (inner_of (store_of j)) (codes "f") (to_le_bytes w64 inode)

-- the journal has these bytes, and the names are those that a recovery finds by them
pub record FindsNames {R : Type 0} (j : Journaled R) (keeps : Keeps) (names : Names) : Type 0 where
  pub journal : List ℕ
  pub is : IsJournal (store_of j) (generation_of j) journal
  pub finds : Finds names (names_told (rule_of keeps j.unsettled.edits.items) journal)

-- the same after a crash: the journal has those of its pending records that the crash kept
pub record FindsKept {R : Type 0} (j : Journaled R) (kept : Selections) (keeps : Keeps) (names : Names) : Type 0 where
  pub journal : List ℕ
  pub is : IsJournalAfter (store_of j) (generation_of j) kept journal
  pub finds : Finds names (names_told (rule_of keeps j.unsettled.edits.items) journal)

-- whatever names are found after a crash that kept these rows, the journal before it gives them
abbrev pub CrashKeeps : {R : Type 0} → Journaled R → Selections → Journaled R → Type 0
CrashKeeps j kept j' = (keeps : Keeps) (names : Names) → FindsNames j' keeps names → FindsKept j kept keeps names

-- the journal of a generation, of which nothing is pending: every crash leaves its durable bytes
pub record IsFixedJournal {R : Type 0} (store : OverMemory R) (generation : ℕ) (bytes : List ℕ) : Type 0 where
  pub place : Place
  pub current : current (directory (inner_of store)) (codes "j") (to_be_bytes w64 generation) ≡ Some place
  pub fixed : IsFixed store place bytes

-- whatever a crash keeps, the journal gives the names that calls see, by every rule
pub record GivesNames {R : Type 0} (j : Journaled R) : Type 0 where
  pub journal : List ℕ
  pub is : IsFixedJournal (store_of j) (generation_of j) journal
  pub gives : Gives journal (names_in j)

-- the file's blob was opened in this store
abbrev pub HasFile : {R : Type 0} → Journaled R → FileBlob → Type 0
HasFile j file = IsGiven (store_of j) (place (inside file.blob))

-- after a call on a file
abbrev pub KeepsFile : {R : Type 0} → FileBlob → Journaled R → FileBlob → Journaled R → Type 0
KeepsFile file j file' j' = HasFile j file → HasFile j' file'

-- if the file's blob was opened in this store, and the store represented some files, it still does
abbrev pub KeepsFilesOf : {R : Type 0} → FileBlob → Journaled R → Journaled R → Type 0
KeepsFilesOf file j j' = HasFile j file → KeepsFiles (store_of j) (store_of j')
