-- What an unsynced write records, and what a crash leaves of files after it and after a change of the fault rates.
use Rattle.std.specs.Prelude.{◌≡◌, ℕ, List, option_map}
use Rattle.blob_model.specs.Draws.{chosen_by}
use Rattle.blob_model.specs.Files.{Files, all_logged}
use Rattle.blob_model.specs.Log.{Entry, replay_log}
use Rattle.blob_draws.specs.Changes.{loose}
use Rattle.blob_draws.specs.Faults.{retention}
use Rattle.blob_draws.specs.Rows.{table_of}
use Rattle.blob_draws.specs.declared.selections.Selections.{Selections}
use Rattle.blob_memory.specs.Store.{place}
use Rattle.blob_faulty.specs.Keeps.{IsFor, OverMemory}
use Rattle.blob_faulty.specs.Wrapper.{config_of, inside, next_write_of}
use Rattle.blob_journal.specs.declared.journaled.Journaled.{Journaled}
use Rattle.blob_journal.specs.declared.store.FileBlob.{FileBlob}
use Rattle.blob_journal.specs.Blobs.{IsCurrent, IsFileOf, crashed_file}
use Rattle.blob_journal.specs.Journals.{store_of}

-- The entry of a write that returns Ok: the write, with the mode and the rate that are set. Without a rate, or if it is 0, there is none.
abbrev pub entries_of_write : {R : Type 0} → OverMemory R → ℕ → List ℕ → List Entry
entries_of_write store offset bytes = loose (retention (config_of store).write_rate) (next_write_of store) offset bytes

-- The file's log has this entry more, and the durable bytes stay. Whatever a crash keeps, it leaves what it would have left before, with
-- what it keeps of this write.
pub record RecordsWrite {R : Type 0} (offset : ℕ) (bytes : List ℕ) (j : Journaled R) (file : FileBlob) (j' : Journaled R) (file' : FileBlob) : Type 0 where
  pub logged : (files : Files) → IsFor (store_of j) files → IsFor (store_of j') (all_logged files (place (inside file.blob)) (entries_of_write (store_of j) offset bytes))
  pub same : (inode : ℕ) (durable : List ℕ) → IsFileOf j inode file durable → IsFileOf j' inode file' durable
  pub left : (inode : ℕ) (kept : Selections) → IsCurrent j inode file
      → crashed_file j' kept inode ≡ option_map (λ x. replay_log x (entries_of_write (store_of j) offset bytes) (chosen_by (table_of kept))) (crashed_file j kept inode)

-- The store represents the same files, the open files are the same, and a crash leaves the same of each number.
pub record SameCrashes {R : Type 0} (j j' : Journaled R) : Type 0 where
  pub stands : (files : Files) → IsFor (store_of j) files → IsFor (store_of j') files
  pub next_write : next_write_of (store_of j') ≡ next_write_of (store_of j)
  pub same : (inode : ℕ) (file : FileBlob) (durable : List ℕ) → IsFileOf j inode file durable → IsFileOf j' inode file durable
  pub left : (inode : ℕ) (kept : Selections) → crashed_file j' kept inode ≡ crashed_file j kept inode
