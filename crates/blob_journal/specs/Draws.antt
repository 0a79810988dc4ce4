-- The faults of a journal's writes, and what a crash keeps of its records.
use Rattle.std.specs.Prelude.{◌≡◌, ◌==◌, ◌-◌, ◌^◌, ℕ, List, Option, None, Some, false, true, if◌then◌else◌}
use Rattle.blob_model.specs.Files.{Files, all_logged}
use Rattle.blob_model.specs.Log.{Entry}
use Rattle.blob_model.specs.Rates.{Rate}
use Rattle.blob_model.specs.declared.mode.PartialWriteMode.{PartialWriteMode}
use Rattle.blob_model.specs.declared.mode.PartialWriteMode.TheVariants.{Sectors}
use Rattle.blob_draws.specs.Changes.{loose}
use Rattle.blob_draws.specs.declared.config.Config.{Config}
use Rattle.blob_draws.specs.declared.config.WriteConfig.{WriteConfig}
use Rattle.blob_memory.specs.Store.{place}
use Rattle.blob_faulty.specs.Keeps.{IsFor, OverMemory}
use Rattle.blob_faulty.specs.Wrapper.{inside, next_write_of}
use Rattle.blob_packed.specs.Records.{record_bytes}
use Rattle.blob_directory.specs.Names.{Edit}
use Rattle.blob_directory.specs.Records.{record_of}
use Rattle.blob_journal.specs.declared.journal.Journal.{Journal}
use Rattle.blob_journal.specs.declared.journaled.Journaled.{Journaled}
use Rattle.blob_journal.specs.Currents.{IsGiven}

-- no write fails, and a crash keeps each of them whole or loses it: all bytes are in one sector, since no write ends at 2^64 or later
pub record DrawsWhole (config : Config) : Type 0 where
  pub writes : WriteConfig
  pub is : config.write_rate ≡ Some writes
  pub never : (writes.failure_rate.numerator == 0) ≡ true
  pub mode : writes.mode ≡ Sectors (2 ^ 64 - 1)

-- a crash keeps a record by this mode and rate; by the rate 0 it keeps none
abbrev pub kept_whole : Rate → Option (PartialWriteMode × Rate)
kept_whole rate = if rate.numerator == 0 then None else Some (Sectors (2 ^ 64 - 1), rate)

-- the entry of an edit's record: the number of the write, that of the record, and its offset in the journal
abbrev pub entries_of_record : Rate → Edit → (write n offset : ℕ) → List Entry
entries_of_record rate edit write n offset = loose (kept_whole rate) write offset (record_bytes n (record_of edit false))

-- the journal's log has the entry of this edit's record more
abbrev pub LogsEdit : {R : Type 0} → Edit → Rate → Journal → OverMemory R → OverMemory R → Type 0
LogsEdit edit rate journal store store' = IsGiven store (place (inside journal.blob)) → (files : Files) → IsFor store files
    → IsFor store' (all_logged files (place (inside journal.blob)) (entries_of_record rate edit (next_write_of store) journal.records journal.end))

-- the same of its names
abbrev pub RecordsEdit : {R : Type 0} → Edit → Rate → Journaled R → Journaled R → Type 0
RecordsEdit edit rate j j' = (files : Files) → IsFor j.store files
    → IsFor j'.store (all_logged files (place (inside j.journal.blob)) (entries_of_record rate edit (next_write_of j.store) j.journal.records j.journal.end))

-- by some files that the store represents, the journal's log ends with the entry of this edit's record
pub record EndsWithEdit {R : Type 0} (edit : Edit) (rate : Rate) (j : Journaled R) : Type 0 where
  pub files : Files
  pub write : ℕ
  pub number : ℕ
  pub offset : ℕ
  pub stands : IsFor j.store (all_logged files (place (inside j.journal.blob)) (entries_of_record rate edit write number offset))
