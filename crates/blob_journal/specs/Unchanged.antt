-- What a call leaves as it was of names, their edits and open files.
use Rattle.blob_model.specs.Rates.{Rate}
use Rattle.blob_directory.specs.Names.{Edit}
use Rattle.blob_journal.specs.declared.journaled.Journaled.{Journaled}
use Rattle.blob_journal.specs.declared.store.FileBlob.{FileBlob}
use Rattle.blob_journal.specs.Draws.{RecordsEdit}
use Rattle.blob_journal.specs.Errors.{KeepsReady}
use Rattle.blob_journal.specs.Fixed.{KeepsHandles, KeepsOpen}
use Rattle.blob_journal.specs.Journals.{KeepsFile, KeepsFilesOf}
use Rattle.blob_journal.specs.Keeping.{AddsRecord, AddsTold, KeepsTable, KeepsTold}
use Rattle.blob_journal.specs.Logs.{KeepsLog}
use Rattle.blob_journal.specs.Settling.{KeepsJournal, KeepsUnsettled}
use Rattle.blob_journal.specs.Writes.{SameCrashes}

-- no name has changed, and no edit is made or settled
pub record KeepsNamesAndEdits {R : Type 0} (j j' : Journaled R) : Type 0 where
  pub names : KeepsTable j j'
  pub told : KeepsTold j j'
  pub unsettled : KeepsUnsettled j j'
  pub log : KeepsLog j j'

-- edits may be recorded or settled: no name has changed, also of the log's, and each open file stays open, with its fixed bytes
pub record KeepsNames {R : Type 0} (j j' : Journaled R) : Type 0 where
  pub table : KeepsTable j j'
  pub log : KeepsLog j j'
  pub still : KeepsOpen j j'

-- nothing has changed but the generator and the fault rates
pub record KeepsContents {R : Type 0} (j j' : Journaled R) : Type 0 where
  pub edits : KeepsNamesAndEdits j j'
  pub journal : KeepsJournal j j'
  pub crashes : SameCrashes j j'
  pub still : KeepsOpen j j'

-- after a call on an open file: its blob is still one of this store, each open file stays open, and one that was ready still is
pub record UsesFile {R : Type 0} (file : FileBlob) (j : Journaled R) (file' : FileBlob) (j' : Journaled R) : Type 0 where
  pub edits : KeepsNamesAndEdits j j'
  pub files : KeepsFilesOf file j j'
  pub given : KeepsFile file j file' j'
  pub handles : KeepsHandles j j'
  pub ready : KeepsReady j file j' file'

-- a call that changes no file: so it is for each one
abbrev pub UsesEach : {R : Type 0} → Journaled R → Journaled R → Type 0
UsesEach j j' = (file : FileBlob) → UsesFile file j file j'

-- one more edit was told, which nothing has settled: its record is the journal's last, and a crash keeps it by this rate
pub record TellsEdit {R : Type 0} (edit : Edit) (rate : Rate) (j j' : Journaled R) : Type 0 where
  pub written : AddsRecord edit j j'
  pub logged : RecordsEdit edit rate j j'
  pub told : AddsTold edit j j'
