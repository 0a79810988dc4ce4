-- What a call leaves as it was: names, recorded edits, fixed bytes and options.
use Rattle.std.specs.Prelude.{ℕ}
use Rattle.blob_journal.specs.declared.journaled.Journaled.{Journaled}
use Rattle.blob_journal.specs.Currents.{KeepsFiles}
use Rattle.blob_journal.specs.Fixed.{KeepsHandles}
use Rattle.blob_journal.specs.Journals.{store_of}
use Rattle.blob_journal.specs.Unchanged.{KeepsNamesAndEdits}
use Rattle.blob_fs.specs.declared.file_system.FileSystem.{FileSystem}
use Rattle.blob_fs.specs.Files.{KeepsNames, KeepsOptions, KeepsTold}
use Rattle.blob_fs.specs.Fixed.{KeepsFixed, KeepsFixedBut}

-- no name and no option has changed, no edit is recorded or settled, and each fixed byte stays fixed
pub record KeepsState {R : Type 0} (fs fs' : FileSystem R) : Type 0 where
  pub names : KeepsNames fs fs'
  pub told : KeepsTold fs fs'
  pub fixed : KeepsFixed fs fs'
  pub options : KeepsOptions fs fs'

-- the same, but each fixed byte of another file
pub record KeepsStateBut {R : Type 0} (inode : ℕ) (fs fs' : FileSystem R) : Type 0 where
  pub names : KeepsNames fs fs'
  pub told : KeepsTold fs fs'
  pub fixed : KeepsFixedBut inode fs fs'
  pub options : KeepsOptions fs fs'

-- after a call that may change names or edits: each fixed byte stays fixed, and no option has changed
pub record KeepsFixedAndOptions {R : Type 0} (fs fs' : FileSystem R) : Type 0 where
  pub fixed : KeepsFixed fs fs'
  pub options : KeepsOptions fs fs'

-- no name of the store has changed, and no edit is recorded or settled; it still represents files, and each open file stays open
pub record KeepsStored {R : Type 0} (j j' : Journaled R) : Type 0 where
  pub edits : KeepsNamesAndEdits j j'
  pub files : KeepsFiles (store_of j) (store_of j')
  pub handles : KeepsHandles j j'
