-- Calls that draw, and change nothing else, and the draws of a crash.
use Rattle.std.specs.Prelude.{◌≡◌}
use Rattle.rand_core.specs.Stream.{Stream}
use Rattle.blob_draws.specs.declared.selections.Selections.{Selections}
use Rattle.blob_faulty.specs.Crashes.{CrashDraws}
use Rattle.blob_faulty.specs.Keeps.{OverMemory}
use Rattle.blob_journal.specs.Journals.{store_of}
use Rattle.blob_journal.specs.Settling.{unsettled_of}
use Rattle.blob_journal.specs.Writes.{SameCrashes}
use Rattle.blob_fs.specs.declared.file_system.FileSystem.{FileSystem}
use Rattle.blob_fs.specs.Files.{KeepsNames, KeepsTold, SameFiles, fresh_inode, journaled_of}
use Rattle.blob_fs.specs.Fixed.{KeepsFixed}

-- The generator and the rates may have changed: the files, the names and the edits are the same, and so is what a crash leaves.
pub record OnlyDraws {R : Type 0} (fs fs' : FileSystem R) : Type 0 where
  pub files : SameFiles fs fs'
  pub number : fresh_inode fs' ≡ fresh_inode fs
  pub names : KeepsNames fs fs'
  pub told : KeepsTold fs fs'
  pub unsettled : unsettled_of (journaled_of fs') ≡ unsettled_of (journaled_of fs)
  pub crashes : SameCrashes (journaled_of fs) (journaled_of fs')
  pub fixed : KeepsFixed fs fs'

-- The rows of a crash are drawn from the generator: exactly those of the pending writes that need a draw.
pub record DrawsCrash {R : Type 0} (stream : R → Stream) (fs : FileSystem R) (rows : Selections) : Type 0 where
  pub after : OverMemory R
  pub drawn : CrashDraws stream (store_of (journaled_of fs)) after rows
