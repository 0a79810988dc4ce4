use Rattle.blob_journal.specs.Journals.{GivesNames}
use Rattle.blob_fs.specs.Bytes.{KeepsBlobsOf}
use Rattle.blob_fs.specs.Fixed.{AreWhole}
use Rattle.blob_fs.specs.Open.{AllOpen}
use Rattle.blob_journal.specs.Unchanged.{KeepsNamesAndEdits}
use Rattle.blob_fs.proofs.recovery.remove_unnamed.Given as goal

abbrev pub invariant-loop-inode : goal.invariant-loop-inode
invariant-loop-inode g l = record {
  keeps : KeepsNamesAndEdits l.fn.store l.store;
  gives : GivesNames l.fn.store → GivesNames l.store;
  kept : KeepsBlobsOf l.files l.fn.store l.store;
  opened : AllOpen l.fn.store l.files → AllOpen l.store l.files;
  whole : AllOpen l.fn.store l.files → AreWhole l.fn.store l.files → AreWhole l.store l.files;
}
