use Rattle.blob_journal.specs.Errors.{IsFaultless}
use Rattle.blob_fs.specs.Bytes.{HasOnlyKnown, HasOnlyLinked}
use Rattle.blob_fs.specs.Fixed.{AreWhole}
use Rattle.blob_fs.specs.Open.{AllOpen}
use Rattle.blob_fs.specs.States.{KeepsStored}
use Rattle.blob_fs.specs.Tracked.{AllPresent}
use Rattle.blob_fs.proofs.Counting.{CountsAllBut}
use Rattle.blob_fs.proofs.Recovering.{AreLinked, Ascend, Stands}
use Rattle.blob_fs.proofs.recovery.reopen_all.Given as goal

abbrev pub invariant-loop-inode : goal.invariant-loop-inode
invariant-loop-inode g l = record {
  keeps : KeepsStored l.fn.store l.store;
  ascend : Ascend l.inode-iterator;
  counted : AreLinked l.tree l.inode-iterator;
  left : Stands l.fn.store l.old l.tree l.kept l.loss l.inode-iterator l.store l.files;
  linked : HasOnlyLinked l.tree l.files;
  opened : AllOpen l.store l.files;
  whole : AreWhole l.store l.files;
  known : HasOnlyKnown l.old l.files;
  faultless : IsFaultless l.fn.store → IsFaultless l.store;
  counts : CountsAllBut l.tree l.inode-iterator l.files;
  present : AllPresent l.files;
}
