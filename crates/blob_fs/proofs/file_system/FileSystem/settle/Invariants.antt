use Rattle.blob_fs.specs.Fixed.{KeepsSeen}
use Rattle.blob_fs.specs.Files.{KeepsJournal}
use Rattle.blob_fs.specs.States.{KeepsState}
use Rattle.blob_fs.proofs.Syncing.{AreDone}
use Rattle.blob_fs.proofs.file_system.FileSystem.settle.Given as goal

abbrev pub invariant-loop-inode : goal.invariant-loop-inode
invariant-loop-inode g l = record {
  keeps : KeepsState l.fn.self l.self;
  journal : KeepsJournal l.fn.self l.self;
  seen : KeepsSeen l.fn.self l.self;
  done : AreDone l.fn.self l.self l.inode-items l.inode-index;
}
