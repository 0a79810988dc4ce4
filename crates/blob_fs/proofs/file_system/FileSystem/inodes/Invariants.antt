use Rattle.blob_fs.proofs.Syncing.{Lists}
use Rattle.blob_fs.proofs.file_system.FileSystem.inodes.Given as goal

abbrev pub invariant-loop-inode : goal.invariant-loop-inode
invariant-loop-inode g l = Lists l.self.files l.inode-iterator l.inodes.items
