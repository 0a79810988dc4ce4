use Rattle.blob_fs.proofs.WritePlaces.{HasInodes}
use Rattle.blob_fs.proofs.file_system.FileSystem.inodes_by_number.Given as goal

abbrev pub invariant-loop-inode : goal.invariant-loop-inode
invariant-loop-inode g l = HasInodes l.self l.inode-iterator l.inodes
