use Rattle.std.proofs.Common.{◌≡◌, false, take}
use Rattle.blob_directory.specs.Wanted.{makes_any}
use Rattle.blob_directory.proofs.wanted.makes_any.Given as goal

abbrev pub invariant-loop-inode : goal.invariant-loop-inode
invariant-loop-inode l = makes_any (take l.inode-index l.inodes) l.edit ≡ false
