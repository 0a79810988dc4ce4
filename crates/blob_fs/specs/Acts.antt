-- The calls on files as data of the definitions.
use Rattle.std.specs.Prelude.{ℕ, List}
use Rattle.blob_fs.specs.declared.call.Call.{Call}
use Rattle.blob_fs.specs.declared.call.Call.TheVariants as call
use Rattle.blob_fs.specs.declared.call.LookUp.{LookUp}
use Rattle.blob_fs.specs.declared.call.LookUp.TheVariants as looks
use Rattle.blob_fs.specs.declared.call.NumberCall.{NumberCall}
use Rattle.blob_fs.specs.declared.call.NumberCall.TheVariants as numbered
use Rattle.blob_fs.specs.declared.call.PathCall.{PathCall}
use Rattle.blob_fs.specs.declared.call.PathCall.TheVariants as path
use Rattle.blob_fs.specs.declared.file_system.Descriptor.{Descriptor}
use Rattle.blob_fs.specs.declared.renames.Rename.{Rename}

pub data Act : Type 0 where
  -- by paths
  Create Open OpenTruncated Unlink MakeDirectory RemoveDirectory ListNames SyncDirectory Find : List ℕ → Act
  Link : List ℕ → List ℕ → Act
  Move : List ℕ → List ℕ → Rename → Act
  -- by a directory's number and a name in it
  CreateAt UnlinkAt MakeDirectoryAt RemoveDirectoryAt FindAt : ℕ → List ℕ → Act
  LinkAt : ℕ → ℕ → List ℕ → Act  -- the first is the inode
  MoveAt : ℕ → List ℕ → ℕ → List ℕ → Rename → Act
  ListAt SyncDirectoryAt : ℕ → Act
  -- by an inode
  OpenInode OpenInodeTruncated : ℕ → Act
  -- by a descriptor
  Close Size Sync SyncData InodeOf : Descriptor → Act
  Truncate : Descriptor → ℕ → Act
  Read : Descriptor → ℕ → ℕ → Act  -- an offset and how many bytes at most
  Write : Descriptor → ℕ → List ℕ → Act
  -- of all
  SyncAll Settle Commit Crash Tree : Act

-- What a call of the code is.

abbrev pub path_act : PathCall → Act
path_act (path.Create p) = Create p.now
path_act (path.Open p) = Open p.now
path_act (path.OpenTruncated p) = OpenTruncated p.now
path_act (path.Link p to) = Link p.now to.now
path_act (path.Unlink p) = Unlink p.now
path_act (path.Rename p to how) = Move p.now to.now how
path_act (path.MakeDirectory p) = MakeDirectory p.now
path_act (path.RemoveDirectory p) = RemoveDirectory p.now
path_act (path.List p) = ListNames p.now
path_act (path.SyncDirectory p) = SyncDirectory p.now
path_act (path.Find p) = Find p.now

abbrev pub number_act : NumberCall → Act
number_act (numbered.Create d name) = CreateAt d name.now
number_act (numbered.MakeDirectory d name) = MakeDirectoryAt d name.now
number_act (numbered.Link inode d name) = LinkAt inode d name.now
number_act (numbered.Unlink d name) = UnlinkAt d name.now
number_act (numbered.RemoveDirectory d name) = RemoveDirectoryAt d name.now
number_act (numbered.Rename from old to new how) = MoveAt from old.now to new.now how
number_act (numbered.Open inode) = OpenInode inode
number_act (numbered.OpenTruncated inode) = OpenInodeTruncated inode
number_act (numbered.Close f) = Close f
number_act (numbered.Read f offset len) = Read f offset len
number_act (numbered.Write f offset bytes) = Write f offset bytes.now
number_act (numbered.Truncate f length) = Truncate f length
number_act (numbered.Sync f) = Sync f
number_act (numbered.SyncData f) = SyncData f
number_act (numbered.SyncDirectory d) = SyncDirectoryAt d
number_act numbered.SyncAll = SyncAll
number_act numbered.Settle = Settle

abbrev pub look_act : LookUp → Act
look_act (looks.Names d) = ListAt d
look_act (looks.Find d name) = FindAt d name.now
look_act (looks.Size f) = Size f
look_act (looks.Inode f) = InodeOf f

abbrev pub act_of : Call → Act
act_of (call.ByPath c) = path_act c
act_of (call.ByNumber c) = number_act c
act_of (call.LookUp c) = look_act c
act_of call.Commit = Commit
act_of call.Crash = Crash
act_of call.Tree = Tree
