-- The call of a kind, numbers and paths.
use Rattle.std.specs.Prelude.{ℕ, List, [], ◌∷◌, Option, Some, if◌then◌else◌, nat_lt, option_map}
use Rattle.blob_fs.specs.Acts.{Act, Create, Open, OpenTruncated, Unlink, MakeDirectory, RemoveDirectory, ListNames, SyncDirectory, Find, Link, Move, CreateAt, UnlinkAt, MakeDirectoryAt, RemoveDirectoryAt, FindAt, LinkAt, MoveAt, ListAt, SyncDirectoryAt, OpenInode, OpenInodeTruncated, Close, Size, Sync, SyncData, InodeOf, Truncate, SyncAll, Settle, Commit, Crash, Tree}
use Rattle.blob_fs.specs.declared.file_system.Descriptor.{Descriptor}
use Rattle.blob_fs.specs.declared.renames.Rename.{Rename}
use Rattle.blob_fs.specs.declared.renames.Rename.TheVariants.{Replace, NoReplace, Exchange}
use Rattle.blob_sessions.specs.Typed.{by_kind}
use Rattle.blob_file_sessions.specs.declared.call.FileCall.{FileCall}
use Rattle.blob_file_sessions.specs.declared.kinds.TheConstants.{CREATE, OPEN, OPEN_TRUNCATED, LINK, UNLINK, RENAME, MAKE_DIRECTORY, REMOVE_DIRECTORY, LIST, SYNC_DIRECTORY, FIND, CREATE_AT, LINK_AT, UNLINK_AT, RENAME_AT, MAKE_DIRECTORY_AT, REMOVE_DIRECTORY_AT, LIST_AT, SYNC_DIRECTORY_AT, FIND_AT, OPEN_INODE, OPEN_INODE_TRUNCATED, CLOSE, TRUNCATE, SIZE, SYNC, SYNC_DATA, INODE_OF, SYNC_ALL, SETTLE, CRASH, TREE, COMMIT}

-- what a rename does if the new name is taken
abbrev pub how_in : ℕ → Option Rename
how_in number = by_kind number ((0, Some Replace) ∷ (1, Some NoReplace) ∷ (2, Some Exchange) ∷ [])

-- the descriptor with a number
abbrev pub descriptor : ℕ → Descriptor
descriptor n = record { number = n }

abbrev pub path_acts : FileCall → List ℕ → List ℕ → List (ℕ × Option Act)
path_acts asked p to =
    (CREATE, Some (Create p))
    ∷ (OPEN, Some (Open p))
    ∷ (OPEN_TRUNCATED, Some (OpenTruncated p))
    ∷ (LINK, Some (Link p to))
    ∷ (UNLINK, Some (Unlink p))
    ∷ (RENAME, option_map (Move p to) (how_in asked.first))
    ∷ (MAKE_DIRECTORY, Some (MakeDirectory p))
    ∷ (REMOVE_DIRECTORY, Some (RemoveDirectory p))
    ∷ (LIST, Some (ListNames p))
    ∷ (SYNC_DIRECTORY, Some (SyncDirectory p))
    ∷ (FIND, Some (Find p))
    ∷ []

abbrev pub directory_acts : FileCall → List ℕ → List ℕ → List (ℕ × Option Act)
directory_acts asked name to =
    (CREATE_AT, Some (CreateAt asked.number name))
    ∷ (LINK_AT, Some (LinkAt asked.first asked.number name))
    ∷ (UNLINK_AT, Some (UnlinkAt asked.number name))
    ∷ (RENAME_AT, option_map (MoveAt asked.number name asked.first to) (how_in asked.last))
    ∷ (MAKE_DIRECTORY_AT, Some (MakeDirectoryAt asked.number name))
    ∷ (REMOVE_DIRECTORY_AT, Some (RemoveDirectoryAt asked.number name))
    ∷ (LIST_AT, Some (ListAt asked.number))
    ∷ (SYNC_DIRECTORY_AT, Some (SyncDirectoryAt asked.number))
    ∷ (FIND_AT, Some (FindAt asked.number name))
    ∷ (OPEN_INODE, Some (OpenInode asked.number))
    ∷ (OPEN_INODE_TRUNCATED, Some (OpenInodeTruncated asked.number))
    ∷ []

abbrev pub descriptor_acts : FileCall → List (ℕ × Option Act)
descriptor_acts asked =
    (CLOSE, Some (Close (descriptor asked.number)))
    ∷ (TRUNCATE, Some (Truncate (descriptor asked.number) asked.first))
    ∷ (SIZE, Some (Size (descriptor asked.number)))
    ∷ (SYNC, Some (Sync (descriptor asked.number)))
    ∷ (SYNC_DATA, Some (SyncData (descriptor asked.number)))
    ∷ (INODE_OF, Some (InodeOf (descriptor asked.number)))
    ∷ []

abbrev pub whole_acts : List (ℕ × Option Act)
whole_acts = (SYNC_ALL, Some SyncAll) ∷ (SETTLE, Some Settle) ∷ (CRASH, Some Crash) ∷ (TREE, Some Tree) ∷ (COMMIT, Some Commit) ∷ []

-- the kinds below 16 are those by paths, those below 32 by directories and inodes, and those below 48 by descriptors
abbrev pub call_of : FileCall → List ℕ → List ℕ → Option Act
call_of asked p to =
    if nat_lt asked.kind 16 then by_kind asked.kind (path_acts asked p to)
    else if nat_lt asked.kind 32 then by_kind asked.kind (directory_acts asked p to)
    else if nat_lt asked.kind 48 then by_kind asked.kind (descriptor_acts asked)
    else by_kind asked.kind whole_acts
