-- What each call on files does, and with which reply.
use Rattle.std.specs.Prelude.{◌≡◌, ◌<◌, ◌≤◌, ℕ, IsSome, Bool, true, false, List, length, Err, Ok, None, Result, Some, Vec}
use Rattle.std.specs.Global.{Global}
use Rattle.blob_directory.specs.declared.edit.Binding.{Binding}
use Rattle.blob_directory.specs.Names.{binds, directory_at, entry, file, frees}
use Rattle.blob_directory.specs.Tables.{HasAll, HasOnly}
use Rattle.blob_fs.specs.declared.crash.Crash.{Crash}
use Rattle.blob_fs.specs.declared.error.FsError.{FsError}
use Rattle.blob_fs.specs.declared.file_system.Descriptor.{Descriptor}
use Rattle.blob_fs.specs.declared.file_system.FileSystem.{FileSystem}
use Rattle.blob_fs.specs.declared.switches.FailedWrite.TheVariants.{ByMode}
use Rattle.blob_fs.specs.declared.switches.Syncs.TheVariants.{Honest}
use Rattle.blob_fs.specs.declared.whole.TreeEntry.{TreeEntry}
use Rattle.blob_fs.specs.Bytes.{FindsBytes, FindsEdits, FindsKnown, HasNoOrphan}
use Rattle.blob_fs.specs.Calls.{Leaves, Makes, MaySettle, MaySettleIn, RenamesAt}
use Rattle.blob_fs.specs.Errors.{IsExhaustedError, next_number}
use Rattle.blob_fs.specs.Files.{Commits, FindsKept, FindsTold, GivesTold, KeepsEdits, KeepsNames, KeepsOptions, MayResize, MayResizeSome, MayTruncate, SameNames, SettlesSome, SyncsAll, SyncsData, SyncsDirectory, SyncsFile, fresh_inode, inode_opened, journaled_of, names_of, syncs_of}
use Rattle.blob_fs.specs.Fixed.{FindsFixed, FixesAll, FixesFile, FixesFound, KeepsFixed, KeepsFixedBut, KeepsSpared}
use Rattle.blob_fs.specs.Noted.{HasSize, NotesTruncation}
use Rattle.blob_fs.specs.Paths.{CreatesAt, FreesAt, IsBound, KeepsFixedBeside, LinksAt, Lists, MakesDirectoryAt, OpensPath, RenamesPath, SyncsPath}
use Rattle.blob_fs.specs.Places.{FindsPlaces}
use Rattle.blob_fs.specs.Reads.{ShowsWrite}
use Rattle.blob_fs.specs.Writes.{RecordsWrite, failed_write_of, writes_zeros}
use Rattle.blob_journal.specs.Fixed.{IsBeside}
use Rattle.blob_fs.specs.Acts as acts
use Rattle.blob_fs.specs.Acts.{Act}
use Rattle.blob_fs.specs.declared.reply.Reply.{Reply}
use Rattle.blob_fs.specs.declared.reply.Reply.TheVariants.{Done, Opened, Inode, Found, Size, Names, Tree, Crashed, Refused}

abbrev pub is_refused : Reply → Bool
is_refused (Refused error) = true
is_refused reply = false

-- The reply of a call that returns nothing, and what holds then; or it is a refusal, and what holds of that.
abbrev pub IsDone : Reply → Type 0 → Type 0 → Type 0
IsDone Done done refused = done
IsDone (Refused error) done refused = refused
IsDone reply done refused = ⊥

-- the same of a call that returns a descriptor
abbrev pub IsOpened : Reply → (Descriptor → Type 0) → Type 0 → Type 0
IsOpened (Opened f) opened refused = opened f
IsOpened (Refused error) opened refused = refused
IsOpened reply opened refused = ⊥

-- an inode
abbrev pub IsInode : Reply → (ℕ → Type 0) → Type 0 → Type 0
IsInode (Inode inode) is refused = is inode
IsInode (Refused error) is refused = refused
IsInode reply is refused = ⊥

-- what a name is bound to; of the size beside it nothing is said
abbrev pub IsBinding : Reply → (Binding → Type 0) → Type 0 → Type 0
IsBinding (Found binding size) found refused = found binding
IsBinding (Refused error) found refused = refused
IsBinding reply found refused = ⊥

-- a size, or how many bytes were read
abbrev pub IsSize : Reply → (ℕ → Type 0) → Type 0 → Type 0
IsSize (Size size) is refused = is size
IsSize (Refused error) is refused = refused
IsSize reply is refused = ⊥

-- the names in a directory
abbrev pub IsNames : Reply → (List (Vec ℕ Global × Binding) → Type 0) → Type 0 → Type 0
IsNames (Names found) is refused = is found.items
IsNames (Refused error) is refused = refused
IsNames reply is refused = ⊥

-- all paths
abbrev pub IsTree : Reply → Type 0
IsTree (Tree entries) = Unit {0}
IsTree (Refused error) = Unit {0}
IsTree reply = ⊥

-- what a crash kept
abbrev pub IsCrashed : Reply → (Crash → Type 0) → (FsError → Type 0) → Type 0
IsCrashed (Crashed crash) crashed refused = crashed crash
IsCrashed (Refused error) crashed refused = refused error
IsCrashed reply crashed refused = ⊥

-- no name has changed, no edit is recorded or settled, and no byte that was fixed is lost
abbrev pub KeepsAll : {R : Type 0} → FileSystem R → FileSystem R → Type 0
KeepsAll fs fs' = KeepsEdits fs fs' × KeepsFixed fs fs'

-- a name that was free is bound
abbrev pub Binds : {R : Type 0} → ℕ → List ℕ → Binding → FileSystem R → FileSystem R → Type 0
Binds d name to fs fs' = (names_of fs (entry d name) ≡ None) × Makes (binds d name to) fs fs'

-- a crash that returned Ok: which names and bytes it finds, of which edits and writes
pub record Crashes {R : Type 0} (crash : Crash) (fs fs' : FileSystem R) : Type 0 where
  pub found : FindsKept fs crash.rows fs'
  pub kept : FindsTold fs fs'
  pub told : GivesTold fs'
  pub bytes : FindsBytes fs crash fs'
  pub known : FindsKnown fs fs'
  pub edits : FindsEdits fs crash
  pub orphans : HasNoOrphan fs'
  pub fixed : FindsFixed fs fs'
  pub fixes : FixesFound fs fs'
  pub places : FindsPlaces fs crash.rows crash.places.items

-- one that failed, for lack of memory or of numbers of blobs
abbrev pub FailsToCrash : {R : Type 0} → FsError → FileSystem R → FileSystem R → Type 0
FailsToCrash error fs fs' = KeepsEdits fs fs' × IsExhaustedError (next_number (journaled_of fs')) error

-- what a call with this reply does to names, edits, fixed bytes and descriptors
abbrev pub Effect : {R : Type 0} → Act → Reply → FileSystem R → FileSystem R → Type 0
Effect (acts.Create path) reply fs fs' = KeepsFixed fs fs' × IsOpened reply (λ f. CreatesAt path fs fs') (Leaves fs fs')
Effect (acts.Open path) reply fs fs' = KeepsAll fs fs' × IsOpened reply (λ f. OpensPath path fs f fs') (Unit {0})
Effect (acts.OpenTruncated path) reply fs fs' =
    KeepsNames fs fs' × MayResizeSome fs fs' × KeepsFixedBeside path fs fs' × IsOpened reply (λ f. Unit {0}) (Unit {0})
Effect (acts.Link path to) reply fs fs' = KeepsFixed fs fs' × IsDone reply (LinksAt path to fs fs') (Leaves fs fs')
Effect (acts.Unlink path) reply fs fs' = KeepsFixed fs fs' × IsDone reply (FreesAt path fs fs') (Leaves fs fs')
Effect (acts.Move path to how) reply fs fs' = KeepsFixed fs fs' × IsDone reply (RenamesPath how path to fs fs') (Leaves fs fs')
Effect (acts.MakeDirectory path) reply fs fs' = KeepsFixed fs fs' × IsDone reply (MakesDirectoryAt path fs fs') (Leaves fs fs')
Effect (acts.RemoveDirectory path) reply fs fs' = KeepsFixed fs fs' × IsDone reply (FreesAt path fs fs') (Leaves fs fs')
Effect (acts.ListNames path) reply fs fs' = (fs' ≡ fs) × IsNames reply (λ found. Lists (names_of fs) path found) (Unit {0})
Effect (acts.SyncDirectory path) reply fs fs' =
    MaySettleIn fs fs' × KeepsFixed fs fs' × IsDone reply (syncs_of fs ≡ Honest → SyncsPath path fs fs') (Unit {0})
Effect (acts.Find path) reply fs fs' = (fs' ≡ fs) × IsBinding reply (λ to. IsBound (names_of fs) path to) (Unit {0})
Effect (acts.CreateAt d name) reply fs fs' = KeepsFixed fs fs' × IsOpened reply (λ f. Binds d name (file (fresh_inode fs)) fs fs') (Leaves fs fs')
Effect (acts.MakeDirectoryAt d name) reply fs fs' =
    KeepsFixed fs fs' × IsInode reply (λ inode. (inode ≡ fresh_inode fs) × Binds d name (directory_at inode) fs fs') (Leaves fs fs')
Effect (acts.LinkAt inode d name) reply fs fs' = KeepsFixed fs fs' × IsDone reply (Binds d name (file inode) fs fs') (Leaves fs fs')
Effect (acts.UnlinkAt d name) reply fs fs' = KeepsFixed fs fs' × IsDone reply (Makes (frees d name) fs fs') (Leaves fs fs')
Effect (acts.RemoveDirectoryAt d name) reply fs fs' = KeepsFixed fs fs' × IsDone reply (Makes (frees d name) fs fs') (Leaves fs fs')
Effect (acts.MoveAt from old to new how) reply fs fs' = KeepsFixed fs fs' × IsDone reply (RenamesAt how from old to new fs fs') (Leaves fs fs')
Effect (acts.ListAt d) reply fs fs' =
    (fs' ≡ fs) × IsNames reply (λ found. HasOnly (names_of fs) d found × HasAll (names_of fs) d found) (Unit {0})
Effect (acts.SyncDirectoryAt d) reply fs fs' =
    MaySettleIn fs fs' × KeepsFixed fs fs' × IsDone reply (syncs_of fs ≡ Honest → SyncsDirectory fs d fs') (Unit {0})
Effect (acts.FindAt d name) reply fs fs' = (fs' ≡ fs) × IsBinding reply (λ to. names_of fs (entry d name) ≡ Some to) (Unit {0})
Effect (acts.OpenInode inode) reply fs fs' = KeepsAll fs fs' × IsOpened reply (λ f. inode_opened fs' f ≡ Some inode) (Unit {0})
Effect (acts.OpenInodeTruncated inode) reply fs fs' =
    KeepsNames fs fs' × MayResize inode fs fs' × KeepsFixedBut inode fs fs' × IsOpened reply (λ f. Unit {0}) (Unit {0})
Effect (acts.Close f) reply fs fs' = KeepsAll fs fs' × IsDone reply (IsSome (inode_opened fs f)) (Unit {0})
Effect (acts.Truncate f length) reply fs fs' =
    KeepsNames fs fs' × MayTruncate f fs fs' × KeepsSpared f (λ at. at < length) fs fs'
    × IsDone reply (NotesTruncation f length fs fs' × HasSize fs' f length) (Unit {0})
Effect (acts.Size f) reply fs fs' = (fs' ≡ fs) × IsSize reply (λ size. HasSize fs f size) (Unit {0})
Effect (acts.Sync f) reply fs fs' =
    MaySettle fs fs' × KeepsFixed fs fs' × IsDone reply (syncs_of fs ≡ Honest → SyncsFile fs f fs' × FixesFile fs f fs') (Unit {0})
Effect (acts.SyncData f) reply fs fs' =
    MaySettle fs fs' × KeepsFixed fs fs' × IsDone reply (syncs_of fs ≡ Honest → SyncsData fs f fs' × FixesFile fs f fs') (Unit {0})
Effect (acts.InodeOf f) reply fs fs' = (fs' ≡ fs) × IsInode reply (λ inode. inode_opened fs f ≡ Some inode) (Unit {0})
Effect (acts.Read f offset len) reply fs fs' = KeepsAll fs fs' × IsSize reply (λ n. IsSome (inode_opened fs f) × (n ≤ len)) (Unit {0})
Effect (acts.Write f offset bytes) reply fs fs' =
    KeepsEdits fs fs' × KeepsSpared f (IsBeside offset (length bytes)) fs fs'
    × IsDone reply ((failed_write_of fs ≡ ByMode → ShowsWrite f offset bytes fs fs')
    × (failed_write_of fs ≡ ByMode → writes_zeros fs f offset (length bytes) ≡ false → RecordsWrite f offset bytes fs fs')) (Unit {0})
Effect acts.SyncAll reply fs fs' =
    MaySettle fs fs' × KeepsFixed fs fs' × IsDone reply (syncs_of fs ≡ Honest → SyncsAll fs fs' × FixesAll fs fs') (Unit {0})
Effect acts.Settle reply fs fs' = MaySettle fs fs' × KeepsFixed fs fs' × IsDone reply (SyncsAll fs fs' × FixesAll fs fs') (Unit {0})
Effect acts.Commit reply fs fs' = SameNames fs fs' × KeepsFixed fs fs' × IsDone reply (Commits fs fs') (SettlesSome fs fs')
Effect acts.Crash reply fs fs' = IsCrashed reply (λ crash. Crashes crash fs fs') (λ error. FailsToCrash error fs fs')
Effect acts.Tree reply fs fs' = KeepsAll fs fs' × IsTree reply

-- a call with this reply, by what the file system was before and is after it; the options stay
pub record Performs {R : Type 0} (act : Act) (reply : Reply) (fs fs' : FileSystem R) : Type 0 where
  pub options : KeepsOptions fs fs'
  pub effect : Effect act reply fs fs'

-- The reply that a result of the code becomes.

abbrev pub done_reply : {T : Type 0} → Result T FsError → Reply
done_reply (Ok x) = Done
done_reply (Err error) = Refused error

abbrev pub opened_reply : Result Descriptor FsError → Reply
opened_reply (Ok f) = Opened f
opened_reply (Err error) = Refused error

abbrev pub inode_reply : Result ℕ FsError → Reply
inode_reply (Ok inode) = Inode inode
inode_reply (Err error) = Refused error

abbrev pub size_reply : Result ℕ FsError → Reply
size_reply (Ok size) = Size size
size_reply (Err error) = Refused error

abbrev pub names_reply : Result (Vec (Vec ℕ Global × Binding) Global) FsError → Reply
names_reply (Ok found) = Names found
names_reply (Err error) = Refused error

abbrev pub tree_reply : Result (Vec TreeEntry Global) FsError → Reply
tree_reply (Ok entries) = Tree entries
tree_reply (Err error) = Refused error

abbrev pub crash_reply : Result Crash FsError → Reply
crash_reply (Ok crash) = Crashed crash
crash_reply (Err error) = Refused error

abbrev pub found_reply : Result Binding FsError → ℕ → Reply
found_reply (Ok binding) size = Found binding size
found_reply (Err error) size = Refused error

-- with some size
abbrev pub RepliesFound : Result Binding FsError → Reply → Type 0
RepliesFound found reply = (size : ℕ) × (reply ≡ found_reply found size)
