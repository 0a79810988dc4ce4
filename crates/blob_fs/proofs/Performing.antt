-- What a call that is made by its data does, by the result of the code.
use Rattle.std.proofs.Common.{◌≡◌, ◌<◌, ◌≤◌, ℕ, List, None, Some, length, refl, subst, sym, false}
use Rattle.std.specs.Prelude.{Err, IfOk, IsSome, Ok, OnErr, OnOk, Result, Vec}
use Rattle.std.specs.Global.{Global}
use Rattle.blob_directory.specs.declared.edit.Binding.{Binding}
use Rattle.blob_directory.specs.Names.{binds, directory_at, entry, file, frees}
use Rattle.blob_directory.specs.Tables.{HasAll, HasOnly}
use Rattle.blob_journal.specs.Fixed.{IsBeside}
use Rattle.blob_fs.specs.declared.crash.Crash.{Crash}
use Rattle.blob_fs.specs.declared.error.FsError.{FsError}
use Rattle.blob_fs.specs.declared.file_system.Descriptor.{Descriptor}
use Rattle.blob_fs.specs.declared.file_system.FileSystem.{FileSystem}
use Rattle.blob_fs.specs.declared.renames.Rename.{Rename}
use Rattle.blob_fs.specs.declared.reply.Reply.{Reply}
use Rattle.blob_fs.specs.declared.switches.FailedWrite.TheVariants.{ByMode}
use Rattle.blob_fs.specs.declared.switches.Syncs.TheVariants.{Honest}
use Rattle.blob_fs.specs.declared.whole.TreeEntry.{TreeEntry}
use Rattle.blob_fs.specs.Acts as acts
use Rattle.blob_fs.specs.Acts.{Act}
use Rattle.blob_fs.specs.Bytes.{FindsBytes, FindsEdits, FindsKnown, HasNoOrphan}
use Rattle.blob_fs.specs.Calls.{Leaves, Makes, MaySettle, MaySettleIn, RenamesAt}
use Rattle.blob_fs.specs.Errors.{OnlyMemoryRefuses}
use Rattle.blob_fs.specs.Files.{Commits, FindsKept, FindsTold, GivesTold, KeepsEdits, KeepsNames, KeepsOptions, KeepsTold, MayResize, MayResizeSome, MayTruncate, SameNames, SettlesSome, SyncsAll, SyncsData, SyncsDirectory, SyncsFile, fresh_inode, inode_opened, names_of, syncs_of}
use Rattle.blob_fs.specs.Fixed.{FindsFixed, FixesAll, FixesFile, FixesFound, KeepsFixed, KeepsFixedBut, KeepsSpared}
use Rattle.blob_fs.specs.Noted.{HasSize, NotesTruncation}
use Rattle.blob_fs.specs.Paths.{CreatesAt, FreesAt, IsBound, KeepsFixedBeside, LinksAt, Lists, MakesDirectoryAt, OpensPath, RenamesPath, SyncsPath}
use Rattle.blob_fs.specs.Performs.{Effect, IsBinding, Performs, RepliesFound, crash_reply, done_reply, found_reply, inode_reply, names_reply, opened_reply, size_reply, tree_reply}
use Rattle.blob_fs.specs.Places.{FindsPlaces}
use Rattle.blob_fs.specs.Reads.{ShowsWrite}
use Rattle.blob_fs.specs.Writes.{RecordsWrite, failed_write_of, writes_zeros}
use Rattle.blob_fs.specs.States.{KeepsState}

-- the call and the reply that it is
pub performs : {R : Type 0} (act act' : Act) (reply reply' : Reply) (fs fs' : FileSystem R) → act ≡ act' → reply ≡ reply' → KeepsOptions fs fs'
    → Effect act' reply' fs fs' → Performs act reply fs fs'
performs act act' reply reply' fs fs' same is options h =
    record { options = options; effect = subst (λ (a : Act). Effect a reply fs fs') (sym same) (subst (λ (r : Reply). Effect act' r fs fs') (sym is) h) }

pub performed : {R : Type 0} (act act' : Act) (reply : Reply) (fs fs' : FileSystem R) → act ≡ act' → Performs act' reply fs fs' → Performs act reply fs fs'
performed act act' reply fs fs' same h = subst (λ (a : Act). Performs a reply fs fs') (sym same) h

-- By the result.

pub creates : {R : Type 0} (r : Result Descriptor FsError) (path : List ℕ) (fs fs' : FileSystem R) → OnOk r (CreatesAt path fs fs') → OnErr r (Leaves fs fs') → KeepsFixed fs fs'
    → Effect (acts.Create path) (opened_reply r) fs fs'
creates (Ok x) path fs fs' made refused fixed = (fixed, made)
creates (Err e) path fs fs' made refused fixed = (fixed, refused)

pub unlinks : {R : Type 0} (r : Result (Unit {0}) FsError) (path : List ℕ) (fs fs' : FileSystem R) → OnOk r (FreesAt path fs fs') → OnErr r (Leaves fs fs') → KeepsFixed fs fs'
    → Effect (acts.Unlink path) (done_reply r) fs fs'
unlinks (Ok x) path fs fs' made refused fixed = (fixed, made)
unlinks (Err e) path fs fs' made refused fixed = (fixed, refused)

pub makes_directory : {R : Type 0} (r : Result (Unit {0}) FsError) (path : List ℕ) (fs fs' : FileSystem R) → OnOk r (MakesDirectoryAt path fs fs') → OnErr r (Leaves fs fs') → KeepsFixed fs fs'
    → Effect (acts.MakeDirectory path) (done_reply r) fs fs'
makes_directory (Ok x) path fs fs' made refused fixed = (fixed, made)
makes_directory (Err e) path fs fs' made refused fixed = (fixed, refused)

pub removes_directory : {R : Type 0} (r : Result (Unit {0}) FsError) (path : List ℕ) (fs fs' : FileSystem R) → OnOk r (FreesAt path fs fs') → OnErr r (Leaves fs fs') → KeepsFixed fs fs'
    → Effect (acts.RemoveDirectory path) (done_reply r) fs fs'
removes_directory (Ok x) path fs fs' made refused fixed = (fixed, made)
removes_directory (Err e) path fs fs' made refused fixed = (fixed, refused)

pub links : {R : Type 0} (r : Result (Unit {0}) FsError) (path to : List ℕ) (fs fs' : FileSystem R) → OnOk r (LinksAt path to fs fs') → OnErr r (Leaves fs fs') → KeepsFixed fs fs'
    → Effect (acts.Link path to) (done_reply r) fs fs'
links (Ok x) path to fs fs' made refused fixed = (fixed, made)
links (Err e) path to fs fs' made refused fixed = (fixed, refused)

pub renames : {R : Type 0} (r : Result (Unit {0}) FsError) (path to : List ℕ) (how : Rename) (fs fs' : FileSystem R) → OnOk r (RenamesPath how path to fs fs') → OnErr r (Leaves fs fs') → KeepsFixed fs fs'
    → Effect (acts.Move path to how) (done_reply r) fs fs'
renames (Ok x) path to how fs fs' made refused fixed = (fixed, made)
renames (Err e) path to how fs fs' made refused fixed = (fixed, refused)

pub opens : {R : Type 0} (r : Result Descriptor FsError) (path : List ℕ) (fs fs' : FileSystem R) → KeepsState fs fs' → IfOk r (λ f. OpensPath path fs f fs')
    → Effect (acts.Open path) (opened_reply r) fs fs'
opens (Ok x) path fs fs' keeps opened = (((keeps.names, keeps.told), keeps.fixed), opened)
opens (Err e) path fs fs' keeps opened = (((keeps.names, keeps.told), keeps.fixed), tt)

pub opens_truncated : {R : Type 0} (r : Result Descriptor FsError) (path : List ℕ) (fs fs' : FileSystem R) → KeepsNames fs fs' → MayResizeSome fs fs' → KeepsFixedBeside path fs fs'
    → Effect (acts.OpenTruncated path) (opened_reply r) fs fs'
opens_truncated (Ok x) path fs fs' names told fixed = (names, told, fixed, tt)
opens_truncated (Err e) path fs fs' names told fixed = (names, told, fixed, tt)

pub lists : {R : Type 0} (r : Result (Vec (Vec ℕ Global × Binding) Global) FsError) (path : List ℕ) (fs : FileSystem R) → IfOk r (λ found. Lists (names_of fs) path found.items)
    → Effect (acts.ListNames path) (names_reply r) fs fs
lists (Ok x) path fs found = (refl, found)
lists (Err e) path fs found = (refl, tt)

pub syncs_directory : {R : Type 0} (r : Result (Unit {0}) FsError) (path : List ℕ) (fs fs' : FileSystem R) → MaySettleIn fs fs' → OnOk r (syncs_of fs ≡ Honest → SyncsPath path fs fs') → KeepsFixed fs fs'
    → Effect (acts.SyncDirectory path) (done_reply r) fs fs'
syncs_directory (Ok x) path fs fs' some settled fixed = (some, fixed, settled)
syncs_directory (Err e) path fs fs' some settled fixed = (some, fixed, tt)

pub creates_at : {R : Type 0} (r : Result Descriptor FsError) (d : ℕ) (name : List ℕ) (fs fs' : FileSystem R) → OnOk r (names_of fs (entry d name) ≡ None) → OnOk r (Makes (binds d name (file (fresh_inode fs))) fs fs') → OnErr r (Leaves fs fs') → KeepsFixed fs fs'
    → Effect (acts.CreateAt d name) (opened_reply r) fs fs'
creates_at (Ok x) d name fs fs' free made refused fixed = (fixed, (free, made))
creates_at (Err e) d name fs fs' free made refused fixed = (fixed, refused)

pub makes_directory_at : {R : Type 0} (r : Result ℕ FsError) (d : ℕ) (name : List ℕ) (fs fs' : FileSystem R) → IfOk r (λ n. n ≡ fresh_inode fs) → OnOk r (names_of fs (entry d name) ≡ None) → IfOk r (λ n. Makes (binds d name (directory_at n)) fs fs') → OnErr r (Leaves fs fs') → KeepsFixed fs fs'
    → Effect (acts.MakeDirectoryAt d name) (inode_reply r) fs fs'
makes_directory_at (Ok x) d name fs fs' number free made refused fixed = (fixed, (number, (free, made)))
makes_directory_at (Err e) d name fs fs' number free made refused fixed = (fixed, refused)

pub links_at : {R : Type 0} (r : Result (Unit {0}) FsError) (inode : ℕ) (d : ℕ) (name : List ℕ) (fs fs' : FileSystem R) → OnOk r (names_of fs (entry d name) ≡ None) → OnOk r (Makes (binds d name (file inode)) fs fs') → OnErr r (Leaves fs fs') → KeepsFixed fs fs'
    → Effect (acts.LinkAt inode d name) (done_reply r) fs fs'
links_at (Ok x) inode d name fs fs' free made refused fixed = (fixed, (free, made))
links_at (Err e) inode d name fs fs' free made refused fixed = (fixed, refused)

pub unlinks_at : {R : Type 0} (r : Result (Unit {0}) FsError) (d : ℕ) (name : List ℕ) (fs fs' : FileSystem R) → OnOk r (Makes (frees d name) fs fs') → OnErr r (Leaves fs fs') → KeepsFixed fs fs'
    → Effect (acts.UnlinkAt d name) (done_reply r) fs fs'
unlinks_at (Ok x) d name fs fs' made refused fixed = (fixed, made)
unlinks_at (Err e) d name fs fs' made refused fixed = (fixed, refused)

pub removes_directory_at : {R : Type 0} (r : Result (Unit {0}) FsError) (d : ℕ) (name : List ℕ) (fs fs' : FileSystem R) → OnOk r (Makes (frees d name) fs fs') → OnErr r (Leaves fs fs') → KeepsFixed fs fs'
    → Effect (acts.RemoveDirectoryAt d name) (done_reply r) fs fs'
removes_directory_at (Ok x) d name fs fs' made refused fixed = (fixed, made)
removes_directory_at (Err e) d name fs fs' made refused fixed = (fixed, refused)

pub renames_at : {R : Type 0} (r : Result (Unit {0}) FsError) (from : ℕ) (old : List ℕ) (to : ℕ) (new : List ℕ) (how : Rename) (fs fs' : FileSystem R) → OnOk r (RenamesAt how from old to new fs fs') → OnErr r (Leaves fs fs') → KeepsFixed fs fs'
    → Effect (acts.MoveAt from old to new how) (done_reply r) fs fs'
renames_at (Ok x) from old to new how fs fs' renamed refused fixed = (fixed, renamed)
renames_at (Err e) from old to new how fs fs' renamed refused fixed = (fixed, refused)

pub opens_inode : {R : Type 0} (r : Result Descriptor FsError) (inode : ℕ) (fs fs' : FileSystem R) → IfOk r (λ f. inode_opened fs' f ≡ Some inode) → KeepsState fs fs'
    → Effect (acts.OpenInode inode) (opened_reply r) fs fs'
opens_inode (Ok x) inode fs fs' opened keeps = (((keeps.names, keeps.told), keeps.fixed), opened)
opens_inode (Err e) inode fs fs' opened keeps = (((keeps.names, keeps.told), keeps.fixed), tt)

pub opens_inode_truncated : {R : Type 0} (r : Result Descriptor FsError) (inode : ℕ) (fs fs' : FileSystem R) → KeepsNames fs fs' → MayResize inode fs fs' → KeepsFixedBut inode fs fs'
    → Effect (acts.OpenInodeTruncated inode) (opened_reply r) fs fs'
opens_inode_truncated (Ok x) inode fs fs' names told fixed = (names, told, fixed, tt)
opens_inode_truncated (Err e) inode fs fs' names told fixed = (names, told, fixed, tt)

pub closes : {R : Type 0} (r : Result (Unit {0}) FsError) (f : Descriptor) (fs fs' : FileSystem R) → KeepsState fs fs' → OnOk r (IsSome (inode_opened fs f))
    → Effect (acts.Close f) (done_reply r) fs fs'
closes (Ok x) f fs fs' keeps found = (((keeps.names, keeps.told), keeps.fixed), found)
closes (Err e) f fs fs' keeps found = (((keeps.names, keeps.told), keeps.fixed), tt)

pub reads : {R : Type 0} (r : Result ℕ FsError) (f : Descriptor) (offset len : ℕ) (fs fs' : FileSystem R) → KeepsState fs fs' → OnOk r (IsSome (inode_opened fs f)) → IfOk r (λ n. n ≤ len)
    → Effect (acts.Read f offset len) (size_reply r) fs fs'
reads (Ok x) f offset len fs fs' keeps found count = (((keeps.names, keeps.told), keeps.fixed), (found, count))
reads (Err e) f offset len fs fs' keeps found count = (((keeps.names, keeps.told), keeps.fixed), tt)

pub writes : {R : Type 0} (r : Result (Unit {0}) FsError) (f : Descriptor) (offset : ℕ) (bytes : List ℕ) (fs fs' : FileSystem R) → KeepsNames fs fs' → KeepsTold fs fs' → OnOk r (failed_write_of fs ≡ ByMode → ShowsWrite f offset bytes fs fs')
    → OnOk r (failed_write_of fs ≡ ByMode → writes_zeros fs f offset (length bytes) ≡ false → RecordsWrite f offset bytes fs fs') → KeepsSpared f (IsBeside offset (length bytes)) fs fs'
    → Effect (acts.Write f offset bytes) (done_reply r) fs fs'
writes (Ok x) f offset bytes fs fs' names told shows recorded fixed = ((names, told), fixed, (shows, recorded))
writes (Err e) f offset bytes fs fs' names told shows recorded fixed = ((names, told), fixed, tt)

pub truncates : {R : Type 0} (r : Result (Unit {0}) FsError) (f : Descriptor) (n : ℕ) (fs fs' : FileSystem R) → KeepsNames fs fs' → MayTruncate f fs fs' → OnOk r (NotesTruncation f n fs fs') → OnOk r (HasSize fs' f n) → KeepsSpared f (λ at. at < n) fs fs'
    → Effect (acts.Truncate f n) (done_reply r) fs fs'
truncates (Ok x) f n fs fs' names told noted size fixed = (names, told, fixed, (noted, size))
truncates (Err e) f n fs fs' names told noted size fixed = (names, told, fixed, tt)

pub syncs : {R : Type 0} (r : Result (Unit {0}) FsError) (f : Descriptor) (fs fs' : FileSystem R) → MaySettle fs fs' → OnOk r (syncs_of fs ≡ Honest → SyncsFile fs f fs') → KeepsFixed fs fs' → OnOk r (syncs_of fs ≡ Honest → FixesFile fs f fs')
    → Effect (acts.Sync f) (done_reply r) fs fs'
syncs (Ok x) f fs fs' some settled fixed fixes = (some, fixed, λ honest. (settled honest, fixes honest))
syncs (Err e) f fs fs' some settled fixed fixes = (some, fixed, tt)

pub syncs_data : {R : Type 0} (r : Result (Unit {0}) FsError) (f : Descriptor) (fs fs' : FileSystem R) → MaySettle fs fs' → OnOk r (syncs_of fs ≡ Honest → SyncsData fs f fs') → KeepsFixed fs fs' → OnOk r (syncs_of fs ≡ Honest → FixesFile fs f fs')
    → Effect (acts.SyncData f) (done_reply r) fs fs'
syncs_data (Ok x) f fs fs' some settled fixed fixes = (some, fixed, λ honest. (settled honest, fixes honest))
syncs_data (Err e) f fs fs' some settled fixed fixes = (some, fixed, tt)

pub syncs_directory_at : {R : Type 0} (r : Result (Unit {0}) FsError) (d : ℕ) (fs fs' : FileSystem R) → MaySettleIn fs fs' → OnOk r (syncs_of fs ≡ Honest → SyncsDirectory fs d fs') → KeepsFixed fs fs'
    → Effect (acts.SyncDirectoryAt d) (done_reply r) fs fs'
syncs_directory_at (Ok x) d fs fs' some settled fixed = (some, fixed, settled)
syncs_directory_at (Err e) d fs fs' some settled fixed = (some, fixed, tt)

pub syncs_all : {R : Type 0} (r : Result (Unit {0}) FsError) (fs fs' : FileSystem R) → MaySettle fs fs' → OnOk r (syncs_of fs ≡ Honest → SyncsAll fs fs') → KeepsFixed fs fs' → OnOk r (syncs_of fs ≡ Honest → FixesAll fs fs')
    → Effect acts.SyncAll (done_reply r) fs fs'
syncs_all (Ok x) fs fs' some settled fixed fixes = (some, fixed, λ honest. (settled honest, fixes honest))
syncs_all (Err e) fs fs' some settled fixed fixes = (some, fixed, tt)

pub settles : {R : Type 0} (r : Result (Unit {0}) FsError) (fs fs' : FileSystem R) → MaySettle fs fs' → OnOk r (SyncsAll fs fs') → KeepsFixed fs fs' → OnOk r (FixesAll fs fs')
    → Effect acts.Settle (done_reply r) fs fs'
settles (Ok x) fs fs' some settled fixed fixes = (some, fixed, (settled, fixes))
settles (Err e) fs fs' some settled fixed fixes = (some, fixed, tt)

pub commits : {R : Type 0} (r : Result (Unit {0}) FsError) (fs fs' : FileSystem R) → SameNames fs fs' → OnOk r (Commits fs fs') → OnErr r (SettlesSome fs fs') → KeepsFixed fs fs'
    → Effect acts.Commit (done_reply r) fs fs'
commits (Ok x) fs fs' names committed some fixed = (names, fixed, committed)
commits (Err e) fs fs' names committed some fixed = (names, fixed, some)

pub lists_at : {R : Type 0} (r : Result (Vec (Vec ℕ Global × Binding) Global) FsError) (d : ℕ) (fs : FileSystem R) → IfOk r (λ found. HasOnly (names_of fs) d found.items) → IfOk r (λ found. HasAll (names_of fs) d found.items)
    → Effect (acts.ListAt d) (names_reply r) fs fs
lists_at (Ok x) d fs only all = (refl, (only, all))
lists_at (Err e) d fs only all = (refl, tt)

pub tells_size : {R : Type 0} (r : Result ℕ FsError) (f : Descriptor) (fs : FileSystem R) → IfOk r (λ size. HasSize fs f size)
    → Effect (acts.Size f) (size_reply r) fs fs
tells_size (Ok x) f fs size = (refl, size)
tells_size (Err e) f fs size = (refl, tt)

pub tells_inode : {R : Type 0} (r : Result ℕ FsError) (f : Descriptor) (fs : FileSystem R) → IfOk r (λ inode. inode_opened fs f ≡ Some inode)
    → Effect (acts.InodeOf f) (inode_reply r) fs fs
tells_inode (Ok x) f fs inode = (refl, inode)
tells_inode (Err e) f fs inode = (refl, tt)

pub walks : {R : Type 0} (r : Result (Vec TreeEntry Global) FsError) (fs fs' : FileSystem R) → KeepsState fs fs'
    → Effect acts.Tree (tree_reply r) fs fs'
walks (Ok x) fs fs' keeps = (((keeps.names, keeps.told), keeps.fixed), tt)
walks (Err e) fs fs' keeps = (((keeps.names, keeps.told), keeps.fixed), tt)

pub crashes : {R : Type 0} (r : Result Crash FsError) (fs fs' : FileSystem R) → IfOk r (λ crash. FindsKept fs crash.rows fs') → OnOk r (FindsTold fs fs') → OnOk r (GivesTold fs') → IfOk r (λ crash. FindsBytes fs crash fs') → OnOk r (FindsKnown fs fs') → IfOk r (λ crash. FindsEdits fs crash) → OnOk r (HasNoOrphan fs') → OnOk r (FindsFixed fs fs') → OnOk r (FixesFound fs fs') → IfOk r (λ crash. FindsPlaces fs crash.rows crash.places.items) → OnErr r (KeepsEdits fs fs') → OnlyMemoryRefuses fs' r
    → Effect acts.Crash (crash_reply r) fs fs'
crashes (Ok x) fs fs' found kept told bytes known edits orphans fixed fixes places refused errors = record { found = found; kept = kept; told = told; bytes = bytes; known = known; edits = edits; orphans = orphans; fixed = fixed; fixes = fixes; places = places }
crashes (Err e) fs fs' found kept told bytes known edits orphans fixed fixes places refused errors = (refused, errors)

-- A look-up, with some size.

found_of : (r : Result Binding FsError) (size : ℕ) (P : Binding → Type 0) → IfOk r P → IsBinding (found_reply r size) P (Unit {0})
found_of (Ok x) size P p = p
found_of (Err e) size P p = tt

is_found : (r : Result Binding FsError) (reply : Reply) (P : Binding → Type 0) → RepliesFound r reply → IfOk r P → IsBinding reply P (Unit {0})
is_found r reply P h p = subst (λ (q : Reply). IsBinding q P (Unit {0})) (sym h.1) (found_of r h.0 P p)

pub finds : {R : Type 0} (r : Result Binding FsError) (reply : Reply) (path : List ℕ) (fs : FileSystem R) → RepliesFound r reply
    → IfOk r (λ to. IsBound (names_of fs) path to) → Effect (acts.Find path) reply fs fs
finds r reply path fs h found = (refl, is_found r reply (λ to. IsBound (names_of fs) path to) h found)

pub finds_at : {R : Type 0} (r : Result Binding FsError) (reply : Reply) (d : ℕ) (name : List ℕ) (fs : FileSystem R) → RepliesFound r reply
    → IfOk r (λ to. names_of fs (entry d name) ≡ Some to) → Effect (acts.FindAt d name) reply fs fs
finds_at r reply d name fs h found = (refl, is_found r reply (λ to. names_of fs (entry d name) ≡ Some to) h found)
