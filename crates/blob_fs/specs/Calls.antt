-- What each call of a list does, and what a crash after the list finds.
use Rattle.std.specs.Prelude.{◌≡◌, ◌≢◌, ℕ, Bool, true, false, List, [], ◌∷◌, length, Some, None}
use Rattle.blob_directory.specs.declared.edit.Binding.{Binding}
use Rattle.blob_directory.specs.Names.{Edit, binds, directory_at, entry, exchanges, file, frees, moves}
use Rattle.blob_fs.specs.declared.crash.Crash.{Crash}
use Rattle.blob_fs.specs.declared.file_system.FileSystem.{FileSystem}
use Rattle.blob_fs.specs.declared.renames.Rename.{Rename}
use Rattle.blob_fs.specs.declared.renames.Rename.TheVariants.{NoReplace, Exchange}
use Rattle.blob_fs.specs.declared.call.NumberCall.{NumberCall}
use Rattle.blob_fs.specs.declared.call.NumberCall.TheVariants.{Create, MakeDirectory, Link, Unlink, RemoveDirectory, Open, OpenTruncated, Close, Read, Write, Truncate, Sync, SyncData, SyncDirectory, SyncAll, Settle}
use Rattle.blob_fs.specs.declared.call.NumberCall.TheVariants as call
use Rattle.blob_fs.specs.declared.switches.Syncs.TheVariants.{Honest}
use Rattle.blob_fs.specs.declared.switches.FailedWrite.TheVariants.{ByMode}
use Rattle.blob_fs.specs.declared.file_system.Descriptor.{Descriptor}
use Rattle.blob_fs.specs.Bytes.{FindsBytes, FindsKnown}
use Rattle.blob_fs.specs.Fixed.{FindsFixed, FixesFound, KeepsUnreached}
use Rattle.blob_fs.specs.Places.{FindsPlaces}
use Rattle.blob_fs.specs.Writes.{RecordsWrite, failed_write_of, writes_zeros}
use Rattle.blob_fs.specs.Files.{AddsTold, FindsKept, FindsTold, GrowsTold, KeepsNames, KeepsTold, MakesEdit, MayResize, MayTruncate, NotesExchange, NotesMove, SameNames, SettlesSome, SettlesSomeOf, SyncsAll, SyncsData, SyncsDirectory, SyncsFile, fresh_inode, names_of, syncs_of}

-- one more edit is recorded, which nothing has settled, and the names have it
pub record Makes {R : Type 0} (edit : Edit) (fs fs' : FileSystem R) : Type 0 where
  pub recorded : AddsTold edit fs fs'
  pub names : MakesEdit edit fs fs'

-- no edit is recorded or settled, and each entry is bound to what it was bound to
pub record Leaves {R : Type 0} (fs fs' : FileSystem R) : Type 0 where
  pub recorded : KeepsTold fs fs'
  pub names : SameNames fs fs'

-- the edit that moves what the first entry is bound to, from one directory to another
pub record Moves {R : Type 0} (from to : ℕ) (old new : List ℕ) (fs fs' : FileSystem R) : Type 0 where
  pub moved : Binding
  pub bound : names_of fs old ≡ Some moved
  pub made : Makes (moves old new moved) fs fs'
  pub noted : NotesMove from to old new moved fs fs'

-- the edit that exchanges what two entries are bound to
pub record Exchanges {R : Type 0} (from to : ℕ) (old new : List ℕ) (fs fs' : FileSystem R) : Type 0 where
  pub moved : Binding
  pub bound : names_of fs old ≡ Some moved
  pub was : Binding
  pub replaced : names_of fs new ≡ Some was
  pub made : Makes (exchanges old new moved was) fs fs'
  pub noted : NotesExchange from to old new moved was fs fs'

-- A rename that returned Ok: nothing if both entries are bound to the same, else a move or an exchange.
pub data Renames {R : Type 0} (how : Rename) (from to : ℕ) (old new : List ℕ) (fs fs' : FileSystem R) : Type 0 where
  Unchanged : (found : Binding) → names_of fs old ≡ Some found → names_of fs new ≡ Some found → how ≢ NoReplace → Leaves fs fs' → Renames how from to old new fs fs'
  Moved : names_of fs old ≢ names_of fs new → how ≢ Exchange → (how ≡ NoReplace → names_of fs new ≡ None) → Moves from to old new fs fs' → Renames how from to old new fs fs'
  Exchanged : names_of fs old ≢ names_of fs new → how ≡ Exchange → Exchanges from to old new fs fs' → Renames how from to old new fs fs'

-- the same by the names in their directories
abbrev pub RenamesAt : {R : Type 0} → Rename → ℕ → List ℕ → ℕ → List ℕ → FileSystem R → FileSystem R → Type 0
RenamesAt how from old to new fs fs' = Renames how from to (entry from old) (entry to new) fs fs'

-- what holds after a call that returned Ok, and after one that returned an error
abbrev pub ByResult : Bool → Type 0 → Type 0 → Type 0
ByResult true done failed = done
ByResult false done failed = failed

-- the edit is made if the call returned Ok
abbrev pub MakesIf : {R : Type 0} → Bool → Edit → FileSystem R → FileSystem R → Type 0
MakesIf ok edit fs fs' = ByResult ok (Makes edit fs fs') (Leaves fs fs')

-- edits may have been settled; nothing else about edits and names has changed
abbrev pub MaySettle : {R : Type 0} → FileSystem R → FileSystem R → Type 0
MaySettle fs fs' = KeepsNames fs fs' × SettlesSome fs fs'

-- so after a sync of a directory, which may also tell the new names of files that moved into it
abbrev pub MaySettleIn : {R : Type 0} → FileSystem R → FileSystem R → Type 0
MaySettleIn fs fs' = KeepsNames fs fs' × SettlesSomeOf fs fs'

-- a sync that returned Ok and doesn't lie has settled exactly these
abbrev pub SyncsIf : {R : Type 0} → Bool → Type 0 → FileSystem R → FileSystem R → Type 0
SyncsIf ok exactly fs fs' = MaySettle fs fs' × ByResult ok (syncs_of fs ≡ Honest → exactly) (Unit {0})

-- a write that returned Ok, unless failed writes draw a prefix, is recorded
abbrev pub WritesIf : {R : Type 0} → Bool → Descriptor → ℕ → List ℕ → FileSystem R → FileSystem R → Type 0
WritesIf ok f offset bytes fs fs' = Leaves fs fs' × ByResult ok (failed_write_of fs ≡ ByMode → writes_zeros fs f offset (length bytes) ≡ false → RecordsWrite f offset bytes fs fs') (Unit {0})

-- what a call does, by whether it returned Ok
abbrev pub Does : {R : Type 0} → NumberCall → Bool → FileSystem R → FileSystem R → Type 0
Does (Create d name) ok fs fs' = MakesIf ok (binds d name.now (file (fresh_inode fs))) fs fs'
Does (MakeDirectory d name) ok fs fs' = MakesIf ok (binds d name.now (directory_at (fresh_inode fs))) fs fs'
Does (Link i d name) ok fs fs' = MakesIf ok (binds d name.now (file i)) fs fs'
Does (Unlink d name) ok fs fs' = MakesIf ok (frees d name.now) fs fs'
Does (RemoveDirectory d name) ok fs fs' = MakesIf ok (frees d name.now) fs fs'
Does (call.Rename from old to new how) ok fs fs' =
    ByResult ok (RenamesAt how from old.now to new.now fs fs') (Leaves fs fs')
Does (Open i) ok fs fs' = Leaves fs fs'
Does (OpenTruncated i) ok fs fs' = KeepsNames fs fs' × MayResize i fs fs'
Does (Close f) ok fs fs' = Leaves fs fs'
Does (Read f offset len) ok fs fs' = Leaves fs fs'
Does (Write f offset bytes) ok fs fs' = WritesIf ok f offset bytes.now fs fs'
Does (Truncate f length) ok fs fs' = KeepsNames fs fs' × MayTruncate f fs fs'
Does (Sync f) ok fs fs' = SyncsIf ok (SyncsFile fs f fs') fs fs'
Does (SyncData f) ok fs fs' = SyncsIf ok (SyncsData fs f fs') fs fs'
Does (SyncDirectory d) ok fs fs' = MaySettleIn fs fs' × ByResult ok (syncs_of fs ≡ Honest → SyncsDirectory fs d fs') (Unit {0})
Does SyncAll ok fs fs' = SyncsIf ok (SyncsAll fs fs') fs fs'
Does Settle ok fs fs' = MaySettle fs fs' × ByResult ok (SyncsAll fs fs') (Unit {0})

-- each call of a list in order, by whether it returned Ok
abbrev pub DoesAll : {R : Type 0} → List NumberCall → List Bool → FileSystem R → FileSystem R → Type 0
DoesAll [] [] fs fs' = fs' ≡ fs
DoesAll [] (ok ∷ oks) fs fs' = ⊥
DoesAll (call ∷ calls) [] fs fs' = ⊥
DoesAll {R} (call ∷ calls) (ok ∷ oks) fs fs' =
    (between : FileSystem R) × Does call ok fs between × KeepsUnreached call fs between × DoesAll calls oks between fs'

-- After these calls this crash found the names by the edits that were recorded until then.
pub record RunsAndCrashes {R : Type 0} (fs : FileSystem R) (calls : List NumberCall) (oks : List Bool) (crash : Crash) (fs' : FileSystem R) : Type 0 where
  pub between : FileSystem R
  pub done : DoesAll calls oks fs between
  pub grows : GrowsTold fs between
  pub kept : FindsKept between crash.rows fs'
  pub finds : FindsTold between fs'
  pub bytes : FindsBytes between crash fs'
  pub known : FindsKnown between fs'
  pub fixed : FindsFixed between fs'
  pub fixes : FixesFound between fs'
  pub places : FindsPlaces between crash.rows crash.places.items
