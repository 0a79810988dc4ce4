-- What a failed open leaves of a database.
use Rattle.std.specs.Prelude.{◌≡◌, Bool, false, IsTrue, ⊤}
use Rattle.sqlite_disk.specs.declared.Disk.{Ghosts}
use Rattle.sqlite_disk.specs.declared.Files.{Files}
use Rattle.sqlite_pool.specs.Stored.{is_summed}
use Rattle.sqlite_wal.specs.Files.{outcomes}
use Rattle.sqlite_wal.specs.Recovery.{Image}
use Rattle.sqlite_trees.specs.Tree.{Trees}
use Rattle.sqlite_store.specs.declared.store.FileStore.{FileStore}
use Rattle.sqlite.specs.declared.file.Leftover.{Leftover}
use Rattle.sqlite.specs.declared.file.Leftover.TheVariants as left
use Rattle.sqlite.specs.Closing.{files_left}
use Rattle.sqlite.specs.Held.{Held}
use Rattle.sqlite.specs.Files.{HoldsDatabase, file_state}

-- a database that the files hold has no checksums on its pages
abbrev pub HoldsPlain : Image → Type 0
HoldsPlain image = (db : Trees) (held : HoldsDatabase image db) → is_summed held.0 ≡ false

-- each content that a crash may leave of the new files holds what a content holds that a crash might have left in the old ones
abbrev pub StandFor : {D : Type 0} → Ghosts D → Files D → Files D → Type 0
StandFor g old new = (image : Image) → outcomes g new.log new.db image
    → ∥ ((before : Image) × outcomes g old.log old.db before × ((db : Trees) → HoldsDatabase before db → HoldsDatabase image db)) ∥₁

-- one of the contents that a crash may leave of the files holds no database
abbrev pub MayHoldNone : {D : Type 0} → Ghosts D → Files D → Type 0
MayHoldNone g files = ∥ ((before : Image) × outcomes g files.log files.db before × (((db : Trees) × HoldsDatabase before db) → ⊥)) ∥₁

module _ {D : Type 0} {g : Ghosts D} where
  -- what one of the contents holds that a crash may leave of the files is what was found
  abbrev pub FindsLeft : Files D → Held (FileStore D g) → Type 0
  FindsLeft files c = ∥ ((before : Image) × outcomes g files.log files.db before × ((db : Trees) → HoldsDatabase before db → (file_state c).committed.trees ≡ db)) ∥₁

  -- The open has written nothing, or the pages have no checksums. A store that was open isn't opened again.
  abbrev pub MayOpenAgain : Bool → Leftover D g → Type 0
  MayOpenAgain plain (left.Files files) = ⊤
  MayOpenAgain plain (left.Unopened files) = IsTrue plain
  MayOpenAgain plain (left.Store it) = ⊥

  -- each content that a crash may leave of the new files is one that it might have left in these
  abbrev pub LeaveNoMore : Leftover D g → Files D → Type 0
  LeaveNoMore old new = (image : Image) → outcomes g new.log new.db image → outcomes g (files_left old).0 (files_left old).1 image
