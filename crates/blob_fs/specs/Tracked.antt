-- The files that a crash may find a name of.
use Rattle.std.specs.Prelude.{◌≡◌, ℕ, true, List, Option, None, Some, if◌then◌else◌, is_some}
use Rattle.std.specs.BTreeMap.{BTreeMap, get}
use Rattle.std.specs.Ordering.{nat_cmp}
use Rattle.blob_directory.specs.Names.{Names}
use Rattle.blob_directory.specs.Records.{Found}
use Rattle.blob_journal.specs.Bindings.{BindsWithin, IsFreed, MayName}
use Rattle.blob_fs.specs.declared.file_system.File.{File}

-- how many edits the journal had when a file of a map went; none if it hasn't
abbrev pub freed_of : File → Option ℕ
freed_of file = if file.is_gone then Some file.gone_at else None

abbrev pub freed_in : Option File → Option ℕ
freed_in None = None
freed_in (Some file) = freed_of file

-- no file of a map has gone
abbrev pub AllPresent : BTreeMap ℕ File → Type 0
AllPresent files = (inode : ℕ) → freed_in (get nat_cmp files inode) ≡ None

-- If no edit is lost, those that were told bind no entry but as calls see it. Each file that a crash may find a name of exists.
-- A crash that keeps the edits from before a file went finds no name of it.
pub record IsTracked (told : List Found) (names : Names) (files : BTreeMap ℕ File) : Type 0 where
  pub within : BindsWithin told names
  pub found : (inode : ℕ) → MayName told inode → is_some (get nat_cmp files inode) ≡ true
  pub freed : (inode limit : ℕ) → freed_in (get nat_cmp files inode) ≡ Some limit → IsFreed limit told inode
