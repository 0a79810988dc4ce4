-- What an unsynced write of an open file records, and what a crash leaves of it.
use Rattle.std.specs.Prelude.{◌≡◌, ℕ, ◌+◌, ◌%◌, ◌==◌, ◌&&◌, ◌||◌, nat_lt, not, Bool, List, Some, option_map}
use Rattle.blob_model.specs.Draws.{chosen_by}
use Rattle.blob_model.specs.Files.{Files, all_logged}
use Rattle.blob_model.specs.Log.{Entry, replay_log}
use Rattle.blob_draws.specs.Changes.{loose}
use Rattle.blob_draws.specs.Faults.{retention}
use Rattle.blob_draws.specs.Rows.{table_of}
use Rattle.blob_draws.specs.declared.config.Config.{Config}
use Rattle.blob_draws.specs.declared.selections.Selections.{Selections}
use Rattle.blob_memory.specs.Store.{place}
use Rattle.blob_directory.specs.declared.profile.Profile.{Profile}
use Rattle.blob_faulty.specs.Keeps.{IsFor}
use Rattle.blob_faulty.specs.Wrapper.{config_of, inside, next_write_of}
use Rattle.blob_journal.specs.Journals.{store_of}
use Rattle.blob_fs.specs.declared.file_system.Descriptor.{Descriptor}
use Rattle.blob_fs.specs.declared.file_system.File.{File}
use Rattle.blob_fs.specs.declared.file_system.FileSystem.{FileSystem}
use Rattle.blob_fs.specs.declared.switches.FailedWrite.{FailedWrite}
use Rattle.blob_fs.specs.Bytes.{crashed_file, file_in}
use Rattle.blob_fs.specs.Files.{inode_opened, journaled_of, options_of}
use Rattle.blob_fs.specs.Noted.{end_of}

abbrev pub failed_write_of : {R : Type 0} → FileSystem R → FailedWrite
failed_write_of fs = fs.options.failed_write

abbrev pub profile_of : {R : Type 0} → FileSystem R → Profile
profile_of fs = (options_of fs).profile

-- A write from an offset up to an end may first write zeros to a file of this size. With `zeros` it does so if it makes the file longer,
-- with `pages` if it begins beyond an end that is within a page.
abbrev pub leaves_zeros : Profile → ℕ → ℕ → ℕ → Bool
leaves_zeros profile size offset end = (profile.zeros && nat_lt size end) || (profile.pages && nat_lt size offset && not (size % 4096 == 0))

-- a write of so many bytes to an open file may do so
abbrev pub writes_zeros : {R : Type 0} → FileSystem R → Descriptor → ℕ → ℕ → Bool
writes_zeros fs file offset count = leaves_zeros (profile_of fs) (end_of fs file) offset (offset + count)

-- the rates of faults that the options set, and those that the store draws by
abbrev pub faults_of : {R : Type 0} → FileSystem R → Config
faults_of fs = (options_of fs).faults

abbrev pub rates_of : {R : Type 0} → FileSystem R → Config
rates_of fs = config_of (store_of (journaled_of fs))

-- the store draws which bytes of a write it keeps as the options say
abbrev pub KeepsAsSet : {R : Type 0} → FileSystem R → Type 0
KeepsAsSet fs = retention (rates_of fs).write_rate ≡ retention (faults_of fs).write_rate

-- The entry of a write that returns Ok: the write, with the mode and the rate that are set. Without a rate, or if it is 0, there is none.
abbrev pub entries_of_write : {R : Type 0} → FileSystem R → ℕ → List ℕ → List Entry
entries_of_write fs offset bytes = loose (retention (faults_of fs).write_rate) (next_write_of (store_of (journaled_of fs))) offset bytes

-- The file's log has this entry more. Whatever a crash keeps, it leaves of the file what it would have left before, with what it keeps
-- of this write.
pub record RecordsWrite {R : Type 0} (file : Descriptor) (offset : ℕ) (bytes : List ℕ) (fs fs' : FileSystem R) : Type 0 where
  pub inode : ℕ
  pub opened : inode_opened fs file ≡ Some inode
  pub old : File
  pub there : file_in fs inode ≡ Some old
  pub logged : (files : Files) → IsFor (store_of (journaled_of fs)) files
      → IsFor (store_of (journaled_of fs')) (all_logged files (place (inside old.blob.blob)) (entries_of_write fs offset bytes))
  pub left : (kept : Selections) → crashed_file fs' kept inode ≡ option_map (λ x. replay_log x (entries_of_write fs offset bytes) (chosen_by (table_of kept))) (crashed_file fs kept inode)
