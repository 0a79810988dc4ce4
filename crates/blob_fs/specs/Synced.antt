-- Files that are synced, and what a crash leaves of them.
use Rattle.std.specs.Prelude.{◌≡◌, ◌<◌, ◌^◌, ℕ, List, [], Some}
use Rattle.blob_draws.specs.declared.selections.Selections.{Selections}
use Rattle.blob_directory.specs.Names.{file}
use Rattle.blob_journal.specs.Blobs.{bytes_of}
use Rattle.blob_fs.specs.declared.crash.Crash.{Crash}
use Rattle.blob_fs.specs.declared.file_system.File.{File}
use Rattle.blob_fs.specs.declared.file_system.FileSystem.{FileSystem}
use Rattle.blob_fs.specs.Files.{durable_of, names_of}
use Rattle.blob_fs.specs.Bytes.{FindsBytes, HasBytes, crashed_file, file_in}

-- These bytes of a file are durable, calls see exactly these, and every crash of the store leaves them. It has no truncation that
-- nothing synced.
pub record IsSynced {R : Type 0} (fs : FileSystem R) (inode : ℕ) (bytes : List ℕ) : Type 0 where
  pub was : File
  pub at : file_in fs inode ≡ Some was
  pub seen : bytes_of was.blob ≡ bytes
  pub whole : was.truncations.items ≡ []
  pub durable : durable_of fs inode ≡ Some bytes
  pub left : (kept : Selections) → crashed_file fs kept inode ≡ Some bytes

-- a crash leaves such a file, if a name reaches it, with exactly these bytes
abbrev pub SyncedIsFound : Type 0 → Type 0
SyncedIsFound R = (fs fs' : FileSystem R) (crash : Crash) (name : List ℕ) (inode : ℕ) (bytes : List ℕ) → inode < 2 ^ 64
    → FindsBytes fs crash fs' → IsSynced fs inode bytes → names_of fs' name ≡ Some (file inode) → HasBytes fs' inode bytes bytes
