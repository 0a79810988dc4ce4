-- A second file system in the same state.
use Rattle.std.specs.Prelude.{◌≡◌, ◌↔◌, ℕ, Option, None, MatchOption, IsSomeAnd, option_map}
use Rattle.std.specs.BTreeMap.{IsUnchanged}
use Rattle.blob_draws.specs.declared.selections.Selections.{Selections}
use Rattle.blob_journal.specs.Forks as journal
use Rattle.blob_fs.specs.declared.crash.Crash.{Crash}
use Rattle.blob_fs.specs.declared.file_system.Descriptor.{Descriptor}
use Rattle.blob_fs.specs.declared.file_system.File.{File}
use Rattle.blob_fs.specs.declared.file_system.FileSystem.{FileSystem}
use Rattle.blob_fs.specs.Bytes.{FindsBytes, FindsEdits, bytes_read, file_in}
use Rattle.blob_fs.specs.Files.{FindsKept, FindsTold, SameLinks, file_of, fresh_inode, inode_opened, journaled_of, kind_in, names_of, options_of}
use Rattle.blob_fs.specs.Noted.{size_in}

-- another handle of the same blob, with the same bytes, shown bytes and truncations, and all else is equal
pub record IsCopy (file copy : File) : Type 0 where
  pub blob : journal.IsCopy file.blob copy.blob
  pub shown : option_map (λ bytes. bytes.items) copy.shown ≡ option_map (λ bytes. bytes.items) file.shown
  pub truncations : copy.truncations.items ≡ file.truncations.items
  pub is : copy ≡ record file { blob = copy.blob; shown = copy.shown; truncations = copy.truncations }

-- a copy of the file, or none if there is none
abbrev pub IsCopyIn : Option File → Option File → Type 0
IsCopyIn file copy = MatchOption file (copy ≡ None) (λ f. IsSomeAnd copy (IsCopy f))

-- the same names, edits and blobs; each file is a copy, and the same descriptors are open
pub record IsFork {R : Type 0} (fs fork : FileSystem R) : Type 0 where
  pub store : journal.IsFork (journaled_of fs) (journaled_of fork)
  pub files : (inode : ℕ) → IsCopyIn (file_in fs inode) (file_in fork inode)
  pub opens : IsUnchanged fs.opens fork.opens
  pub directories : IsUnchanged fs.directories fork.directories
  pub gone : fork.gone.items ≡ fs.gone.items
  pub options : options_of fork ≡ options_of fs
  pub number : fresh_inode fork ≡ fresh_inode fs
  pub next_open : fork.next_open ≡ fs.next_open
  pub used : fork.used ≡ fs.used
  pub is_down : fork.is_down ≡ fs.is_down
  pub kept : fork.kept ≡ fs.kept

-- what calls see of both is the same: names, what numbers are, links, descriptors, and of each file its size and the bytes that reads return
pub record LooksSame {R : Type 0} (fs fork : FileSystem R) : Type 0 where
  pub names : names_of fork ≡ names_of fs
  pub kinds : (inode : ℕ) → kind_in fork inode ≡ kind_in fs inode
  pub links : SameLinks fs fork
  pub opened : (file : Descriptor) → inode_opened fork file ≡ inode_opened fs file
  pub sizes : (inode : ℕ) → size_in fork inode ≡ size_in fs inode
  pub bytes : (inode : ℕ) → option_map bytes_read (file_of fork inode) ≡ option_map bytes_read (file_of fs inode)

-- what a crash may leave of both is the same: names, edits and bytes
pub record CrashesSame {R : Type 0} (fs fork : FileSystem R) : Type 0 where
  pub names : (kept : Selections) (fs' : FileSystem R) → FindsKept fs kept fs' ↔ FindsKept fork kept fs'
  pub told : (fs' : FileSystem R) → FindsTold fs fs' ↔ FindsTold fork fs'
  pub edits : (crash : Crash) → FindsEdits fs crash ↔ FindsEdits fork crash
  pub bytes : (crash : Crash) (fs' : FileSystem R) → FindsBytes fs crash fs' ↔ FindsBytes fork crash fs'
