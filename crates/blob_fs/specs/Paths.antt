-- What the calls by paths do: what the calls by directory do, at the place of the path.
use Rattle.std.specs.Prelude.{◌≡◌, ◌≢◌, ◌<◌, ◌^◌, ℕ, List, Some, Vec}
use Rattle.std.specs.Global.{Global}
use Rattle.blob_directory.specs.declared.edit.Binding.{Binding}
use Rattle.blob_directory.specs.Names.{Edit, Names, binds, directory_at, entry, file, frees}
use Rattle.blob_directory.specs.Paths.{IsPlace, LeadsTo}
use Rattle.blob_directory.specs.Tables.{HasAll, HasOnly}
use Rattle.blob_fs.specs.declared.file_system.Descriptor.{Descriptor}
use Rattle.blob_fs.specs.declared.file_system.FileSystem.{FileSystem}
use Rattle.blob_fs.specs.declared.renames.Rename.{Rename}
use Rattle.blob_fs.specs.Calls.{Makes, RenamesAt}
use Rattle.blob_fs.specs.Files.{SyncsDirectory, fresh_inode, inode_opened, names_of}
use Rattle.blob_fs.specs.Fixed.{IsFixed}

-- what a path is bound to
pub record IsBound (names : Names) (path : List ℕ) (to : Binding) : Type 0 where
  pub directory : ℕ
  pub name : List ℕ
  pub place : IsPlace names path directory name
  pub bound : names (entry directory name) ≡ Some to

-- this descriptor is open, of what a path was bound to
pub record OpensPath {R : Type 0} (path : List ℕ) (fs : FileSystem R) (f : Descriptor) (fs' : FileSystem R) : Type 0 where
  pub to : Binding
  pub bound : IsBound (names_of fs) path to
  pub opened : inode_opened fs' f ≡ Some to.inode

-- each fixed byte stays fixed, but in what a path is bound to
abbrev pub KeepsFixedBeside : {R : Type 0} → List ℕ → FileSystem R → FileSystem R → Type 0
KeepsFixedBeside path fs fs' = (inode at byte : ℕ) → inode < 2 ^ 64 → ((to : Binding) → IsBound (names_of fs) path to → inode ≢ to.inode)
    → IsFixed fs inode at byte → IsFixed fs' inode at byte

-- the edit of the name that a path has, in the directory that it leads to
pub record MakesAt {R : Type 0} (path : List ℕ) (edit : ℕ → List ℕ → Edit) (fs fs' : FileSystem R) : Type 0 where
  pub directory : ℕ
  pub name : List ℕ
  pub place : IsPlace (names_of fs) path directory name
  pub made : Makes (edit directory name) fs fs'

abbrev pub CreatesAt : {R : Type 0} → List ℕ → FileSystem R → FileSystem R → Type 0
CreatesAt path fs fs' = MakesAt path (λ directory name. binds directory name (file (fresh_inode fs))) fs fs'

abbrev pub MakesDirectoryAt : {R : Type 0} → List ℕ → FileSystem R → FileSystem R → Type 0
MakesDirectoryAt path fs fs' = MakesAt path (λ directory name. binds directory name (directory_at (fresh_inode fs))) fs fs'

abbrev pub FreesAt : {R : Type 0} → List ℕ → FileSystem R → FileSystem R → Type 0
FreesAt path fs fs' = MakesAt path (λ directory name. frees directory name) fs fs'

-- the second path is bound to the file of the first one
pub record LinksAt {R : Type 0} (path to : List ℕ) (fs fs' : FileSystem R) : Type 0 where
  pub found : Binding
  pub bound : IsBound (names_of fs) path found
  pub made : MakesAt to (λ directory name. binds directory name (file found.inode)) fs fs'

-- a rename of the names that two paths have
pub record RenamesPath {R : Type 0} (how : Rename) (path to : List ℕ) (fs fs' : FileSystem R) : Type 0 where
  pub from_directory : ℕ
  pub old : List ℕ
  pub from : IsPlace (names_of fs) path from_directory old
  pub to_directory : ℕ
  pub new : List ℕ
  pub into : IsPlace (names_of fs) to to_directory new
  pub renamed : RenamesAt how from_directory old to_directory new fs fs'

-- a sync of the directory that a path leads to
pub record SyncsPath {R : Type 0} (path : List ℕ) (fs fs' : FileSystem R) : Type 0 where
  pub directory : ℕ
  pub leads : LeadsTo (names_of fs) path directory
  pub settled : SyncsDirectory fs directory fs'

-- these are the names in the directory that a path leads to
pub record Lists (names : Names) (path : List ℕ) (found : List (Vec ℕ Global × Binding)) : Type 0 where
  pub directory : ℕ
  pub leads : LeadsTo names path directory
  pub only : HasOnly names directory found
  pub all : HasAll names directory found
