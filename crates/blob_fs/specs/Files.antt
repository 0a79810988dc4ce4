-- The names of a file system, and what its calls leave of them.
use Rattle.std.specs.Prelude.{◌≡◌, ◌≤◌, ◌⊎◌, ℕ, Bool, false, true, List, Option, None, Some, if◌then◌else◌, is_some, option_and_then, option_map, unwrap_or}
use Rattle.std.specs.BTreeMap.{get}
use Rattle.std.specs.Ordering.{nat_cmp}
use Rattle.blob_draws.specs.declared.selections.Selections.{Selections}
use Rattle.blob_fs.specs.declared.file_system.Descriptor.{Descriptor}
use Rattle.blob_fs.specs.declared.file_system.File.{File}
use Rattle.blob_fs.specs.declared.file_system.FileSystem.{FileSystem}
use Rattle.blob_fs.specs.declared.file_system.Options.{Options}
use Rattle.blob_fs.specs.declared.switches.Syncs.{Syncs}
use Rattle.blob_directory.specs.declared.profile.Settles.{Settles}
use Rattle.blob_directory.specs.declared.profile.Settles.TheVariants.{All}
use Rattle.blob_directory.specs.declared.profile.Settles.TheVariants as settled_by
use Rattle.blob_directory.specs.declared.unsettled.About.{About}
use Rattle.blob_directory.specs.declared.unsettled.Synced.{Synced}
use Rattle.blob_directory.specs.declared.unsettled.Synced.TheVariants as synced
use Rattle.blob_directory.specs.declared.profile.Keeps.{Keeps}
use Rattle.blob_directory.specs.declared.edit.Binding.{Binding}
use Rattle.blob_directory.specs.declared.edit.Kind.{Kind}
use Rattle.blob_directory.specs.declared.edit.Kind.TheVariants.{Directory}
use Rattle.blob_directory.specs.declared.edit.Kind.TheVariants as kinds
use Rattle.blob_directory.specs.declared.table.Table.{Table}
use Rattle.blob_directory.specs.Names.{Edit, Names, Same, binds, edited, entry, exchanges, frees, moves, resizes}
use Rattle.blob_directory.specs.Records.{Found}
use Rattle.blob_directory.specs.Syncs.{of_name}
use Rattle.blob_directory.specs.Tables.{bound}
use Rattle.blob_directory.specs.Trees.{Finds}
use Rattle.blob_fs.specs.Named.{links_in}
use Rattle.blob_fs.specs.Open.{with_open}
use Rattle.blob_fs.specs.Tracked.{freed_in}
use Rattle.blob_journal.specs.declared.journaled.Journaled.{Journaled}
use Rattle.blob_journal.specs.Currents.{Represents}
use Rattle.blob_journal.specs.Draws.{RecordsEdit as records_edit}
use Rattle.blob_journal.specs.Journals.{FindsKept as finds_kept, durable_file, FindsNames as finds_names, GivesNames as gives_names, store_of}
use Rattle.blob_journal.specs.Moves.{BindsMoved, TellsAgain}
use Rattle.blob_journal.specs.Settling.{KeepsJournal as keeps_journal, NotesEdit as notes_edit, SettlesEdits as settles_edits}
use Rattle.blob_journal.specs.Keeping.{AddsTold as adds_told, FindsTold as finds_told, GivesTold as gives_told, GrowsTold as grows_told, KeepsTold as keeps_told, SettlesSome as settles_some, generator_in, table_in, told_in, with_generator as with_generator_in}

-- the names, their journal and the store
abbrev pub journaled_of : {R : Type 0} → FileSystem R → Journaled R
journaled_of fs = fs.store

-- the table of the names that calls see
abbrev pub table_of : {R : Type 0} → FileSystem R → Table
table_of fs = table_in fs.store

-- what each entry is bound to
abbrev pub names_of : {R : Type 0} → FileSystem R → Names
names_of fs = bound (table_in fs.store)

-- the number of the next inode
abbrev pub fresh_inode : {R : Type 0} → FileSystem R → ℕ
fresh_inode fs = fs.next_inode

abbrev pub descriptor_number : Descriptor → ℕ
descriptor_number descriptor = descriptor.number

-- the generator that the draws come from
abbrev pub generator_of : {R : Type 0} → FileSystem R → R
generator_of fs = generator_in fs.store

-- with another generator; all else stays
abbrev pub with_generator : {R : Type 0} → FileSystem R → R → FileSystem R
with_generator fs rng = record fs { store = with_generator_in fs.store rng; opened = with_open fs.store rng fs.files fs.opened; named = fs.named; tracked = fs.tracked }

-- nothing has happened to the names
abbrev pub KeepsNames : {R : Type 0} → FileSystem R → FileSystem R → Type 0
KeepsNames fs fs' = table_of fs' ≡ table_of fs

-- each entry is bound to what it was bound to
abbrev pub SameNames : {R : Type 0} → FileSystem R → FileSystem R → Type 0
SameNames fs fs' = Same (names_of fs) (names_of fs')

-- the durable bytes of a file's number; none if it has no blob
abbrev pub durable_of : {R : Type 0} → FileSystem R → ℕ → Option (List ℕ)
durable_of fs inode = durable_file (journaled_of fs) inode

-- the names are those of before with this edit
abbrev pub MakesEdit : {R : Type 0} → Edit → FileSystem R → FileSystem R → Type 0
MakesEdit edit fs fs' = Same (names_of fs') (edited (names_of fs) edit)

abbrev pub keeps_of : {R : Type 0} → FileSystem R → Keeps
keeps_of fs = fs.options.profile.keeps

-- after a recovery the names are those that it finds by the journal
abbrev pub FindsNames : {R : Type 0} → FileSystem R → FileSystem R → Type 0
FindsNames fs fs' = finds_names (journaled_of fs) (keeps_of fs) (names_of fs')

-- The same after a crash: the journal has those of its pending records that the crash kept.
abbrev pub FindsKept : {R : Type 0} → FileSystem R → Selections → FileSystem R → Type 0
FindsKept fs kept fs' = finds_kept (journaled_of fs) kept (keeps_of fs) (names_of fs')

-- whatever a crash keeps, the journal gives the names that calls see, by every profile
abbrev pub GivesNames : {R : Type 0} → FileSystem R → Type 0
GivesNames fs = gives_names (journaled_of fs)

-- the store represents some files
abbrev pub RepresentsFiles : {R : Type 0} → FileSystem R → Type 0
RepresentsFiles fs = Represents (store_of (journaled_of fs))

-- a crash found the names, and its journal gives them
pub record IsRecovered {R : Type 0} (fs : FileSystem R) : Type 0 where
  pub gives : GivesNames fs
  pub told : Names
  pub finds : Finds (names_of fs) told

-- if the journal gave the names, a recovery finds those of them that the root reaches
abbrev pub FindsAgain : {R : Type 0} → FileSystem R → FileSystem R → Type 0
FindsAgain fs fs' = GivesNames fs → Finds (names_of fs') (names_of fs)

-- Which edits a sync settles.

abbrev pub KeepsJournal : {R : Type 0} → FileSystem R → FileSystem R → Type 0
KeepsJournal fs fs' = keeps_journal (journaled_of fs) (journaled_of fs')

-- exactly those that a sync of this kind settles
abbrev pub SettlesEdits : {R : Type 0} → Settles → Synced → FileSystem R → FileSystem R → Type 0
SettlesEdits settles kind fs fs' = settles_edits settles kind (journaled_of fs) (journaled_of fs')

abbrev pub settles_of : {R : Type 0} → FileSystem R → Settles
settles_of fs = fs.options.profile.settles

abbrev pub options_of : {R : Type 0} → FileSystem R → Options
options_of fs = fs.options

-- the same options
abbrev pub KeepsOptions : {R : Type 0} → FileSystem R → FileSystem R → Type 0
KeepsOptions fs fs' = options_of fs' ≡ options_of fs

abbrev pub syncs_of : {R : Type 0} → FileSystem R → Syncs
syncs_of fs = fs.options.syncs

-- the same files, descriptors and options
pub record SameFiles {R : Type 0} (fs fs' : FileSystem R) : Type 0 where
  pub files : fs'.files ≡ fs.files
  pub opens : fs'.opens ≡ fs.opens
  pub options : fs'.options ≡ fs.options

-- each directory is in the directory that it was in
abbrev pub SameDirectories : {R : Type 0} → FileSystem R → FileSystem R → Type 0
SameDirectories fs fs' = fs'.directories ≡ fs.directories

-- the same descriptors are open
abbrev pub SameOpens : {R : Type 0} → FileSystem R → FileSystem R → Type 0
SameOpens fs fs' = fs'.opens ≡ fs.opens

-- the inode of an open descriptor
abbrev pub inode_opened : {R : Type 0} → FileSystem R → Descriptor → Option ℕ
inode_opened fs file = get nat_cmp fs.opens file.number

-- A sync that doesn't lie settles the edits that the profile says of the descriptor's file. When its size last changed isn't said.
pub record SyncsFile {R : Type 0} (fs : FileSystem R) (file : Descriptor) (fs' : FileSystem R) : Type 0 where
  pub inode : ℕ
  pub opened : inode_opened fs file ≡ Some inode
  pub sized : ℕ
  pub settled : SettlesEdits (settles_of fs) (synced.File inode sized) fs fs'

-- those of its data
pub record SyncsData {R : Type 0} (fs : FileSystem R) (file : Descriptor) (fs' : FileSystem R) : Type 0 where
  pub inode : ℕ
  pub opened : inode_opened fs file ≡ Some inode
  pub sized : ℕ
  pub settled : SettlesEdits (settles_of fs) (synced.Data inode sized) fs fs'

-- with `Names`, and with any other value
abbrev pub IfNames : Settles → Type 0 → Type 0 → Type 0
IfNames settled_by.Names names other = names
IfNames settled_by.Own names other = other
IfNames settled_by.UpToLast names other = other
IfNames settled_by.UpToLastOrSize names other = other
IfNames settled_by.All names other = other

-- The new name of each file that moved into the directory is an edit of its own. Then those of the directory are settled.
pub record SyncsMoved {R : Type 0} (fs : FileSystem R) (directory : ℕ) (fs' : FileSystem R) : Type 0 where
  pub between : FileSystem R
  pub told : TellsAgain (journaled_of fs) (journaled_of between)
  pub bound : BindsMoved directory (journaled_of fs) (journaled_of between)
  pub settled : SettlesEdits settled_by.Names (synced.Directory directory) between fs'

-- those of a directory
abbrev pub SyncsDirectory : {R : Type 0} → FileSystem R → ℕ → FileSystem R → Type 0
SyncsDirectory fs directory fs' = IfNames (settles_of fs) (SyncsMoved fs directory fs') (SettlesEdits (settles_of fs) (synced.Directory directory) fs fs')

-- all
abbrev pub SyncsAll : {R : Type 0} → FileSystem R → FileSystem R → Type 0
SyncsAll fs fs' = SettlesEdits All (synced.Directory 0) fs fs'

-- The edits that the journal was told.

abbrev pub told_of : {R : Type 0} → FileSystem R → List Found
told_of fs = told_in (journaled_of fs)

-- the same edits were told, and the same are settled
abbrev pub KeepsTold : {R : Type 0} → FileSystem R → FileSystem R → Type 0
KeepsTold fs fs' = keeps_told (journaled_of fs) (journaled_of fs')

-- no name has changed, and no edit is recorded or settled
abbrev pub KeepsEdits : {R : Type 0} → FileSystem R → FileSystem R → Type 0
KeepsEdits fs fs' = KeepsNames fs fs' × KeepsTold fs fs'

-- one more edit was told, which nothing has settled
abbrev pub AddsTold : {R : Type 0} → Edit → FileSystem R → FileSystem R → Type 0
AddsTold edit fs fs' = adds_told edit (journaled_of fs) (journaled_of fs')

-- one more edit is unsettled, the last one: it is this edit, is about this, and a crash keeps it by the rate that is set
abbrev pub NotesEdit : {R : Type 0} → Edit → About → FileSystem R → FileSystem R → Type 0
NotesEdit edit about fs fs' = notes_edit edit about (options_of fs).edit_rate (journaled_of fs) (journaled_of fs')

-- the log of the journal has the entry of this edit's record more
abbrev pub LogsEdit : {R : Type 0} → Edit → FileSystem R → FileSystem R → Type 0
LogsEdit edit fs fs' = records_edit edit (options_of fs).edit_rate (journaled_of fs) (journaled_of fs')

-- what an edit of a name of an inode in a directory is about
abbrev pub about_name : ℕ → ℕ → About
about_name inode directory = of_name inode directory

abbrev pub is_file : Kind → Bool
is_file kinds.File = true
is_file kinds.Directory = false

-- what an edit that moves a name is about
abbrev pub about_move : Binding → ℕ → ℕ → About
about_move moved from to = record { inode = moved.inode; other = None; directory = from; other_directory = Some to; moves_file = is_file moved.kind }

-- an exchange moves another inode too
abbrev pub about_exchange : Binding → Binding → ℕ → ℕ → About
about_exchange moved was from to = record { inode = moved.inode; other = Some was.inode; directory = from; other_directory = Some to; moves_file = false }

-- the inode that a name is bound to; 0 if there is none
abbrev pub inode_named : {R : Type 0} → FileSystem R → ℕ → List ℕ → ℕ
inode_named fs directory name = unwrap_or (option_map (λ to. to.inode) (names_of fs (entry directory name))) 0

-- the same of the inode that the name is bound to
abbrev pub about_named : {R : Type 0} → FileSystem R → ℕ → List ℕ → About
about_named fs directory name = about_name (inode_named fs directory name) directory

-- An edit of a name, as it is noted: it binds the name, frees it, or moves it or exchanges it with another one.

abbrev pub NotesBinding : {R : Type 0} → ℕ → List ℕ → Binding → FileSystem R → FileSystem R → Type 0
NotesBinding directory name to = NotesEdit (binds directory name to) (about_name to.inode directory)

abbrev pub NotesFreeing : {R : Type 0} → ℕ → List ℕ → FileSystem R → FileSystem R → Type 0
NotesFreeing directory name fs = NotesEdit (frees directory name) (about_named fs directory name) fs

abbrev pub NotesMove : {R : Type 0} → ℕ → ℕ → List ℕ → List ℕ → Binding → FileSystem R → FileSystem R → Type 0
NotesMove from to old new moved = NotesEdit (moves old new moved) (about_move moved from to)

abbrev pub NotesExchange : {R : Type 0} → ℕ → ℕ → List ℕ → List ℕ → Binding → Binding → FileSystem R → FileSystem R → Type 0
NotesExchange from to old new moved was = NotesEdit (exchanges old new moved was) (about_exchange moved was from to)

-- edits may have been told, and some settled; no edit has changed, and none is unsettled again
abbrev pub GrowsTold : {R : Type 0} → FileSystem R → FileSystem R → Type 0
GrowsTold fs fs' = grows_told (journaled_of fs) (journaled_of fs')

-- edits may have been settled, and no other change was made
abbrev pub SettlesSome : {R : Type 0} → FileSystem R → FileSystem R → Type 0
SettlesSome fs fs' = settles_some (journaled_of fs) (journaled_of fs')

-- edits may have been told that bind names to what calls see there, and then some settled
pub record TellsAndSettles {R : Type 0} (fs fs' : FileSystem R) : Type 0 where
  pub between : FileSystem R
  pub told : TellsAgain (journaled_of fs) (journaled_of between)
  pub some : SettlesSome between fs'

-- the same if syncs settle names, else edits may have been settled
abbrev pub SettlesSomeOf : {R : Type 0} → FileSystem R → FileSystem R → Type 0
SettlesSomeOf fs fs' = IfNames (settles_of fs) (TellsAndSettles fs fs') (SettlesSome fs fs')

-- after a crash the names are those that it finds by the edits that were told: by all that were settled, and by some of the others, as the profile keeps them
abbrev pub FindsTold : {R : Type 0} → FileSystem R → FileSystem R → Type 0
FindsTold fs fs' = finds_told (journaled_of fs) (keeps_of fs) (names_of fs')

-- all edits that were told are settled, and they give the names
abbrev pub GivesTold : {R : Type 0} → FileSystem R → Type 0
GivesTold fs = gives_told (journaled_of fs)

-- All edits were settled. Then nothing changed, or the journal was begun anew: all that it has is settled, and gives the names.
pub record Commits {R : Type 0} (fs fs' : FileSystem R) : Type 0 where
  pub between : FileSystem R
  pub settled : SyncsAll fs between
  pub begun : KeepsTold between fs' ⊎ GivesTold fs'

-- nothing was recorded, or the edit of a truncation of this file, which nothing has settled
abbrev pub MayResize : {R : Type 0} → ℕ → FileSystem R → FileSystem R → Type 0
MayResize inode fs fs' = KeepsTold fs fs' ⊎ AddsTold (resizes inode) fs fs'

-- that of some file
abbrev pub MayResizeSome : {R : Type 0} → FileSystem R → FileSystem R → Type 0
MayResizeSome fs fs' = (inode : ℕ) × MayResize inode fs fs'

-- that of a descriptor's file
abbrev pub MayTruncate : {R : Type 0} → Descriptor → FileSystem R → FileSystem R → Type 0
MayTruncate file fs fs' = KeepsTold fs fs' ⊎ ((inode : ℕ) × (inode_opened fs file ≡ Some inode) × AddsTold (resizes inode) fs fs')

-- A file that isn't gone, by its number, and its sizes.

abbrev pub shown : File → Option File
shown file = if file.is_gone then None else Some file

abbrev pub file_of : {R : Type 0} → FileSystem R → ℕ → Option File
file_of fs inode = option_and_then shown (get nat_cmp fs.files inode)

-- what a number is: a directory, a file that isn't gone, or nothing
abbrev pub kind_in : {R : Type 0} → FileSystem R → ℕ → Option Kind
kind_in fs inode = if is_some (get nat_cmp fs.directories inode) then Some Directory else option_map (λ file. kinds.File) (file_of fs inode)

-- each file has the same links
abbrev pub SameLinks : {R : Type 0} → FileSystem R → FileSystem R → Type 0
SameLinks fs fs' = (inode : ℕ) → links_in (get nat_cmp fs'.files inode) ≡ links_in (get nat_cmp fs.files inode)

-- its size at its last sync or crash, 0 if there is none
abbrev pub synced_size : {R : Type 0} → FileSystem R → ℕ → ℕ
synced_size fs inode = unwrap_or (option_map (λ f. f.synced) (file_of fs inode)) 0

-- its size that the last crash found
abbrev pub found_size : {R : Type 0} → FileSystem R → ℕ → ℕ
found_size fs inode = unwrap_or (option_map (λ f. f.found) (file_of fs inode)) 0

-- a file went while the journal had at most this many edits
pub record IsGoneBy {R : Type 0} (fs : FileSystem R) (inode edits : ℕ) : Type 0 where
  pub limit : ℕ
  pub freed : freed_in (get nat_cmp fs.files inode) ≡ Some limit
  pub before : limit ≤ edits
