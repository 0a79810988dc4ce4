-- The bytes of files after a crash.
use Rattle.std.specs.Prelude.{◌≡◌, ◌≢◌, ◌+◌, ◌<◌, ◌≤◌, ◌^◌, ◌==◌, ℕ, suc, Bool, true, false, List, [], ◌∷◌, length, take, drop, Option, None, Some, if◌then◌else◌, is_some, map, option_map, unwrap_or}
use Rattle.std.specs.BTreeMap.{BTreeMap, get}
use Rattle.std.specs.Ordering.{nat_cmp}
use Rattle.blob_draws.specs.declared.selections.Selections.{Selections}
use Rattle.blob_directory.specs.declared.tree.Tree.{Tree}
use Rattle.blob_directory.specs.Names.{file}
use Rattle.blob_directory.specs.Trees.{has_link}
use Rattle.blob_fs.specs.declared.crash.Crash.{Crash}
use Rattle.blob_fs.specs.declared.truncation.Kept.{Kept}
use Rattle.blob_fs.specs.declared.truncations.Loss.{Loss}
use Rattle.blob_fs.specs.declared.file_system.File.{File}
use Rattle.blob_fs.specs.declared.file_system.FileSystem.{FileSystem}
use Rattle.blob_fs.specs.Truncations.{cut_start, lost_of, truncated}
use Rattle.blob_fs.specs.Files.{durable_of, file_of, found_size, journaled_of, keeps_of, names_of, synced_size}
use Rattle.blob_journal.specs.declared.journaled.Journaled.{Journaled}
use Rattle.blob_journal.specs.declared.store.FileBlob.{FileBlob}
use Rattle.blob_journal.specs.Settling.{FindsKeptEdits, unsettled_of}
use Rattle.blob_journal.specs.Blobs.{HasDurable, SameFile, SameFilesBut, bytes_of, crashed_file as crashed_in, current_file}

-- The cut of a file.

-- how many bytes at the start of both are the same
abbrev pub common_length : List ℕ → List ℕ → ℕ
common_length [] seen = 0
common_length (x ∷ found) [] = 0
common_length (x ∷ found) (y ∷ seen) = if x == y then suc (common_length found seen) else 0

-- the synced size, and how many bytes beyond it are those that were seen there, up to the first that isn't
abbrev pub kept_length : ℕ → List ℕ → List ℕ → ℕ
kept_length synced seen found = synced + common_length (drop synced found) (drop synced seen)

-- what was found of a file, cut to this length if the profile cuts
abbrev pub cut_bytes : Bool → ℕ → List ℕ → List ℕ → List ℕ
cut_bytes cuts synced seen found = if cuts then take (kept_length synced seen found) found else found

-- The bytes of files.

-- a file by its number, one without a name too
abbrev pub file_in : {R : Type 0} → FileSystem R → ℕ → Option File
file_in fs inode = get nat_cmp fs.files inode

-- the bytes of a file after the store's crash, by the rows that were kept: what was pending, replayed over its durable bytes
abbrev pub crashed_file : {R : Type 0} → FileSystem R → Selections → ℕ → Option (List ℕ)
crashed_file fs kept inode = crashed_in (journaled_of fs) kept inode

-- those bytes after the kept truncations of the file
abbrev pub found_of : Kept → List ℕ → ℕ → Option File → List ℕ → List ℕ
found_of kept lost inode None left = left
found_of kept lost inode (Some old) left = truncated kept lost inode old.truncations.items left

-- and of what was found, what remains after the profile's cut, by the file's blob and the size from which the cut counts
abbrev pub left_of : Bool → List ℕ → Option File → List ℕ → List ℕ
left_of cuts lost None found = found
left_of cuts lost (Some old) found = cut_bytes cuts (cut_start lost old.synced old.truncations.items) (bytes_of old.blob) found

-- the same by its number; nothing is truncated or cut if the file system had no file of this number
abbrev pub bytes_found : {R : Type 0} → FileSystem R → Kept → List ℕ → ℕ → List ℕ → List ℕ
bytes_found fs kept lost inode left = found_of kept lost inode (file_in fs inode) left

abbrev pub bytes_left : {R : Type 0} → FileSystem R → List ℕ → ℕ → List ℕ → List ℕ
bytes_left fs lost inode found = left_of fs.options.profile.cuts lost (file_in fs inode) found

-- what calls see of a file: its blob's bytes, or those that a failed sync shows in their place
abbrev pub bytes_read : File → List ℕ
bytes_read file = elim file.shown [ None ↦ bytes_of file.blob | Some bytes ↦ bytes.items ]

-- the file has these bytes, durably and as calls see them; before the cut these were found of it
pub record HasBytes {R : Type 0} (fs : FileSystem R) (inode : ℕ) (found bytes : List ℕ) : Type 0 where
  pub durable : durable_of fs inode ≡ Some bytes
  pub read : option_map bytes_read (file_of fs inode) ≡ Some bytes
  pub synced : synced_size fs inode ≡ length bytes
  pub size : found_size fs inode ≡ length found

-- if the crash left the file's blob, these are its bytes
abbrev pub IsFound : Option (List ℕ) → List ℕ → Type 0
IsFound left found = (bytes : List ℕ) → left ≡ Some bytes → bytes ≡ found

-- the file has the bytes that were left of its blob, with the kept truncations, cut as the profile says
pub record FindsFile {R : Type 0} (fs : FileSystem R) (kept : Kept) (lost : List ℕ) (left : Option (List ℕ)) (inode : ℕ) (fs' : FileSystem R) : Type 0 where
  pub bytes : List ℕ
  pub was : left ≡ Some bytes
  pub has : HasBytes fs' inode (bytes_found fs kept lost inode bytes) (bytes_left fs lost inode (bytes_found fs kept lost inode bytes))

-- the rows and places by which truncations are applied: those of the last crash, if its recovery failed
abbrev pub kept_by : {R : Type 0} → FileSystem R → Crash → Kept
kept_by fs crash = unwrap_or fs.kept (record { rows = crash.rows; places = crash.places })

-- of each edit that nothing had settled, whether its record counts in the journal with those of its pending records that the crash kept
abbrev pub FindsEdits : {R : Type 0} → FileSystem R → Crash → Type 0
FindsEdits fs crash = FindsKeptEdits (journaled_of fs) crash.rows (keeps_of fs) crash.edits.items

-- the numbers of the edits that nothing had settled
abbrev pub unsettled_numbers : {R : Type 0} → FileSystem R → List ℕ
unsettled_numbers fs = map (λ e. e.number) (unsettled_of (journaled_of fs))

-- of these, those that the crash lost
abbrev pub lost_by : {R : Type 0} → FileSystem R → Crash → List ℕ
lost_by fs crash = lost_of (unsettled_numbers fs) crash.edits.items

-- each file that a name reaches has exactly the bytes that the store's crash leaves of it, with the kept truncations, cut as the profile says
abbrev pub FindsBytes : {R : Type 0} → FileSystem R → Crash → FileSystem R → Type 0
FindsBytes fs crash fs' = (name : List ℕ) (inode : ℕ) → inode < 2 ^ 64 → names_of fs' name ≡ Some (file inode)
    → FindsFile fs (kept_by fs crash) (lost_by fs crash) (crashed_file fs crash.rows inode) inode fs'

-- the file system had each file that a name reaches
abbrev pub FindsKnown : {R : Type 0} → FileSystem R → FileSystem R → Type 0
FindsKnown fs fs' = (name : List ℕ) (inode : ℕ) → inode < 2 ^ 64 → names_of fs' name ≡ Some (file inode) → is_some (file_in fs inode) ≡ true

-- there is no file that no name reaches
abbrev pub HasNoOrphan : {R : Type 0} → FileSystem R → Type 0
HasNoOrphan fs = (inode : ℕ) → ((name : List ℕ) → names_of fs name ≢ Some (file inode)) → file_of fs inode ≡ None

-- The recovery.

-- each file that a name reaches has the durable bytes of before, with the kept truncations, cut as the profile says
abbrev pub RecoversBytes : {R : Type 0} → Kept → List ℕ → FileSystem R → FileSystem R → Type 0
RecoversBytes kept lost fs fs' = (name : List ℕ) (inode : ℕ) → inode < 2 ^ 64 → names_of fs' name ≡ Some (file inode)
    → FindsFile fs kept lost (current_file (journaled_of fs) inode) inode fs'

-- the same by what a recovery takes: what is found of a file, what the cut leaves of that, and what is left of the file
abbrev pub found_after : Kept → Loss → ℕ → Option File → List ℕ → List ℕ
found_after kept loss inode old left = found_of kept loss.lost.items inode old left

abbrev pub cut_after : Loss → Option File → List ℕ → List ℕ
cut_after loss old found = left_of loss.cuts loss.lost.items old found

abbrev pub left_after : Kept → Loss → ℕ → Option File → List ℕ → List ℕ
left_after kept loss inode old left = cut_after loss old (found_after kept loss inode old left)

-- a file that is open again has these bytes; before the cut these were found of it
pub record IsLeft {R : Type 0} (j : Journaled R) (inode : ℕ) (file : File) (found bytes : List ℕ) : Type 0 where
  pub has : HasDurable j inode file.blob bytes
  pub synced : file.synced ≡ length bytes
  pub size : file.found ≡ length found
  pub there : file.is_gone ≡ false
  pub shown : file.shown ≡ None

-- so is one of a map
pub record LeftIn {R : Type 0} (j : Journaled R) (files : BTreeMap ℕ File) (inode : ℕ) (found bytes : List ℕ) : Type 0 where
  pub file : File
  pub at : get nat_cmp files inode ≡ Some file
  pub left : IsLeft j inode file found bytes

-- a file is made shorter, durably
abbrev pub CutsTo : {R : Type 0} → ℕ → Journaled R → FileBlob → Journaled R → FileBlob → Type 0
CutsTo {R} n j blob j' blob' = (inode : ℕ) (bytes : List ℕ) → n ≤ length bytes → HasDurable j inode blob bytes → HasDurable j' inode blob' (take n bytes)

-- a file gets these bytes, durably
abbrev pub Rewrites : {R : Type 0} → List ℕ → Journaled R → FileBlob → Journaled R → FileBlob → Type 0
Rewrites {R} new j blob j' blob' = (inode : ℕ) (bytes : List ℕ) → HasDurable j inode blob bytes → HasDurable j' inode blob' new

-- the kept truncations of a file are applied, durably
abbrev pub Truncates : {R : Type 0} → Kept → Loss → ℕ → File → Journaled R → FileBlob → Journaled R → FileBlob → Type 0
Truncates {R} kept loss inode old j blob j' blob' = (bytes : List ℕ) → HasDurable j inode blob bytes
    → HasDurable j' inode blob' (found_after kept loss inode (Some old) bytes)

-- a file is cut at its first byte beyond a size that isn't the live one
abbrev pub CutsFrom : {R : Type 0} → ℕ → FileBlob → Journaled R → FileBlob → Journaled R → FileBlob → Type 0
CutsFrom {R} start live j blob j' blob' = (inode : ℕ) (found : List ℕ) → HasDurable j inode blob found
    → HasDurable j' inode blob' (cut_bytes true start (bytes_of live) found)

-- a file is cut, if the profile does
abbrev pub CutsFile : {R : Type 0} → Loss → File → Journaled R → FileBlob → Journaled R → FileBlob → Type 0
CutsFile {R} loss old j blob j' blob' = (inode : ℕ) (found : List ℕ) → HasDurable j inode blob found
    → HasDurable j' inode blob' (cut_after loss (Some old) found)

-- if it is this number's file, each other one is the same
abbrev pub ChangesOnly : {R : Type 0} → Journaled R → FileBlob → Journaled R → Type 0
ChangesOnly {R} j blob j' = (inode : ℕ) (bytes : List ℕ) → inode < 2 ^ 64 → HasDurable j inode blob bytes → SameFilesBut inode j j'

-- the blob of a file is open again; if the file was there, with its kept truncations, and cut if the profile does
pub record OpensLeft {R : Type 0} (j : Journaled R) (inode : ℕ) (old : BTreeMap ℕ File) (kept : Kept) (loss : Loss) (j' : Journaled R) (blob : FileBlob) (n : ℕ) : Type 0 where
  pub bytes : List ℕ
  pub is : IsFound (current_file j inode) bytes
  pub has : HasDurable j' inode blob (left_after kept loss inode (get nat_cmp old inode) bytes)
  pub size : n ≡ length (found_after kept loss inode (get nat_cmp old inode) bytes)

-- a file is
pub record Reopens {R : Type 0} (j : Journaled R) (inode : ℕ) (old : BTreeMap ℕ File) (kept : Kept) (loss : Loss) (j' : Journaled R) (file : File) : Type 0 where
  pub bytes : List ℕ
  pub is : IsFound (current_file j inode) bytes
  pub left : IsLeft j' inode file (found_after kept loss inode (get nat_cmp old inode) bytes) (left_after kept loss inode (get nat_cmp old inode) bytes)

-- so is one of a map
pub record ReopensIn {R : Type 0} (j : Journaled R) (inode : ℕ) (old : BTreeMap ℕ File) (kept : Kept) (loss : Loss) (j' : Journaled R) (files : BTreeMap ℕ File) : Type 0 where
  pub bytes : List ℕ
  pub is : IsFound (current_file j inode) bytes
  pub left : LeftIn j' files inode (found_after kept loss inode (get nat_cmp old inode) bytes) (left_after kept loss inode (get nat_cmp old inode) bytes)

-- each file that the tree counts is
abbrev pub ReopensAll : {R : Type 0} → Journaled R → BTreeMap ℕ File → Tree → Kept → Loss → Journaled R → BTreeMap ℕ File → Type 0
ReopensAll {R} j old tree kept loss j' files = (inode : ℕ) → inode < 2 ^ 64 → has_link tree inode ≡ true → ReopensIn j inode old kept loss j' files

-- each file of a map was in an earlier one
abbrev pub HasOnlyKnown : BTreeMap ℕ File → BTreeMap ℕ File → Type 0
HasOnlyKnown old files = (inode : ℕ) → is_some (get nat_cmp files inode) ≡ true → is_some (get nat_cmp old inode) ≡ true

-- it counts each file of a map
abbrev pub HasOnlyLinked : Tree → BTreeMap ℕ File → Type 0
HasOnlyLinked tree files = (inode : ℕ) → is_some (get nat_cmp files inode) ≡ true → has_link tree inode ≡ true

-- the blobs of these files are the same
abbrev pub KeepsBlobsOf : {R : Type 0} → BTreeMap ℕ File → Journaled R → Journaled R → Type 0
KeepsBlobsOf {R} files j j' = (inode : ℕ) (file : File) → inode < 2 ^ 64 → get nat_cmp files inode ≡ Some file → SameFile inode j j'
