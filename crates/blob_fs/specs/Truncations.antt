-- The truncations of a file after a crash: which were kept, and what they leave of its bytes.
use Rattle.std.specs.Prelude.{◌≡◌, ℕ, ◌-◌, ◌<◌, ◌&&◌, ◌||◌, Bool, false, List, [], ◌∷◌, Vec, if◌then◌else◌, length, nat_eq, nat_le, slice_index_or}
use Rattle.std.specs.Global.{Global}
use Rattle.std.specs.List.{fold, list_any}
use Rattle.blob_model.specs.Bytes.{overlay_by, resize}
use Rattle.blob_draws.specs.Rows.{rows_of}
use Rattle.blob_directory.specs.Syncs.{is_number}
use Rattle.blob_fs.specs.declared.crash.Place.{Place}
use Rattle.blob_fs.specs.declared.truncation.Kept.{Kept}
use Rattle.blob_fs.specs.declared.truncation.Truncation.{Truncation}

-- The edits that a crash lost.

-- of these numbers of edits, those that weren't kept
abbrev pub lost_of : List ℕ → List Bool → List ℕ
lost_of [] kept = []
lost_of (n ∷ numbers) [] = []
lost_of (n ∷ numbers) (k ∷ kept) = if k then lost_of numbers kept else (n ∷ lost_of numbers kept)

-- whether the edit of a truncation is among them
abbrev pub is_lost : List ℕ → Truncation → Bool
is_lost lost t = list_any (λ n. nat_eq n t.edit) lost

-- The bytes of later writes that a crash kept.

-- whether a crash that made these choices kept the byte at a position of a write at an offset
abbrev pub keeps_at : ℕ → List Bool → ℕ → Bool
keeps_at offset choices at = nat_le offset at && slice_index_or choices (at - offset) false

-- whether a write with this number and place is one of the file from a number on
abbrev pub is_later : ℕ → ℕ → ℕ → Place → Bool
is_later first inode number place = nat_le first number && is_number place.inode inode

-- whether the crash kept the byte at a position of such a write, by its choices
abbrev pub keeps_write : ℕ → ℕ → ℕ → List Bool → Place → ℕ → Bool
keeps_write first inode number choices place at = is_later first inode number place && keeps_at place.offset choices at

-- the same of all writes, by the rows and places of the crash
abbrev pub keeps_later : ℕ → ℕ → List (ℕ × Vec Bool Global) → List Place → ℕ → Bool
keeps_later first inode [] places at = false
keeps_later first inode (row ∷ rows) [] at = false
keeps_later first inode (row ∷ rows) (place ∷ places) at =
    keeps_write first inode row.0 row.1.items place at || keeps_later first inode rows places at

-- a test at positions from one on
abbrev pub marks_from : ℕ → (ℕ → Bool) → ℕ → Bool
marks_from from test at = nat_le from at && test at

-- whether a truncation puts back the byte at a position of a write: of a later one, from its length on
abbrev pub puts_write : ℕ → Truncation → ℕ → List Bool → Place → ℕ → Bool
puts_write inode t number choices place = marks_from t.length (keeps_write t.next_write inode number choices place)

-- of some write
abbrev pub puts_back : Kept → ℕ → Truncation → ℕ → Bool
puts_back kept inode t = marks_from t.length (keeps_later t.next_write inode (rows_of kept.rows) kept.places.items)

-- the marks of before and those at the positions that the test passes
pub record Marks (before after : List Bool) (test : ℕ → Bool) : Type 0 where
  pub size : length after ≡ length before
  pub each : (at : ℕ) → at < length before → slice_index_or after at false ≡ (slice_index_or before at false || test at)

-- this many marks, set at the positions that the test accepts
pub record AreMarks (count : ℕ) (marks : List Bool) (test : ℕ → Bool) : Type 0 where
  pub size : length marks ≡ count
  pub each : (at : ℕ) → at < count → slice_index_or marks at false ≡ test at

-- The bytes of a file.

-- a truncation that was kept: the bytes get its length, then those that it puts back are as they were found
abbrev pub truncated_by : Kept → ℕ → List ℕ → List ℕ → Truncation → List ℕ
truncated_by kept inode found bytes t = overlay_by (resize bytes t.length) 0 found (puts_back kept inode t)

-- one that may be lost
abbrev pub unless_lost : Kept → List ℕ → ℕ → List ℕ → List ℕ → Truncation → List ℕ
unless_lost kept lost inode found bytes t = if is_lost lost t then bytes else truncated_by kept inode found bytes t

-- what the kept ones of these truncations leave, in their order, of what was found of a file
abbrev pub truncated : Kept → List ℕ → ℕ → List Truncation → List ℕ → List ℕ
truncated kept lost inode truncations found = fold (unless_lost kept lost inode found) found truncations

-- the length of a truncation that was kept, or else the size before it
abbrev pub size_after : List ℕ → ℕ → Truncation → ℕ
size_after lost size t = if is_lost lost t then size else t.length

-- the size from which the cut counts: the length of the last truncation that was kept, or else the synced size
abbrev pub cut_start : List ℕ → ℕ → List Truncation → ℕ
cut_start lost synced truncations = fold (size_after lost) synced truncations
