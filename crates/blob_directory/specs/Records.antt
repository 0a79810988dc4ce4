-- An edit as the bytes of one record, and the edit that a record has.
use Rattle.std.specs.Prelude.{◌≡◌, ℕ, ◌+◌, ◌<◌, ◌≤◌, ◌^◌, Bool, List, [], ◌∷◌, ◌++◌, length, take, drop, get_or, map, Option, Some, None, if◌then◌else◌, nat_eq, nat_lt, nat_le, ◌&&◌}
use Rattle.blob_packed.specs.Numbers.{number_bytes, number_told}
use Rattle.blob_packed.specs.Records.{Record, found_from}
use Rattle.blob_packed.specs.declared.record.Record as rust_record
use Rattle.blob_directory.specs.declared.edit.Binding.{Binding}
use Rattle.blob_directory.specs.declared.edit.Kind.{Kind}
use Rattle.blob_directory.specs.declared.edit.Kind.TheVariants.{File, Directory}
use Rattle.blob_directory.specs.Names.{Change, Edit}

abbrev pub kind_number : Kind → ℕ
kind_number File = 1
kind_number Directory = 2

-- 0 for none, 1 for a file, 2 for a directory
abbrev pub kind_byte : Option Binding → ℕ
kind_byte None = 0
kind_byte (Some b) = kind_number b.kind

abbrev pub inode_told : Option Binding → ℕ
inode_told None = 0
inode_told (Some b) = b.inode

-- the length of the entry in eight bytes, the kind, the inode in eight bytes, and the entry
unfoldable pub change_bytes : Change → List ℕ
change_bytes c = number_bytes (length c.0) ++ (kind_byte c.1 ∷ (number_bytes (inode_told c.1) ++ c.0))

-- the bytes of its changes
unfoldable pub edit_bytes : Edit → List ℕ
edit_bytes [] = []
edit_bytes (c ∷ edit) = change_bytes c ++ edit_bytes edit

-- the record of an edit, settled or not
abbrev pub record_of : Edit → Bool → Record
record_of edit settled = (edit_bytes edit, settled)

abbrev pub binding_told : ℕ → ℕ → Option Binding
binding_told kind inode =
    if nat_eq kind 1 then Some (record { inode = inode; kind = File })
    else if nat_eq kind 2 then Some (record { inode = inode; kind = Directory })
    else None

-- Bytes begin with a change if they have a length that isn't 0, and as many bytes as it says.
abbrev pub has_change : List ℕ → Bool
has_change bytes = nat_lt 0 (number_told bytes) && nat_le (17 + number_told bytes) (length bytes)

-- the change that bytes begin with
unfoldable pub change_told : List ℕ → Change
change_told bytes =
    (take (number_told bytes) (drop 17 bytes), binding_told (get_or bytes 8 0) (number_told (drop 9 bytes)))

-- the change that bytes begin with, if they do
abbrev pub more_told : List ℕ → Edit
more_told bytes = if has_change bytes then change_told bytes ∷ [] else []

-- one change, or two
unfoldable pub edit_told : List ℕ → Edit
edit_told bytes = change_told bytes ∷ more_told (drop (17 + number_told bytes) bytes)

-- Bytes have an edit if they begin with a change, and aren't longer than 1,024.
abbrev pub has_edit : List ℕ → Bool
has_edit bytes = nat_le (length bytes) 1024 && has_change bytes

-- an edit as it was found in its record, and whether it was settled; none if the record was lost
abbrev pub Found : Type 0
Found = Option (Edit × Bool)

-- the edit of a record that was found; none if the record was lost
abbrev pub edit_found : Option Record → Found
edit_found None = None
edit_found (Some found) = if has_edit found.0 then Some (edit_told found.0, found.1) else None

-- the same of a record as next_record returns it
abbrev pub found_by : rust_record.Record → Found
found_by found = edit_found (Some (found.bytes.now, found.is_settled))

-- the edits of the records that bytes have, with numbers from one on
abbrev pub edits_from : ℕ → List ℕ → List Found
edits_from next bytes = map edit_found (found_from next bytes)

-- the edits of the records of a journal
abbrev pub found_in : List ℕ → List Found
found_in journal = edits_from 0 journal

-- a change that a record has room for
pub record Fits (c : Change) : Type 0 where
  pub named : 0 < length c.0
  pub short : length c.0 < 2 ^ 64
  pub inode : inode_told c.1 < 2 ^ 64

-- one change or two, in 1,024 bytes
abbrev pub FitsRecord : Edit → Type 0
FitsRecord [] = ⊥
FitsRecord (c ∷ []) = Fits c × (length (edit_bytes (c ∷ [])) ≤ 1024)
FitsRecord (c ∷ d ∷ []) = Fits c × Fits d × (length (edit_bytes (c ∷ d ∷ [])) ≤ 1024)
FitsRecord (c ∷ d ∷ _ ∷ _) = ⊥

-- a change of a name of at most 255 bytes; it may be empty
abbrev pub IsOfName : Change → Type 0
IsOfName c = (8 ≤ length c.0) × (length c.0 ≤ 263) × (inode_told c.1 < 2 ^ 64)

-- edits of such names fit
pub record NamesFit : Type 0 where
  pub one : (c : Change) → IsOfName c → FitsRecord (c ∷ [])
  pub two : (c d : Change) → IsOfName c → IsOfName d → FitsRecord (c ∷ d ∷ [])

-- the edit of the record of an edit is that edit
abbrev pub RoundTrip : Type 0
RoundTrip = (edit : Edit) (settled : Bool) → FitsRecord edit
    → edit_found (Some (record_of edit settled)) ≡ Some (edit, settled)
