-- Records of bytes, one after another, each with its number.
use Rattle.std.specs.Prelude.{◌≡◌, ℕ, zero, suc, ◌+◌, ◌-◌, ◌<◌, ◌^◌, Bool, false, ◌&&◌, ◌||◌, List, [], ◌∷◌, ◌++◌, length, take, drop, replicate, Option, Some, None, if◌then◌else◌, nat_eq, nat_le}
use Rattle.blob_packed.specs.Numbers.{number_bytes, number_told}

-- the bytes of a record, and whether it is settled
abbrev pub Record : Type 0
Record = List ℕ × Bool

-- a record that was found; none if it was lost
abbrev pub Found : Type 0
Found = Option Record

-- 1, or 2 if it is settled, then its number, the length of its bytes, and these
unfoldable pub record_bytes : ℕ → Record → List ℕ
record_bytes n r = (if r.1 then 2 else 1) ∷ (number_bytes n ++ (number_bytes (length r.0) ++ r.0))

-- records with numbers from one on, one after another
abbrev pub packed_from : ℕ → List Record → List ℕ
packed_from n [] = []
packed_from n (r ∷ records) = record_bytes n r ++ packed_from (suc n) records

-- records with numbers from 0 on
abbrev pub packed : List Record → List ℕ
packed records = packed_from 0 records

-- each number and each length is one of 64 bits
abbrev pub FitFrom : ℕ → List Record → Type 0
FitFrom n [] = Unit {0}
FitFrom n (r ∷ records) = (n < 2 ^ 64) × (length r.0 < 2 ^ 64) × FitFrom (suc n) records

-- The record that bytes begin with.

abbrev pub has_mark : ℕ → Bool
has_mark mark = nat_eq mark 1 || nat_eq mark 2

-- bytes begin with a record of this number or a greater one
abbrev pub begins_record : ℕ → List ℕ → Bool
begins_record next [] = false
begins_record next (mark ∷ bytes) =
    has_mark mark && (nat_le next (number_told bytes) && nat_le (16 + number_told (drop 8 bytes)) (length bytes))

abbrev pub first_number : List ℕ → ℕ
first_number bytes = number_told (drop 1 bytes)

abbrev pub first_length : List ℕ → ℕ
first_length bytes = number_told (drop 9 bytes)

abbrev pub is_settled : List ℕ → Bool
is_settled [] = false
is_settled (mark ∷ bytes) = nat_eq mark 2

abbrev pub first_record : List ℕ → Record
first_record bytes = (take (first_length bytes) (drop 17 bytes), is_settled bytes)

-- The records of bytes. A byte that begins no record is passed over: it is of a lost one. Numbers that are left out are
-- those of lost records.
abbrev pub scanned : ℕ → ℕ → List ℕ → List Found
scanned zero next bytes = []
scanned (suc fuel) next bytes =
    if begins_record next bytes
    then replicate (first_number bytes - next) None
    ++ (Some (first_record bytes) ∷ scanned fuel (suc (first_number bytes)) (drop (17 + first_length bytes) bytes))
    else scanned fuel next (drop 1 bytes)

-- those with numbers from one on
unfoldable pub found_from : ℕ → List ℕ → List Found
found_from next bytes = scanned (length bytes) next bytes

-- bytes are so many packed records
pub record IsPacked (count : ℕ) (bytes : List ℕ) : Type 0 where
  pub records : List Record
  pub is : bytes ≡ packed records
  pub counted : length records ≡ count
  pub fit : FitFrom 0 records
