-- What a crash leaves of records: each whole, or lost if nothing settled it.
use Rattle.std.specs.Prelude.{◌≡◌, ℕ, suc, ◌<◌, Bool, true, false, not, ◌&&◌, ◌||◌, List, [], ◌∷◌, ◌++◌, length, take, drop, map, replicate, Some, None, if◌then◌else◌, nat_eq}
use Rattle.std.specs.Str.{bytes_eq}
use Rattle.blob_model.specs.Bytes.{overlay, overlay_by, write_live}
use Rattle.blob_packed.specs.Records.{FitFrom, Found, Record, found_from, packed, record_bytes}

-- its bytes, or zeros if nothing settled it, fewer if no record that was found is behind it
abbrev pub is_left : ℕ → Record → List ℕ → Bool
is_left n r found = bytes_eq found (record_bytes n r) || (not r.1 && bytes_eq found (replicate (length found) 0))

-- these bytes may be found of records with numbers from one on
abbrev pub may_be_left : ℕ → List Record → List ℕ → Bool
may_be_left n [] found = nat_eq (length found) 0
may_be_left n (r ∷ records) found =
    is_left n r (take (length (record_bytes n r)) found)
    && may_be_left (suc n) records (drop (length (record_bytes n r)) found)

-- a crash loses no settled record, and of the others those whose numbers it doesn't choose
abbrev pub after_loss : (ℕ → Bool) → ℕ → List Record → List Found
after_loss chosen n [] = []
after_loss chosen n (r ∷ records) = (if r.1 || chosen n then Some r else None) ∷ after_loss chosen (suc n) records

-- the records that bytes have are these, without lost ones; the last ones may be lost without a trace
pub record HasThese (records : List Record) (found : List ℕ) : Type 0 where
  pub chosen : ℕ → Bool
  pub last : ℕ
  pub is : found_from 0 found ++ replicate last None ≡ after_loss chosen 0 records

-- Laws of these.

-- packed records are found
abbrev pub PackedAreFound : Type 0
PackedAreFound = (records : List Record) → FitFrom 0 records → found_from 0 (packed records) ≡ map (λ r. Some r) records

-- without a crash nothing is lost
abbrev pub PackedIsLeft : Type 0
PackedIsLeft = (records : List Record) → may_be_left 0 records (packed records) ≡ true

-- bytes that may be found have the records that the crash didn't lose
abbrev pub LeftAreFound : Type 0
LeftAreFound = (records : List Record) (found : List ℕ) → FitFrom 0 records
    → may_be_left 0 records found ≡ true → HasThese records found

-- a write of one more record behind the others
abbrev pub OneMore : Type 0
OneMore = (records : List Record) (r : Record)
    → packed (records ++ r ∷ [])
    ≡ write_live (packed records) (length (packed records)) (record_bytes (length records) r)

-- a crash keeps it whole, or loses it
abbrev pub OneMoreIsLeft : Type 0
OneMoreIsLeft = (records : List Record) (bytes found : List ℕ) (chosen : ℕ → Bool)
    → ((i : ℕ) → i < length (record_bytes (length records) (bytes, false)) → chosen i ≡ chosen 0)
    → may_be_left 0 records found ≡ true
    → may_be_left 0 (records ++ (bytes, false) ∷ [])
    (overlay_by found (length (packed records)) (record_bytes (length records) (bytes, false)) chosen) ≡ true

-- a write of a record again, which is settled now
abbrev pub Settled : Type 0
Settled = (before after : List Record) (bytes : List ℕ) (was : Bool)
    → packed (before ++ (bytes, true) ∷ after)
    ≡ write_live (packed (before ++ (bytes, was) ∷ after)) (length (packed before))
    (record_bytes (length before) (bytes, true))

-- a crash keeps it, if the write is durable
abbrev pub SettledIsLeft : Type 0
SettledIsLeft = (before after : List Record) (bytes found : List ℕ) (was : Bool)
    → may_be_left 0 (before ++ (bytes, was) ∷ after) found ≡ true
    → may_be_left 0 (before ++ (bytes, true) ∷ after)
    (overlay found (length (packed before)) (record_bytes (length before) (bytes, true))) ≡ true
