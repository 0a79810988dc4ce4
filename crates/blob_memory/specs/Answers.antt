-- The error that each call returns at a state: the first that applies, or None for Ok.
use Rattle.std.specs.Prelude.{◌≡◌, ◌⊎◌, ℕ, ◌+◌, ◌-◌, ◌^◌, ◌==◌, nat_lt, nat_le, Bool, not, ◌&&◌, ◌||◌, if◌then◌else◌, List, length, Option, Some, None, is_none, IsTrue}
use Rattle.std.specs.Option.{option_or}
use Rattle.hex.specs.Hex.{encode_lower}
use Rattle.blob_model.specs.Directory.{Directory, is_current}
use Rattle.blob_model.specs.Live.{is_idle}
use Rattle.blob_model.specs.Opening.{Opening, Continues, Begins, Declines, opening}
use Rattle.blob_header.specs.PartitionName.{is_partition_name}
use Rattle.blob_model.specs.Places.{Place}
use Rattle.blob_header.specs.Refusals.{Refusal, OffsetOverflow, BlobInsufficientLength, PartitionNameInvalid, PartitionMissing, BlobMissing, GenerationsExhausted, Memory, refused_if}

-- a physical offset that doesn't fit in 64 bits
abbrev pub is_uncounted : ℕ → Bool
is_uncounted offset = nat_lt (2 ^ 64 - 1) offset

-- the error of a call for an incarnation that isn't current
abbrev pub missing : Place → Refusal
missing o = BlobMissing o.partition (encode_lower o.name)

-- of a read
abbrev pub read_refusal : Place → List ℕ → ℕ → ℕ → Option Refusal
read_refusal o live offset len =
    if is_uncounted (offset + o.start + len) then Some OffsetOverflow
    else refused_if BlobInsufficientLength (nat_lt (length live) (offset + len))

-- of a write
abbrev pub write_refusal : Directory → Place → ℕ → List ℕ → Bool → Option Refusal
write_refusal d o offset bytes sync =
    if is_idle sync bytes then None
    else if is_uncounted (offset + o.start + length bytes) then Some OffsetOverflow
    else refused_if (missing o) (sync && not (is_current d o))

-- of a resize to a logical length, and of a reservation up to a logical end
abbrev pub end_refusal : Place → ℕ → Option Refusal
end_refusal o end = refused_if OffsetOverflow (is_uncounted (end + o.start))

-- of a sync, and of a started one
abbrev pub sync_refusal : Directory → Place → Option Refusal
sync_refusal d o = if is_current d o then None else Some (missing o)

-- of an open, by what it finds and the next incarnation's number
abbrev pub opening_refusal : Opening → ℕ → Option Refusal
opening_refusal (Continues number layout version) next = None
opening_refusal (Begins layout version live) next = refused_if GenerationsExhausted (next == 2 ^ 64 - 1)
opening_refusal (Declines refusal) next = Some refusal

-- of an open
abbrev pub open_refusal : Directory → List ℕ → List ℕ → ℕ → ℕ → Option Refusal
open_refusal d p n first last =
    if not (is_partition_name p) then Some (PartitionNameInvalid p) else opening_refusal (opening p n (d.file p n) first last) d.next

-- of a scan, and of the removal of a partition
abbrev pub partition_refusal : Directory → List ℕ → Option Refusal
partition_refusal d p =
    if not (is_partition_name p) then Some (PartitionNameInvalid p) else refused_if (PartitionMissing p) (not (d.has_partition p))

-- of a removal: the same, then a name without a file
abbrev pub remove_refusal : Directory → List ℕ → Option (List ℕ) → Option Refusal
remove_refusal d p None = partition_refusal d p
remove_refusal d p (Some n) = option_or (partition_refusal d p) (refused_if (BlobMissing p (encode_lower n)) (is_none (d.file p n)))

-- a call that allocates returns the expected result, or `Memory`
abbrev pub OrMemory : Option Refusal → Option Refusal → Type 0
OrMemory expected answer = (answer ≡ Some Memory) ⊎ (answer ≡ expected)

-- whether a write may allocate, by the capacity for a SYNC write and for a plain one. An idle write never allocates. Nor does
-- a write within the capacity: a plain one by any handle, a SYNC write by a current handle
abbrev pub write_may_grow : Directory → Place → (Bool → ℕ) → ℕ → List ℕ → Bool → Bool
write_may_grow d o room offset bytes sync = not (is_idle sync bytes || ((not sync || is_current d o) && nat_le (offset + length bytes) (room sync)))

-- a write may return this error, or Ok with None
abbrev pub AllowsWrite : Directory → Place → (Bool → ℕ) → ℕ → List ℕ → Bool → Option Refusal → Type 0
AllowsWrite d o room offset bytes sync answer =
    ((answer ≡ Some Memory) × IsTrue (write_may_grow d o room offset bytes sync)) ⊎ (answer ≡ write_refusal d o offset bytes sync)

-- of an incarnation that begins, by the next number
abbrev pub number_refusal : ℕ → Option Refusal
number_refusal next = if next == 2 ^ 64 - 1 then Some GenerationsExhausted else None
