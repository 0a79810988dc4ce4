-- Errors that come only if memory, the numbers of 64 bits or the numbers of blobs run out.
use Rattle.std.specs.Prelude.{◌≡◌, ◌==◌, ◌&&◌, ◌-◌, ◌^◌, not, ℕ, List, Bool, false, true, Option, None, Some, Result}
use Rattle.blob_model.specs.Directory.{Directory, File, Incarnation, Raw}
use Rattle.blob_header.specs.Refusals.{BlobMissing, GenerationsExhausted, Memory, OffsetOverflow, PartitionMissing, Refusal, error_of}
use Rattle.blob_header.specs.declared.error.Error.{Error}
use Rattle.blob_draws.specs.declared.config.Config.{Config}
use Rattle.blob_memory.specs.Store.{directory}
use Rattle.blob_faulty.specs.Keeps.{OverMemory}
use Rattle.blob_faulty.specs.Wrapper.{config_of, inner_of}

-- by the number of the next blob: no error, or one of these. The last number is given to no blob
abbrev pub IsLimit : ℕ → Option Refusal → Type 0
IsLimit next None = Unit {0}
IsLimit next (Some Memory) = Unit {0}
IsLimit next (Some OffsetOverflow) = Unit {0}
IsLimit next (Some GenerationsExhausted) = next ≡ 2 ^ 64 - 1
IsLimit next (Some refusal) = ⊥

-- a result that isn't Ok has one of them, by the store after the call
abbrev pub FailsAtLimits : {R T : Type 0} → OverMemory R → Result T Error → Type 0
FailsAtLimits store r = IsLimit (directory (inner_of store)).next (error_of r)

-- a removal was refused since there is no such blob
abbrev pub is_missing : Option Refusal → Bool
is_missing (Some (BlobMissing partition name)) = true
is_missing (Some (PartitionMissing partition)) = true
is_missing answer = false

-- a removal returned Ok, or memory ran out, or there is no such blob
abbrev pub IsRemoval : Option Refusal → Type 0
IsRemoval None = Unit {0}
IsRemoval (Some Memory) = Unit {0}
IsRemoval (Some (BlobMissing partition name)) = Unit {0}
IsRemoval (Some (PartitionMissing partition)) = Unit {0}
IsRemoval (Some refusal) = ⊥

-- an open for version 0 accepts the file, and its number isn't the last one
abbrev pub is_accepted : Option File → Bool
is_accepted None = true
is_accepted (Some (Raw raw)) = false
is_accepted (Some (Incarnation number layout version)) = (version == 0) && not (number == 2 ^ 64 - 1)

-- so it is of each file
abbrev pub AcceptsOpens : Directory → Type 0
AcceptsOpens d = (p n : List ℕ) → is_accepted (d.file p n) ≡ true

-- if it was so, it still is
abbrev pub KeepsAccepted : {R : Type 0} → OverMemory R → OverMemory R → Type 0
KeepsAccepted before after = AcceptsOpens (directory (inner_of before)) → AcceptsOpens (directory (inner_of after))

-- no rate is set
abbrev pub no_faults : Config
no_faults = record { open_rate = None; read_rate = None; write_rate = None; sync_rate = None; resize_rate = None; remove_rate = None; scan_rate = None }

-- no call fails by a draw
abbrev pub DrawsNothing : {R : Type 0} → OverMemory R → Type 0
DrawsNothing store = config_of store ≡ no_faults

-- and an open for version 0 accepts each file
abbrev pub OpensQuietly : {R : Type 0} → OverMemory R → Type 0
OpensQuietly store = DrawsNothing store × AcceptsOpens (directory (inner_of store))

-- the rates are the same
abbrev pub SameFaults : {R : Type 0} → OverMemory R → OverMemory R → Type 0
SameFaults before after = config_of after ≡ config_of before
