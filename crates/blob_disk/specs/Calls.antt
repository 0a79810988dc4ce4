-- A disk, seen as its bytes, its draws and its counts, and what its calls leave.
use Rattle.std.specs.Prelude.{◌≡◌, ◌⊎◌, ℕ, Bool, List, Option, Result}
use Rattle.std.specs.declared.io.Error.{Error as io_error}
use Rattle.rand_core.specs.Stream.{Stream}
use Rattle.rand_core.specs.declared.Rng.{Ghosts}
use Rattle.blob_header.specs.declared.error.Error.{Error}
use Rattle.blob_faulty.specs.Keeps.{OverMemory}
use Rattle.blob_faulty.specs.OverMemory.{MayReadInto}
use Rattle.blob_faulty.specs.Wrapper.{rng_of}
use Rattle.blob_header.specs.Refusals.{Refusal}
use Rattle.sqlite_disk.specs.Disk.{Follows}
use Rattle.sqlite_disk.specs.declared.tally.Tally.{Tally}
use Rattle.blob_disk.specs.declared.BlobDisk.{BlobDisk}
use Rattle.blob_disk.specs.Drawn.{rates_of}
use Rattle.blob_disk.specs.Answers.{IsCaught, TellsBy}
use Rattle.blob_disk.specs.Outcomes.{Opened, Leads, durable_at, live_of, outcomes}

abbrev pub blob_of : {R : Type 0} {g : Ghosts R} → BlobDisk R g → Opened
blob_of d = d.blob

abbrev pub store_of : {R : Type 0} {g : Ghosts R} → BlobDisk R g → OverMemory R
store_of d = d.store

-- the bytes that a read returns
abbrev pub seen_of : {R : Type 0} {g : Ghosts R} → BlobDisk R g → List ℕ
seen_of d = live_of d.blob

-- the bytes that are durable
abbrev pub durable_of : {R : Type 0} {g : Ghosts R} → BlobDisk R g → Option (List ℕ)
durable_of d = durable_at d.blob d.store

-- what a crash may leave
abbrev pub outcomes_of : {R : Type 0} {g : Ghosts R} → BlobDisk R g → List ℕ → Type 0
outcomes_of d = outcomes d.blob d.store

-- the words that the next draws take
abbrev pub stream_of : {R : Type 0} {g : Ghosts R} → (R → Stream) → BlobDisk R g → Stream
stream_of stream d = stream (rng_of d.store)

abbrev pub is_usable_of : {R : Type 0} {g : Ghosts R} → BlobDisk R g → Bool
is_usable_of d = d.usable

abbrev pub faults_of : {R : Type 0} {g : Ghosts R} → BlobDisk R g → ℕ
faults_of d = d.faults

abbrev pub caught_of : {R : Type 0} {g : Ghosts R} → BlobDisk R g → ℕ
caught_of d = d.caught

abbrev pub counts_of : {R : Type 0} {g : Ghosts R} → BlobDisk R g → Tally
counts_of d = record { caught = d.caught; refused = 0 }

-- the answer of the last crash
abbrev pub crash_of : {R : Type 0} {g : Ghosts R} → BlobDisk R g → Result (Unit {0}) Error
crash_of d = d.crashed

-- the rates of its faults, and whether it says that it is mixing
pub record KeepsSettings {R : Type 0} {g : Ghosts R} (d d' : BlobDisk R g) : Type 0 where
  pub rates : rates_of d' ≡ rates_of d
  pub mixing : d'.is_mixing ≡ d.is_mixing

-- no byte changes, none becomes durable, and a crash may leave what it might have left before
pub record KeepsBytes {R : Type 0} {g : Ghosts R} (d d' : BlobDisk R g) : Type 0 where
  pub seen : seen_of d' ≡ seen_of d
  pub durable : durable_of d' ≡ durable_of d
  pub no_more : (c : List ℕ) → outcomes_of d' c → outcomes_of d c
  pub no_fewer : (c : List ℕ) → outcomes_of d c → outcomes_of d' c

-- each outcome of a crash is one before with this step done, and each one before leads to one
pub record StepsBytes {R : Type 0} {g : Ghosts R} (step : List ℕ → List ℕ → Type 0) (d d' : BlobDisk R g) : Type 0 where
  pub seen : step (seen_of d) (seen_of d')
  pub follows : Follows step (outcomes_of d) (outcomes_of d')
  pub leads : Leads step (outcomes_of d) (outcomes_of d')

-- what the wrapper may answer to a call on a handle
abbrev pub Allowed : Type 0 → Type 1
Allowed R = Opened → OverMemory R → Option Refusal → Type 0

abbrev pub MayRead : {R : Type 0} → (R → Stream) → ℕ → ℕ → Allowed R
MayRead stream at len b w = MayReadInto stream b w at len

-- a result that reports what the wrapper may return to the disk's handle
abbrev pub TellsCall : {R T : Type 0} {g : Ghosts R} → Allowed R → BlobDisk R g → Result T io_error → Type 0
TellsCall allowed d result = TellsBy (allowed d.blob d.store) result

-- a tested read: reported as a read and not counted as caught, or caught
abbrev pub TellsTested : {R T : Type 0} {g : Ghosts R} → Allowed R → ℕ → ℕ → List ℕ → Result T io_error → BlobDisk R g → BlobDisk R g → Type 0
TellsTested allowed key want bytes result d d' =
    (TellsCall allowed d result × (caught_of d' ≡ caught_of d))
    ⊎ IsCaught (allowed d.blob d.store) key want bytes result (caught_of d) (caught_of d')
