-- What a crash may leave of a file over the fault wrapper.
use Rattle.std.specs.Prelude.{◌≡◌, ◌⊎◌, ℕ, true, List, Option, Some, None, is_none, length, codes}
use Rattle.std.specs.Coded.{Coded-set, coded_ℕ, Unit-prop}
use Rattle.blob_model.specs.Directory.{current}
use Rattle.blob_model.specs.Files.{Files}
use Rattle.blob_model.specs.Log.{Choices}
use Rattle.blob_model.specs.Pending.{Pending}
use Rattle.blob_model.specs.Rates.{Rate}
use Rattle.blob_model.specs.Stands.{replayed_at}
use Rattle.blob_faulty.specs.Certain.{IsNever, partial_resizes}
use Rattle.blob_faulty.specs.Keeps.{OverMemory}
use Rattle.blob_faulty.specs.Wrapper.{Stands, inner_of, config_of, pending_of, inside, size_of}
use Rattle.blob_faulty.specs.declared.blob.Blob as faulty_blob
use Rattle.blob_memory.specs.Answers.{open_refusal}
use Rattle.blob_memory.specs.Store.{directory, durable, live, place}
use Rattle.blob_memory.specs.declared.blob.Blob as memory_blob

-- a handle on a blob of a wrapper over a memory store
abbrev pub Opened : Type 0
Opened = faulty_blob.Blob memory_blob.Blob

-- the bytes that a read of a handle returns
abbrev pub live_of : Opened → List ℕ
live_of b = live (inside b)

-- the durable bytes of the blob that a handle is on, and what is pending for it
abbrev pub durable_at : {R : Type 0} → Opened → OverMemory R → Option (List ℕ)
durable_at b w = durable (inner_of w) (place (inside b))

abbrev pub pending_at : {R : Type 0} → Opened → OverMemory R → List Pending
pending_at b w = pending_of (λ o. o) w (place (inside b))

-- all that was written, as when only the process dies, or what some choices keep of what is pending
abbrev pub MayLeave : List ℕ → List Pending → Option (List ℕ) → List ℕ → Type 0
MayLeave live pending durable c = (c ≡ live) ⊎ ((t : Choices) × (replayed_at t pending durable ≡ Some c))

-- what a crash of the machine leaves of the blob that a handle is on, by some choices
abbrev pub IsDrawn : {R : Type 0} → Opened → OverMemory R → List ℕ → Type 0
IsDrawn b w c = (t : Choices) × (replayed_at t (pending_at b w) (durable_at b w) ≡ Some c)

-- or of the process alone
abbrev pub outcomes : {R : Type 0} → Opened → OverMemory R → List ℕ → Type 0
outcomes b w = MayLeave (live_of b) (pending_at b w) (durable_at b w)

-- the wrapper represents some files
abbrev pub IsStanding : {R : Type 0} → OverMemory R → Type 0
IsStanding w = ∥ ((files : Files) × Stands (λ o. o) (directory (inner_of w)) (durable (inner_of w)) w files) ∥₁

-- the size that the handle tracks is that of its live bytes
abbrev pub IsTracked : Opened → Type 0
IsTracked b = size_of b ≡ length (live_of b)

-- the handle is on the current incarnation of the disk's name
abbrev pub IsCurrent : {R : Type 0} → Opened → OverMemory R → Type 0
IsCurrent b w = current (directory (inner_of w)) (codes "disk") (codes "0") ≡ Some (place (inside b))

-- the memory store opens the disk's name again, unless memory runs out
abbrev pub IsOpenable : {R : Type 0} → OverMemory R → Type 0
IsOpenable w = is_none (open_refusal (directory (inner_of w)) (codes "disk") (codes "0") 0 0) ≡ true

-- no resize fails in part
abbrev pub IsWhole : {R : Type 0} → OverMemory R → Type 0
IsWhole w = IsNever (partial_resizes (config_of w).resize_rate)

never_prop : (rate : Option Rate) → IsProp (IsNever rate)
never_prop None = Unit-prop
never_prop (Some rate) = Coded-set coded_ℕ rate.numerator 0

pub whole_prop : {R : Type 0} (w : OverMemory R) → IsProp (IsWhole w)
whole_prop w = never_prop (partial_resizes (config_of w).resize_rate)

-- a handle on the file's blob, which is current
pub record IsFile {R : Type 0} (b : Opened) (w : OverMemory R) : Type 0 where
  pub standing : IsStanding w
  pub tracked : IsTracked b
  pub here : IsCurrent b w
  pub whole : IsWhole w

-- what a call leaves as it was
pub record LeavesDisk {R : Type 0} (b : Opened) (w : OverMemory R) (b' : Opened) (w' : OverMemory R) : Type 0 where
  pub standing : IsStanding w → IsStanding w'
  pub tracked : IsTracked b → IsTracked b'
  pub directory : directory (inner_of w') ≡ directory (inner_of w)
  pub place : place (inside b') ≡ place (inside b)
  pub config : config_of w' ≡ config_of w
  pub here : IsCurrent b w → IsCurrent b' w'
  pub openable : IsOpenable w → IsOpenable w'
  pub whole : IsWhole w → IsWhole w'

-- each old outcome of a crash leads to a new one by a step: no more than that was made durable
abbrev pub Leads : (List ℕ → List ℕ → Type 0) → (List ℕ → Type 0) → (List ℕ → Type 0) → Type 0
Leads step old new = (c : List ℕ) → old c → (d : List ℕ) × new d × step c d

-- nothing of the blob became durable, and a crash may leave the same as before
pub record KeepsOutcomes {R : Type 0} (b : Opened) (w : OverMemory R) (b' : Opened) (w' : OverMemory R) : Type 0 where
  pub durable : durable_at b' w' ≡ durable_at b w
  pub no_more : (c : List ℕ) → outcomes b' w' c → outcomes b w c
  pub no_fewer : (c : List ℕ) → outcomes b w c → outcomes b' w' c
