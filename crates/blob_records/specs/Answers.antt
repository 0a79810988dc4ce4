-- What the calls may return: an error, or None for Ok.
use Rattle.std.specs.Prelude.{◌≡◌, ℕ, ◌+◌, ◌*◌, ◌^◌, ◌≤◌, min, false, List, length, Option, Some, None}
use Rattle.rand_core.specs.Stream.{Stream}
use Rattle.blob_header.specs.Refusals.{Refusal, Memory, OffsetOverflow}
use Rattle.blob_draws.specs.Answers.{Allowed, injected_or, one_then}
use Rattle.blob_draws.specs.Faults.{draw}
use Rattle.blob_faulty.specs.Allowed.{MayWrite}
use Rattle.blob_faulty.specs.Keeps.{OverMemory}
use Rattle.blob_faulty.specs.OverMemory.{memory_handle}
use Rattle.blob_faulty.specs.Wrapper.{inner_of, rng_of, config_of, inside}
use Rattle.blob_memory.specs.Answers.{OrMemory, end_refusal, open_refusal}
use Rattle.blob_memory.specs.Store.{directory, live, place}
use Rattle.blob_records.specs.declared.records.Records.{Records}

pub data MayPut {R : Type 0} (stream : R → Stream) (r : Records) (w : OverMemory R) (index : ℕ) (bytes : List ℕ) : Option Refusal → Type 0 where
  -- the slot begins past 64 bits
  Uncounted : 2 ^ 64 ≤ index * r.len → MayPut stream r w index bytes (Some OffsetOverflow)
  -- the plain write of the slot returned this
  Asked : (answer : Option Refusal) → MayWrite memory_handle r.blob w stream (index * r.len) bytes false answer → MayPut stream r w index bytes answer

-- a sync: by its draw, and then by the memory store
abbrev pub MaySync : {R : Type 0} → (R → Stream) → Records → OverMemory R → Allowed
MaySync stream r w = injected_or (draw (config_of w).sync_rate (stream (rng_of w))).0 (memory_handle.allows_sync (inside r.blob) (inner_of w))

pub data MayGet {R : Type 0} (stream : R → Stream) (r : Records) (w : OverMemory R) (index : ℕ) : Option Refusal → Type 0 where
  -- the slot begins past 64 bits
  Uncounted : 2 ^ 64 ≤ index * r.len → MayGet stream r w index (Some OffsetOverflow)
  OutOfMemory : MayGet stream r w index (Some Memory)
  -- a read up to the end of the slot or of the blob, by its draw
  Asked : (answer : Option Refusal) → injected_or (draw (config_of w).read_rate (stream (rng_of w))).0 (λ it. it ≡ end_refusal (place (inside r.blob)) (min (length (live (inside r.blob))) (index * r.len + r.len))) answer
      → MayGet stream r w index answer

-- an open by its draw, and after Ok a sync by the next
abbrev pub MayRecover : {R : Type 0} → (R → Stream) → OverMemory R → List ℕ → List ℕ → Allowed
MayRecover stream w p n =
    let opened = draw (config_of w).open_rate (stream (rng_of w)) in
    one_then (injected_or opened.0 (OrMemory (open_refusal (directory (inner_of w)) p n 0 0))) (injected_or (draw (config_of w).sync_rate opened.1).0 (OrMemory None))
