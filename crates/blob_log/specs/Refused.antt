-- What an append and a recovery of a log may answer: a refusal, or none for Ok.
use Rattle.std.specs.Prelude.{◌≡◌, ℕ, ◌+◌, ◌^◌, ◌≤◌, Bool, true, List, length, Option, Some, None}
use Rattle.rand_core.specs.Stream.{Stream}
use Rattle.blob_header.specs.Refusals.{Refusal, Memory, Injected, OffsetOverflow}
use Rattle.blob_faulty.specs.Answers.{Allowed, injected_or}
use Rattle.blob_faulty.specs.Faults.{draw}
use Rattle.blob_faulty.specs.Keeps.{OverMemory}
use Rattle.blob_faulty.specs.Wrapper.{inner_of, rng_of, config_of}
use Rattle.blob_memory.specs.Answers.{OrMemory, open_refusal}
use Rattle.blob_memory.specs.Store.{directory}
use Rattle.blob_log.specs.Frames.{frame}

-- an append of a record to a log that ends there, where `writes` is what the wrapper's writes of its blob may answer
pub data MayAppend (end : ℕ) (entry : List ℕ) (writes : ℕ → List ℕ → Bool → Allowed) : Option Refusal → Type 0 where
  -- four bytes don't hold the record's length
  TooLong : 2 ^ 32 ≤ length entry → MayAppend end entry writes (Some OffsetOverflow)
  -- the end of its frame doesn't fit in 64 bits
  Uncounted : 2 ^ 64 ≤ end + length (frame entry) → MayAppend end entry writes (Some OffsetOverflow)
  NoMemory : MayAppend end entry writes (Some Memory)
  -- the SYNC write of its frame returned this
  Asked : (answer : Option Refusal) → writes end (frame entry) true answer → MayAppend end entry writes answer

-- an open of the log's blob
abbrev pub opens : {R : Type 0} → (R → Stream) → OverMemory R → List ℕ → List ℕ → Allowed
opens stream w p n = injected_or (draw (config_of w).open_rate (stream (rng_of w))).0 (OrMemory (open_refusal (directory (inner_of w)) p n 0 0))

-- a recovery: refused as its open, by the draw of its read, or for memory
pub data MayRecover {R : Type 0} (stream : R → Stream) (w : OverMemory R) (p n : List ℕ) : Option Refusal → Type 0 where
  Opened : (answer : Option Refusal) → opens stream w p n answer → MayRecover stream w p n answer
  NotRead : opens stream w p n None → (draw (config_of w).read_rate (draw (config_of w).open_rate (stream (rng_of w))).1).0 ≡ true → MayRecover stream w p n (Some Injected)
  NoMemory : MayRecover stream w p n (Some Memory)

-- sessions: refused as one of their recoveries, or for memory, as a crash may be
pub data MayStop {R : Type 0} (stream : R → Stream) (p n : List ℕ) : Option Refusal → Type 0 where
  NotRecovered : (w : OverMemory R) (refusal : Refusal) → MayRecover stream w p n (Some refusal) → MayStop stream p n (Some refusal)
  NoMemory : MayStop stream p n (Some Memory)
  Done : MayStop stream p n None
