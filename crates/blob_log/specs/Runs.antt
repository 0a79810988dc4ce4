-- How sessions of a log ran: over which wrappers, which records they were asked for, and a crash after each.
use Rattle.std.specs.Prelude.{◌≡◌, ◌≢◌, List, [], ◌∷◌, ℕ, Bool, true, false, Option, Some, None, is_none, Vec}
use Rattle.std.specs.Global.{Global}
use Rattle.rand_core.specs.Stream.{Stream}
use Rattle.blob_header.specs.Refusals.{Refusal, Memory}
use Rattle.blob_model.specs.Draws.{draw_rows, chosen_by}
use Rattle.blob_model.specs.Files.{Files, all_needs, after_crash}
use Rattle.blob_faulty.specs.Admitted.{OpensAdmitted}
use Rattle.blob_faulty.specs.Answers.{Allowed, allows_write}
use Rattle.blob_faulty.specs.Keeps.{OverMemory, IsFor}
use Rattle.blob_faulty.specs.OverMemory.{memory_handle}
use Rattle.blob_faulty.specs.Wrapper.{inner_of, inside, rng_of, config_of, next_write_of}
use Rattle.blob_faulty.specs.declared.blob.Blob.{Blob}
use Rattle.blob_memory.specs.Store.{durable}
use Rattle.blob_memory.specs.declared.blob.Blob as memory_blob
use Rattle.blob_draws.specs.declared.config.Config.{Config}
use Rattle.blob_log.specs.declared.log.Log.{Log}
use Rattle.blob_log.specs.declared.sessions.Session.{Session}
use Rattle.blob_log.specs.Held.{HoldsRecords, log_blob, log_end, record_bytes}
use Rattle.blob_log.specs.Leaves.{AppendsFrame, TriesFrame}
use Rattle.blob_log.specs.Refused.{MayAppend}

-- what the writes of the log's blob may answer
abbrev pub may_write : {R : Type 0} → (R → Stream) → Blob memory_blob.Blob → OverMemory R → ℕ → List ℕ → Bool → Allowed
may_write stream b w = allows_write (memory_handle.allows_write (inside b) (inner_of w)) (memory_handle.allows_reserve (inside b) (inner_of w)) memory_handle.is_direct (config_of w) (next_write_of w) (stream (rng_of w))

-- what an append of a record may answer
abbrev pub MayAppendTo : {R : Type 0} → (R → Stream) → Log → OverMemory R → List ℕ → Option Refusal → Type 0
MayAppendTo stream log w entry = MayAppend (log_end log) entry (may_write stream (log_blob log) w)

-- an append that didn't run out of memory; `done` says whether it returned Ok
pub record Appends {R : Type 0} (stream : R → Stream) (log : Log) (w : OverMemory R) (entry : List ℕ) (done : Bool) (log' : Log) (w' : OverMemory R) : Type 0 where
  pub answer : Option Refusal
  pub is : done ≡ is_none answer
  pub memory : answer ≢ Some Memory
  pub may : MayAppendTo stream log w entry answer
  pub appended : done ≡ true → AppendsFrame log entry w w'
  pub failed : done ≡ false → TriesFrame log entry w w'
  pub config : config_of w' ≡ config_of w

-- appends of these records, one after the other, with these results
abbrev pub AppendsAll : {R : Type 0} → (R → Stream) → Log → OverMemory R → List (List ℕ) → List Bool → Log → OverMemory R → Type 0
AppendsAll {R} stream log w [] [] log' w' = (log' ≡ log) × (w' ≡ w)
AppendsAll {R} stream log w (entry ∷ entries) (done ∷ answers) log' w' =
    (l : Log) × (v : OverMemory R) × Appends stream log w entry done l v × AppendsAll stream l v entries answers log' w'
AppendsAll {R} stream log w entries answers log' w' = ⊥

abbrev pub AppendsEach : {R : Type 0} → (R → Stream) → Log → OverMemory R → List (Vec ℕ Global) → Log → OverMemory R → Vec Bool Global → Type 0
AppendsEach stream log w entries log' w' answers = AppendsAll stream log w (record_bytes entries) answers.items log' w'

-- an open of the log that is admitted, and the records that it finds
pub record Recovers {R : Type 0} (w : OverMemory R) (p n : List ℕ) (log : Log) (found : List (List ℕ)) (w' : OverMemory R) : Type 0 where
  pub opened : OpensAdmitted w w' p n 0 0
  pub held : (files : Files) → IsFor w files → HoldsRecords log w' found
  pub config : config_of w' ≡ config_of w

-- a crash: it draws a row for each write that it may lose, and the rows decide what is left
pub record Crashes {R : Type 0} (stream : R → Stream) (w w' : OverMemory R) : Type 0 where
  pub left : (files : Files) → IsFor w files → IsFor w' (after_crash files (chosen_by (draw_rows (stream (rng_of w)) (all_needs files.log)).0))
  pub drawn : (files : Files) → IsFor w files → stream (rng_of w') ≡ (draw_rows (stream (rng_of w)) (all_needs files.log)).1
  pub config : config_of w' ≡ config_of w

-- a session of an open log: its appends, a crash, and the recovery after it
pub record SessionRuns {R : Type 0} (stream : R → Stream) (p n : List ℕ) (log : Log) (w : OverMemory R) (answers : List Bool) (entries : List (List ℕ)) (log' : Log) (found : List (List ℕ)) (w' : OverMemory R) : Type 0 where
  pub last : Log
  pub written : OverMemory R
  pub crashed : OverMemory R
  pub appends : AppendsAll stream log w entries answers last written
  pub crashes : Crashes stream written crashed
  pub recovers : Recovers crashed p n log' found w'

-- these sessions, one after the other, each with the records that it was asked for, and what each found before
abbrev pub AllRun : {R : Type 0} → (R → Stream) → List ℕ → List ℕ → Log → List (List ℕ) → OverMemory R → List Session → List (Vec (Vec ℕ Global) Global) → Log → List (List ℕ) → OverMemory R → Type 0
AllRun {R} stream p n log before w [] [] log' after w' = (log' ≡ log) × (after ≡ before) × (w' ≡ w)
AllRun {R} stream p n log before w (s ∷ sessions) (entries ∷ asked) log' after w' =
    (l : Log) × (found : List (List ℕ)) × (v : OverMemory R) × (record_bytes s.before.items ≡ before)
    × SessionRuns stream p n log w s.answers.items (record_bytes entries.items) l found v × AllRun stream p n l found v sessions asked log' after w'
AllRun {R} stream p n log before w sessions asked log' after w' = ⊥

-- from a first recovery on
pub record RunTo {R : Type 0} (stream : R → Stream) (p n : List ℕ) (w : OverMemory R) (sessions : List Session) (asked : List (Vec (Vec ℕ Global) Global)) (log' : Log) (after : List (List ℕ)) (w' : OverMemory R) : Type 0 where
  pub log : Log
  pub before : List (List ℕ)
  pub opened : OverMemory R
  pub recovers : Recovers w p n log before opened
  pub ran : AllRun stream p n log before opened sessions asked log' after w'

-- over this wrapper, which ends as that one
abbrev pub SessionsRun : {R : Type 0} → (R → Stream) → List ℕ → List ℕ → OverMemory R → List Session → List (Vec (Vec ℕ Global) Global) → List (List ℕ) → OverMemory R → Type 0
SessionsRun stream p n w sessions asked after w' = (log : Log) × RunTo stream p n w sessions asked log after w'

-- over a new wrapper of an empty store, with this generator and this configuration
pub record RunAnew {R : Type 0} (stream : R → Stream) (p n : List ℕ) (rng : R) (config : Config) (sessions : List Session) (asked : List (Vec (Vec ℕ Global) Global)) (after : List (List ℕ)) : Type 0 where
  pub began : OverMemory R
  pub ended : OverMemory R
  pub draws : rng_of began ≡ rng
  pub configured : config_of began ≡ config
  pub nothing : durable (inner_of began) ≡ (λ _. None)
  pub ran : SessionsRun stream p n began sessions asked after ended

-- the same, by what a run returns: the sessions, and the records that are found in the end
abbrev pub Ran : Type 0
Ran = Vec Session Global × Vec (Vec ℕ Global) Global

abbrev pub RunsSessions : {R : Type 0} → (R → Stream) → List ℕ → List ℕ → OverMemory R → List (Vec (Vec ℕ Global) Global) → OverMemory R → Ran → Type 0
RunsSessions stream p n w asked w' ran = SessionsRun stream p n w ran.0.items asked (record_bytes ran.1.items) w'

abbrev pub RunsAnew : {R : Type 0} → (R → Stream) → List ℕ → List ℕ → R → Config → List (Vec (Vec ℕ Global) Global) → Ran → Type 0
RunsAnew stream p n rng config asked ran = RunAnew stream p n rng config ran.0.items asked (record_bytes ran.1.items)
