-- What a wrapper's handles never answer.
use Rattle.std.specs.Prelude.{◌≡◌, ◌≢◌, ℕ, ◌+◌, ◌≤◌, Bool, true, false, List, [], ◌∷◌, length, Option, Some, None, is_some, MatchBool}
use Rattle.std.proofs.Common.{inl, inr, refl, arith}
use Rattle.std.proofs.lemmas.Bool.{false≢true}
use Rattle.rand_core.specs.Stream.{Stream}
use Rattle.blob_header.specs.Refusals.{Refusal, OffsetOverflow, Memory}
use Rattle.blob_model.specs.Runs.{runs}
use Rattle.blob_draws.specs.declared.config.Config.{Config}
use Rattle.blob_draws.specs.Changes.{lacks_number}
use Rattle.blob_draws.specs.Answers.{Allowed, or_memory, injected_or, injected_for, exhausted_or, allows_runs, allows_fate, allows_write}
use Rattle.blob_draws.specs.Fates.{has_uncounted_end}
use Rattle.blob_draws.specs.Faults.{WriteFate, Done, Unsynced, Failed, drawn_fate, retention}

-- if the inner store may return no more, neither may the wrapper
pub injected_alike : (drawn : Bool) (inner wider : Allowed) (answer : Option Refusal) → (inner answer → wider answer) → injected_or drawn inner answer → injected_or drawn wider answer
injected_alike true inner wider answer more a = a
injected_alike false inner wider answer more a = more a

-- a write with a failed sync doesn't return Ok
pub injected_none : (inner : Allowed) → injected_for inner None → ⊥
injected_none inner (inl a) = cc
injected_none inner (inr a) = false≢true a.0

pub numbered_none : (lacks : Bool) (inner : Allowed) → (inner None → ⊥) → exhausted_or lacks inner None → ⊥
numbered_none true inner never a = cc
numbered_none false inner never a = never a

-- a SYNC write that the inner store doesn't answer Ok
pub fate_none : (fate : WriteFate) (writes : ℕ → List ℕ → Bool → Allowed) (reserves : ℕ → Allowed) (direct retained : Bool) (next offset : ℕ) (bytes : List ℕ) → (writes offset bytes true None → ⊥) → allows_fate fate writes reserves direct retained next true offset bytes None → ⊥
fate_none Done writes reserves direct retained next offset bytes never a = never a
fate_none Unsynced writes reserves direct retained next offset bytes never a = numbered_none (lacks_number retained next bytes) (injected_for (writes offset bytes false)) (injected_none (writes offset bytes false)) a
fate_none (Failed kept) writes reserves direct retained next offset bytes never a = injected_none (allows_runs writes reserves direct (runs offset bytes kept)) a
fate_none fate writes reserves direct retained next offset bytes never a = a

pub memory_none : (inner : Allowed) → (inner None → ⊥) → or_memory inner None → ⊥
memory_none inner never (inl a) = cc
memory_none inner never (inr a) = never a

pub uncounted_none : (uncounted : Bool) (inner : Allowed) → (inner None → ⊥) → MatchBool uncounted (◌≡◌ {A = Option Refusal} None (Some OffsetOverflow)) (inner None) → ⊥
uncounted_none true inner never a = cc
uncounted_none false inner never a = never a

-- the same, by the draws
pub write_none : (writes : ℕ → List ℕ → Bool → Allowed) (reserves : ℕ → Allowed) (direct : Bool) (config : Config) (next : ℕ) (stream : Stream) (offset : ℕ) (bytes : List ℕ) → bytes ≢ [] →
    (writes offset bytes true None → ⊥) → allows_write writes reserves direct config next stream offset bytes true None → ⊥
unfolding allows_write
write_none writes reserves direct config next stream offset [] some never a = some refl
write_none writes reserves direct config next stream offset (b ∷ bytes) some never a =
    uncounted_none (has_uncounted_end offset (b ∷ bytes)) (or_memory (allows_fate (drawn_fate config true offset (length (b ∷ bytes)) stream).0 writes reserves direct (is_some (retention config.write_rate)) next true offset (b ∷ bytes)))
    (memory_none (allows_fate (drawn_fate config true offset (length (b ∷ bytes)) stream).0 writes reserves direct (is_some (retention config.write_rate)) next true offset (b ∷ bytes))
    (fate_none (drawn_fate config true offset (length (b ∷ bytes)) stream).0 writes reserves direct (is_some (retention config.write_rate)) next offset (b ∷ bytes) never))
    a

-- an empty SYNC write returns Ok
pub write_empty : (writes : ℕ → List ℕ → Bool → Allowed) (reserves : ℕ → Allowed) (direct : Bool) (config : Config) (next : ℕ) (stream : Stream) (offset : ℕ) (bytes : List ℕ) → offset + length bytes ≤ 0 →
    allows_write writes reserves direct config next stream offset bytes true (Some Memory) → ⊥
unfolding allows_write
write_empty writes reserves direct config next stream offset [] fits a = cc
write_empty writes reserves direct config next stream offset (b ∷ bytes) fits a = absurd (omega arith)
