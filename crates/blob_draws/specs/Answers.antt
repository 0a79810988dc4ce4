-- What a wrapper's calls may return, given the draws and what the inner store's calls may return.
use Rattle.std.specs.Prelude.{◌≡◌, ◌≢◌, ◌⊎◌, ℕ, ◌+◌, ◌-◌, ◌^◌, Bool, true, false, List, [], ◌∷◌, length, Option, Some, None, is_some, IsSome, MatchBool, ◌==◌}
use Rattle.rand_core.specs.Stream.{Stream}
use Rattle.blob_model.specs.Live.{is_idle}
use Rattle.blob_header.specs.Refusals.{Refusal, Memory, Injected, OffsetOverflow, WriteFailed, GenerationsExhausted}
use Rattle.blob_model.specs.Runs.{Run, runs}
use Rattle.blob_draws.specs.declared.config.Config.{Config}
use Rattle.blob_draws.specs.Changes.{lacks_number}
use Rattle.blob_draws.specs.Fates.{has_uncounted_end}
use Rattle.blob_draws.specs.Faults.{WriteFate, Done, Unsynced, Failed, ResizeFate, Resizes, Stays, Reaches, drawn_fate, retention}

-- the results that a call may return: a refusal, or none for Ok
abbrev pub Allowed : Type 1
Allowed = Option Refusal → Type 0

-- Injected if the draw is true, otherwise what the inner store allows
abbrev pub injected_or : Bool → Allowed → Allowed
injected_or true inner answer = answer ≡ Some Injected
injected_or false inner answer = inner answer

-- injected in place of Ok; a refusal of the inner store stays
abbrev pub injected_for : Allowed → Allowed
injected_for inner answer = ((answer ≡ Some Injected) × inner None) ⊎ (IsSome answer × inner answer)

-- the call allocates for itself
abbrev pub or_memory : Allowed → Allowed
or_memory inner answer = (answer ≡ Some Memory) ⊎ inner answer

abbrev pub exhausted_or : Bool → Allowed → Allowed
exhausted_or true inner answer = answer ≡ Some GenerationsExhausted
exhausted_or false inner answer = inner answer

-- one call and then another: what the first refuses is the answer
abbrev pub one_then : Allowed → Allowed → Allowed
one_then first second answer = (IsSome answer × first answer) ⊎ (first None × second answer)

-- the end of the last run, or that of what is before them
abbrev pub last_end : ℕ → List Run → ℕ
last_end before [] = before
last_end before (r ∷ rs) = last_end (r.0 + length r.1) rs

-- Runs are SYNC writes of the inner blob. An error of the first is returned as it is, an error of a later one as
-- WriteFailed. A store that injects nothing rejects no later one
abbrev pub allows_laid : (ℕ → List ℕ → Bool → Allowed) → Bool → List Run → Allowed
allows_laid writes direct [] answer = answer ≡ None
allows_laid writes direct (r ∷ rs) answer = writes r.0 r.1 true answer ⊎ ((answer ≡ Some WriteFailed) × (direct ≡ false) × (rs ≢ []) × writes r.0 r.1 true None)

-- before the first of them, capacity is reserved up to the last one's end
abbrev pub allows_runs : (ℕ → List ℕ → Bool → Allowed) → (ℕ → Allowed) → Bool → List Run → Allowed
allows_runs writes reserves direct [] answer = answer ≡ None
allows_runs writes reserves direct (r ∷ rs) answer = one_then (reserves (last_end 0 (r ∷ rs))) (allows_laid writes direct (r ∷ rs)) answer

abbrev pub allows_done : (ℕ → List ℕ → Bool → Allowed) → Bool → ℕ → Bool → ℕ → List ℕ → Allowed
allows_done writes retained next true offset bytes answer = writes offset bytes true answer
allows_done writes retained next false offset bytes answer = exhausted_or (lacks_number retained next bytes) (writes offset bytes false) answer

-- by a drawn outcome: there is no other
abbrev pub allows_fate : WriteFate → (ℕ → List ℕ → Bool → Allowed) → (ℕ → Allowed) → Bool → Bool → ℕ → Bool → ℕ → List ℕ → Allowed
allows_fate Done writes reserves direct retained next sync offset bytes answer = allows_done writes retained next sync offset bytes answer
allows_fate Unsynced writes reserves direct retained next sync offset bytes answer = exhausted_or (lacks_number retained next bytes) (injected_for (writes offset bytes false)) answer
allows_fate (Failed kept) writes reserves direct retained next sync offset bytes answer = injected_for (allows_runs writes reserves direct (runs offset bytes kept)) answer
allows_fate fate writes reserves direct retained next sync offset bytes answer = ⊥

-- `writes` and `reserves` are what the inner blob allows, `direct` whether it injects nothing
unfoldable pub allows_write : (ℕ → List ℕ → Bool → Allowed) → (ℕ → Allowed) → Bool → Config → ℕ → Stream → ℕ → List ℕ → Bool → Allowed
allows_write writes reserves direct config next stream offset bytes sync answer =
    MatchBool (is_idle sync bytes) (answer ≡ None) (MatchBool (has_uncounted_end offset bytes) (answer ≡ Some OffsetOverflow)
    (or_memory (allows_fate (drawn_fate config sync offset (length bytes) stream).0 writes reserves direct (is_some (retention config.write_rate)) next sync offset bytes) answer))

abbrev pub allows_resize : (ℕ → Allowed) → ResizeFate → ℕ → Allowed
allows_resize resizes (Resizes survives) len answer = or_memory (resizes len) answer
allows_resize resizes Stays len answer = answer ≡ Some Injected
allows_resize resizes (Reaches size) len answer = or_memory (injected_for (resizes size)) answer

-- a started sync takes a number for its marker
abbrev pub allows_start : Bool → ℕ → Allowed → Allowed
allows_start true next inner answer = answer ≡ Some Injected
allows_start false next inner answer = exhausted_or (next == 2 ^ 64 - 1) (or_memory inner) answer
