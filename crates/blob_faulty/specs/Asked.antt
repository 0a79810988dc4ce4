-- The calls that a wrapper's write or resize makes on its inner blob, by its drawn outcome.
use Rattle.std.specs.Prelude.{◌≡◌, ◌⊎◌, ℕ, Bool, true, false, List, [], ◌∷◌, map, length, Option, Some, None, IsSome, MatchBool}
use Rattle.rand_core.specs.Stream.{Stream}
use Rattle.blob_base.specs.HandleCalls.{HandleCall, Write, Resize, Reserve}
use Rattle.blob_base.specs.declared.storage.Blob as handles
use Rattle.blob_header.specs.Refusals.{Refusal, WriteFailed}
use Rattle.blob_model.specs.Live.{is_idle}
use Rattle.blob_model.specs.Runs.{Run, runs}
use Rattle.blob_draws.specs.declared.config.Config.{Config}
use Rattle.blob_draws.specs.Answers.{Allowed, injected_for, last_end}
use Rattle.blob_draws.specs.Fates.{has_uncounted_end}
use Rattle.blob_draws.specs.Faults.{WriteFate, Done, Unsynced, Failed, ResizeFate, Resizes, Stays, Reaches, drawn_fate}
use Rattle.blob_faulty.specs.declared.blob.Blob.{Blob}
use Rattle.blob_faulty.specs.declared.storage.Storage.{Storage}
use Rattle.blob_faulty.specs.Wrapper.{inner_of, inside}

-- one call and then others
pub record Then {B S : Type 0} (first others : B → S → Type 0) : Type 0 where
  pub blob : B
  pub store : S
  pub done : first blob store
  pub behind : others blob store

-- these calls were made in order, up to the first error, which is the result
abbrev pub Made : {B S : Type 0} → (HandleCall → B → S → Option Refusal → B → S → Type 0) → List HandleCall → Option Refusal → B → S → B → S → Type 0
Made leaves [] answer b s c t = (answer ≡ None) × (c ≡ b) × (t ≡ s)
Made leaves (call ∷ calls) answer b s c t = (IsSome answer × leaves call b s answer c t) ⊎ Then (leaves call b s None) (λ x y. Made leaves calls answer x y c t)

-- a SYNC write for each run
abbrev pub run_calls : List Run → List HandleCall
run_calls rs = map (λ r. Write r.0 r.1 true) rs

-- a reservation up to the last one's end
abbrev pub reserve_call : List Run → HandleCall
reserve_call rs = Reserve (last_end 0 rs)

-- the reservation, and then the writes
abbrev pub kept_calls : List Run → List HandleCall
kept_calls [] = []
kept_calls (r ∷ rs) = reserve_call (r ∷ rs) ∷ run_calls (r ∷ rs)

-- some error is possible
pub record Refuses (inner : Allowed) : Type 0 where
  pub refusal : Refusal
  pub is : inner (Some refusal)

-- an error may be returned as WriteFailed
abbrev pub or_failed : Allowed → Allowed
or_failed inner answer = inner answer ⊎ ((answer ≡ Some WriteFailed) × Refuses inner)

-- a SYNC write was done for each run of the first list, in order, and then the first run of the second was rejected
abbrev pub RefusedBehind : {B S : Type 0} → (HandleCall → B → S → Option Refusal → B → S → Type 0) → List Run → List Run → B → S → B → S → Type 0
RefusedBehind leaves front [] b s c t = ⊥
RefusedBehind leaves front (r ∷ left) b s c t = Then (Made leaves (run_calls front) None b s) (λ x y. Refuses (λ answer. leaves (Write r.0 r.1 true) x y answer c t))

-- which calls a write makes; `made` says of calls that these were made, with this result
abbrev pub write_calls : (List HandleCall → Allowed) → WriteFate → Bool → ℕ → List ℕ → Allowed
write_calls made Done sync offset bytes answer = made (Write offset bytes sync ∷ []) answer
write_calls made Unsynced sync offset bytes answer = injected_for (made (Write offset bytes false ∷ [])) answer
write_calls made (Failed kept) sync offset bytes answer = injected_for (or_failed (made (kept_calls (runs offset bytes kept)))) answer
write_calls made fate sync offset bytes answer = made [] answer

-- and a resize
abbrev pub resize_calls : (List HandleCall → Allowed) → ResizeFate → ℕ → Allowed
resize_calls made (Resizes survives) len answer = made (Resize len ∷ []) answer
resize_calls made Stays len answer = injected_for (made []) answer
resize_calls made (Reaches size) len answer = injected_for (made (Resize size ∷ [])) answer

-- the resize to the drawn length was made, and succeeded
abbrev pub reached_by : (List HandleCall → Allowed) → ResizeFate → Type 0
reached_by made (Reaches size) = made (Resize size ∷ []) None
reached_by made fate = ⊥

-- Of a handle and its wrapper before a call and after it.

module _ {S R O B : Type 0} (handle : handles.Ghosts B S O) (b : Blob B) (before : Storage S R O) (c : Blob B) (after : Storage S R O) where
  -- the inner blob was asked these
  abbrev pub InnerMade : List HandleCall → Allowed
  InnerMade calls answer = Made handle.leaves calls answer (inside b) (inner_of before) (inside c) (inner_of after)

  -- the inner blob did the first list's runs and rejected the second's first; `InRoom`: with capacity for all reserved
  abbrev pub InnerRefused : List Run → List Run → Type 0
  InnerRefused front left = RefusedBehind handle.leaves front left (inside b) (inner_of before) (inside c) (inner_of after)

  abbrev pub InnerRefusedInRoom : List Run → List Run → List Run → Type 0
  InnerRefusedInRoom rs front left = Then (handle.leaves (Reserve (last_end 0 rs)) (inside b) (inner_of before) None) (λ x y. RefusedBehind handle.leaves front left x y (inside c) (inner_of after))

  -- the call was refused before the inner blob was asked
  abbrev pub Unasked : Allowed
  Unasked answer = IsSome answer × (inside c ≡ inside b) × (inner_of after ≡ inner_of before)

  abbrev pub Asks : HandleCall → Allowed
  Asks call answer = Unasked answer ⊎ handle.leaves call (inside b) (inner_of before) answer (inside c) (inner_of after)

  abbrev pub AsksLaid : List Run → Allowed
  AsksLaid rs answer = or_failed (InnerMade (run_calls rs)) answer

  abbrev pub AsksRuns : List Run → Allowed
  AsksRuns rs answer = Unasked answer ⊎ or_failed (InnerMade (kept_calls rs)) answer

  abbrev pub AsksWrite : WriteFate → Bool → ℕ → List ℕ → Allowed
  AsksWrite fate sync offset bytes answer = Unasked answer ⊎ write_calls InnerMade fate sync offset bytes answer

  abbrev pub AsksResize : ResizeFate → ℕ → Allowed
  AsksResize fate len answer = Unasked answer ⊎ resize_calls InnerMade fate len answer

  abbrev pub InnerReached : ResizeFate → Type 0
  InnerReached fate = reached_by InnerMade fate

  -- by the draws: one that does nothing, and one with an overflowing end, make no call
  abbrev pub AsksDrawn : Config → Stream → Bool → ℕ → List ℕ → Allowed
  AsksDrawn config stream sync offset bytes answer =
      MatchBool (is_idle sync bytes) (InnerMade [] answer) (MatchBool (has_uncounted_end offset bytes) (Unasked answer)
      (AsksWrite (drawn_fate config sync offset (length bytes) stream).0 sync offset bytes answer))
