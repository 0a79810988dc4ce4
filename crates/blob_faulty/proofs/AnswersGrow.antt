-- What a wrapper may answer grows with what its inner store may answer.
use Rattle.std.proofs.Common.{◌≡◌, inl, inr, ℕ, Bool, true, false, List, [], ◌∷◌, length, Option, Some, None}
use Rattle.std.specs.Prelude.{is_some, MatchBool}
use Rattle.rand_core.specs.Stream.{Stream}
use Rattle.blob_model.specs.Live.{is_idle}
use Rattle.blob_header.specs.Refusals.{Refusal, OffsetOverflow}
use Rattle.blob_model.specs.Runs.{Run, runs}
use Rattle.blob_draws.specs.declared.config.Config.{Config}
use Rattle.blob_draws.specs.Changes.{lacks_number}
use Rattle.blob_draws.specs.Answers.{Allowed, injected_for, or_memory, exhausted_or, last_end, allows_laid, allows_runs, allows_fate, allows_write}
use Rattle.blob_draws.specs.Fates.{has_uncounted_end}
use Rattle.blob_draws.specs.Faults.{WriteFate, Done, Unsynced, Failed, drawn_fate, retention}

more_injected : (less more : Allowed) → ((a : Option Refusal) → less a → more a) → (a : Option Refusal) → injected_for less a → injected_for more a
more_injected less more grow a (inl h) = inl (h.0, grow None h.1)
more_injected less more grow a (inr h) = inr (h.0, grow a h.1)

more_memory : (less more : Allowed) → ((a : Option Refusal) → less a → more a) → (a : Option Refusal) → or_memory less a → or_memory more a
more_memory less more grow a (inl h) = inl h
more_memory less more grow a (inr h) = inr (grow a h)

more_numbered : (lacks : Bool) (less more : Allowed) → ((a : Option Refusal) → less a → more a) → (a : Option Refusal) → exhausted_or lacks less a → exhausted_or lacks more a
more_numbered true less more grow a h = h
more_numbered false less more grow a h = grow a h

matched : (b : Bool) (A P Q : Type 0) → (P → Q) → MatchBool b A P → MatchBool b A Q
matched true A P Q f h = h
matched false A P Q f h = f h

module _ (writes writes' : ℕ → List ℕ → Bool → Allowed) (reserves reserves' : ℕ → Allowed)
    (more : (o : ℕ) (b : List ℕ) (s : Bool) (a : Option Refusal) → writes' o b s a → writes o b s a)
    (more_room : (end : ℕ) (a : Option Refusal) → reserves' end a → reserves end a) where
  more_laid : (direct : Bool) (rs : List Run) (a : Option Refusal) → allows_laid writes' direct rs a → allows_laid writes direct rs a
  more_laid direct [] a h = h
  more_laid direct (r ∷ rs) a (inl h) = inl (more r.0 r.1 true a h)
  more_laid direct (r ∷ rs) a (inr h) = inr (h.0, h.1, h.2, more r.0 r.1 true None h.3)

  more_runs : (direct : Bool) (rs : List Run) (a : Option Refusal) → allows_runs writes' reserves' direct rs a → allows_runs writes reserves direct rs a
  more_runs direct [] a h = h
  more_runs direct (r ∷ rs) a (inl h) = inl (h.0, more_room (last_end 0 (r ∷ rs)) a h.1)
  more_runs direct (r ∷ rs) a (inr h) = inr (more_room (last_end 0 (r ∷ rs)) None h.0, more_laid direct (r ∷ rs) a h.1)

  more_fate : (fate : WriteFate) (direct retained : Bool) (next : ℕ) (sync : Bool) (o : ℕ) (b : List ℕ) (a : Option Refusal) →
      allows_fate fate writes' reserves' direct retained next sync o b a → allows_fate fate writes reserves direct retained next sync o b a
  more_fate Done direct retained next true o b a h = more o b true a h
  more_fate Done direct retained next false o b a h = more_numbered (lacks_number retained next b) (writes' o b false) (writes o b false) (more o b false) a h
  more_fate Unsynced direct retained next sync o b a h =
      more_numbered (lacks_number retained next b) (injected_for (writes' o b false)) (injected_for (writes o b false)) (more_injected (writes' o b false) (writes o b false) (more o b false)) a h
  more_fate (Failed kept) direct retained next sync o b a h =
      more_injected (allows_runs writes' reserves' direct (runs o b kept)) (allows_runs writes reserves direct (runs o b kept)) (more_runs direct (runs o b kept)) a h
  more_fate fate direct retained next sync o b a h = absurd h

  pub more_write : (direct : Bool) (config : Config) (next : ℕ) (stream : Stream) (o : ℕ) (b : List ℕ) (sync : Bool) (a : Option Refusal) →
      allows_write writes' reserves' direct config next stream o b sync a → allows_write writes reserves direct config next stream o b sync a
  unfolding allows_write
  more_write direct config next stream o b sync a h = matched (is_idle sync b) (a ≡ None) _ _
      (matched (has_uncounted_end o b) (a ≡ Some OffsetOverflow) _ _
      (more_memory (allows_fate (drawn_fate config sync o (length b) stream).0 writes' reserves' direct (is_some (retention config.write_rate)) next sync o b)
      (allows_fate (drawn_fate config sync o (length b) stream).0 writes reserves direct (is_some (retention config.write_rate)) next sync o b)
      (more_fate (drawn_fate config sync o (length b) stream).0 direct (is_some (retention config.write_rate)) next sync o b) a)) h
