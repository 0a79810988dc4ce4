-- What a SYNC write that returns Ok records: itself, whole.
use Rattle.std.proofs.Common.{◌≡◌, inl, inr, ℕ, List, [], ◌∷◌, Bool, true, false, Option, Some, None, refl, length, if◌then◌else◌}
use Rattle.std.specs.Prelude.{is_some, MatchBool}
use Rattle.std.proofs.lemmas.Bool.{false≢true}
use Rattle.rand_core.specs.Stream.{Stream}
use Rattle.blob_model.specs.Log.{Kept}
use Rattle.blob_model.specs.declared.mode.PartialWriteMode.{PartialWriteMode}
use Rattle.blob_model.specs.Rates.{Rate}
use Rattle.blob_header.specs.Refusals.{OffsetOverflow}
use Rattle.blob_model.specs.Runs.{runs}
use Rattle.blob_draws.specs.declared.config.Config.{Config}
use Rattle.blob_draws.specs.Changes.{lacks_number, write_changes}
use Rattle.blob_draws.specs.Answers.{Allowed, allows_write, allows_fate, allows_runs, or_memory, exhausted_or, injected_for}
use Rattle.blob_draws.specs.Fates.{has_uncounted_end}
use Rattle.blob_draws.specs.Faults.{WriteFate, Uncounted, Done, Unsynced, Failed, drawn_fate, retention}
use Rattle.blob_draws.specs.Recorded.{kept_entries, recorded_write}

-- an Ok is no fault in place of one
no_fault : (inner : Allowed) → injected_for inner None → ⊥
no_fault inner (inl h) = let e = h.0 in cc
no_fault inner (inr h) = absurd (false≢true h.0)

no_numbered : (b : Bool) (inner : Allowed) → exhausted_or b (injected_for inner) None → ⊥
no_numbered true inner e = cc
no_numbered false inner h = no_fault inner h

module _ (writes : ℕ → List ℕ → Bool → Allowed) (reserves : ℕ → Allowed) (direct : Bool) where
  by_fate : (t : Bool) (drawn : WriteFate × Stream) (left : Stream) (retained : Bool) (rate : Option (PartialWriteMode × Rate)) (next at y : ℕ) (ys : List ℕ)
      → MatchBool t (None ≡ Some OffsetOverflow) (or_memory (allows_fate drawn.0 writes reserves direct retained next true at (y ∷ ys)) None)
      → (write_changes (if t then (Uncounted, left) else drawn).0 rate true at (y ∷ ys) None).entries next ≡ Kept at (y ∷ ys) ∷ []
  by_fate true drawn left retained rate next at y ys h = cc
  by_fate false (Done, s) left retained rate next at y ys h = refl
  by_fate false (Unsynced, s) left retained rate next at y ys (inl e) = cc
  by_fate false (Unsynced, s) left retained rate next at y ys (inr h) = absurd (no_numbered (lacks_number retained next (y ∷ ys)) (writes at (y ∷ ys) false) h)
  by_fate false (Failed chosen, s) left retained rate next at y ys (inl e) = cc
  by_fate false (Failed chosen, s) left retained rate next at y ys (inr h) = absurd (no_fault (allows_runs writes reserves direct (runs at (y ∷ ys) chosen)) h)
  by_fate false (fate, s) left retained rate next at y ys (inl e) = cc
  by_fate false (fate, s) left retained rate next at y ys (inr h) = absurd h

  pub recorded_whole : (config : Config) (next : ℕ) (stream : Stream) (at : ℕ) (bytes : List ℕ)
      → allows_write writes reserves direct config next stream at bytes true None
      → recorded_write config next stream true at bytes None ≡ kept_entries at bytes
  unfolding allows_write
  recorded_whole config next stream at [] h = refl
  recorded_whole config next stream at (y ∷ ys) h =
      by_fate (has_uncounted_end at (y ∷ ys)) (drawn_fate config true at (length (y ∷ ys)) stream) stream (is_some (retention config.write_rate)) (retention config.write_rate) next at y ys h
