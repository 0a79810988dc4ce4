-- The effect of a SYNC write that returned Ok.
use Rattle.std.proofs.Common.{◌≡◌, ℕ, ◌+◌, ◌<◌, max, List, [], ◌∷◌, Bool, true, false, Option, Some, None, refl, sym, ap, ◌∙◌, length, arith, ⊎_elim, if◌then◌else◌}
use Rattle.std.specs.Prelude.{is_some, option_map}
use Rattle.blob_draws.specs.declared.config.Config.{Config}
use Rattle.blob_model.specs.declared.mode.PartialWriteMode.{PartialWriteMode}
use Rattle.blob_model.specs.Rates.{Rate}
use Rattle.std.proofs.lemmas.Bool.{false≢true}
use Rattle.std.proofs.lemmas.Option.{none-some}
use Rattle.rand_core.specs.Stream.{Stream}
use Rattle.std.specs.Option.{option_or}
use Rattle.blob_model.specs.Bytes.{write_live}
use Rattle.blob_model.specs.Directory.{Directory}
use Rattle.blob_model.specs.Log.{Kept}
use Rattle.blob_model.specs.Places.{Place}
use Rattle.blob_header.specs.Refusals.{Refusal, Memory, GenerationsExhausted}
use Rattle.blob_model.specs.Runs.{runs}
use Rattle.blob_draws.specs.Changes.{lacks_number, write_changes}
use Rattle.blob_draws.specs.Fates.{has_uncounted_end}
use Rattle.blob_draws.specs.Faults.{WriteFate, Idle, Uncounted, Done, Unsynced, Failed, draw, failure, drawn_fate, write_fate, retention}
use Rattle.blob_draws.specs.Recorded.{recorded_write, live_of_write, size_of_write}
use Rattle.blob_script.specs.declared.reply.Reply.{Reply}
use Rattle.blob_script.specs.Acts.{Write}
use Rattle.blob_lab_model.specs.Answers.{IsAnswer, through}
use Rattle.blob_lab_model.specs.Steps.{write_denial_by, write_denial, or_injected}
use Rattle.blob_lab_model.specs.Denials.{refused_if, runs_denial}
use Rattle.blob_lab_model.specs.States.{State, Held}
use Rattle.blob_script.specs.Told as told
use Rattle.blob_script.specs.Told.{refused_by}
use Rattle.blob_lab_model.proofs.ToldRefusals.{denied}

-- a drawn outcome isn't that of a write that does nothing
abbrev is_nothing : WriteFate → Bool
is_nothing Idle = true
is_nothing fate = false

failed_some : (kept : Option (PartialWriteMode × Rate)) (offset len : ℕ) (stream : Stream) → is_nothing (failure kept offset len stream).0 ≡ false
failed_some None offset len stream = refl
failed_some (Some k) offset len stream = refl

drawn_some : (config : Config) (sync : Bool) (offset len : ℕ) (stream : Stream) → is_nothing (drawn_fate config sync offset len stream).0 ≡ false
drawn_some config sync offset len stream = go d.0 sync (draw config.sync_rate d.1).0
  where
    d : Bool × Stream
    d = draw (option_map (λ c. c.failure_rate) config.write_rate) stream

    go : (fails s unsynced : Bool)
        → is_nothing (if fails then failure (retention config.write_rate) offset len d.1 else if s then (if unsynced then Unsynced else Done, (draw config.sync_rate d.1).1) else (Done, d.1)).0 ≡ false
    go true s unsynced = failed_some (retention config.write_rate) offset len d.1
    go false true true = refl
    go false true false = refl
    go false false unsynced = refl

-- why it has no other outcome
done_fate : (fate : WriteFate) (d : Directory) (o : Place) (retained : Bool) (next : ℕ) (offset : ℕ) (bytes : List ℕ) → is_nothing fate ≡ false → write_denial_by fate d o retained next true offset bytes ≡ None → fate ≡ Done
done_fate Idle d o retained next offset bytes some free = absurd (false≢true (sym some))
done_fate Uncounted d o retained next offset bytes some free = cc
done_fate Done d o retained next offset bytes some free = refl
done_fate Unsynced d o retained next offset bytes some free = absurd (never (refused_if GenerationsExhausted (lacks_number retained next bytes)) _ free) where
  never : (first later : Option Refusal) → option_or first (or_injected later) ≡ None → ⊥
  never None None e = cc
  never None (Some r) e = cc
  never (Some r) later e = cc
done_fate (Failed chosen) d o retained next offset bytes some free = absurd (never (runs offset bytes chosen) free) where
  failed_so : (later : Option Refusal) → or_injected later ≡ None → ⊥
  failed_so None e = cc
  failed_so (Some r) e = cc

  never : (rs : List (ℕ × List ℕ)) → runs_denial d o rs ≡ None → ⊥
  never [] e = cc
  never (r ∷ rs) e = failed_so _ e

-- the outcome of a write that is applied
abbrev pub IsDone : State → ℕ → List ℕ → Type 0
IsDone v offset bytes = (write_fate v.config true offset bytes v.stream).0 ≡ Done

pub was_done : (v : State) (h : Held) (offset : ℕ) (bytes : List ℕ) → 0 < length bytes → write_denial v h offset bytes true ≡ None → IsDone v offset bytes
was_done v h offset [] long free = absurd (omega arith)
was_done v h offset (y ∷ ys) long free =
    done_fate (write_fate v.config true offset (y ∷ ys) v.stream).0 v.files.directory h.place (is_some (retention v.config.write_rate)) v.files.next_write offset (y ∷ ys)
    (some (has_uncounted_end offset (y ∷ ys))) free
  where
    some : (t : Bool) → is_nothing (if t then (Uncounted, v.stream) else drawn_fate v.config true offset (length (y ∷ ys)) v.stream).0 ≡ false
    some true = refl
    some false = drawn_some v.config true offset (length (y ∷ ys)) v.stream

module _ (v : State) (h : Held) (offset : ℕ) (bytes : List ℕ) (done : IsDone v offset bytes) where
  pub kept_whole : recorded_write v.config v.files.next_write v.stream true offset bytes None ≡ Kept offset bytes ∷ []
  kept_whole = ap (λ (f : WriteFate). (write_changes f (retention v.config.write_rate) true offset bytes None).entries v.files.next_write) done

  pub live_whole : live_of_write v.config v.stream true h.live offset bytes None ≡ write_live h.live offset bytes
  live_whole = ap (λ (f : WriteFate). (write_changes f (retention v.config.write_rate) true offset bytes None).live h.live) done

  pub size_whole : size_of_write v.config v.stream true h.size offset bytes None ≡ max h.size (offset + length bytes)
  size_whole = ap (λ (f : WriteFate). (write_changes f (retention v.config.write_rate) true offset bytes None).size h.size) done

-- a write that returned Ok has no error
pub write_free : (v : State) (h : Held) (offset : ℕ) (bytes : List ℕ) (answered : Reply) (left : Stream) → IsAnswer true (through v (Some h) (Write offset bytes true)) answered left → refused_by answered ≡ None → write_denial v h offset bytes true ≡ None
write_free v h offset bytes answered left answers done = ⊎_elim
    (λ memory. absurd (none-some Memory (sym done ∙ memory.1)))
    (λ tells. sym (denied answered (write_denial v h offset bytes true) told.Done refl tells.0) ∙ done)
    answers
