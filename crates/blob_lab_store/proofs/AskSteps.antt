-- What is asked of a handle, from what the wrapper promises of its own call.
use Rattle.std.proofs.Common.{◌≡◌, ℕ, ◌<◌, List, true, Option, Some, None, refl, sym, ◌∙◌, subst, take, drop}
use Rattle.std.specs.Option.{option_or}
use Rattle.blob_model.specs.Directory.{Directory}
use Rattle.blob_model.specs.Durable.{Durable}
use Rattle.blob_model.specs.Files.{Files}
use Rattle.blob_model.specs.Pending.{Pending}
use Rattle.blob_model.specs.Places.{Place}
use Rattle.blob_header.specs.Refusals.{Refusal, refusal_of, Injected}
use Rattle.blob_model.specs.Stands as base
use Rattle.blob_header.specs.declared.error.Error.{Error}
use Rattle.blob_draws.specs.Answers.{injected_or}
use Rattle.blob_draws.specs.Faults.{draw}
use Rattle.blob_faulty.specs.Wrapper.{KeepsRecords, config_of, inner_of as store_of, pending_of, next_write_of, next_marker_of}
use Rattle.blob_memory.specs.Answers.{OrMemory, read_refusal}
use Rattle.blob_memory.specs.Store.{directory, durable}
use Rattle.blob_script.specs.declared.reply.Reply.{Reply}
use Rattle.blob_script.specs.declared.reply.Reply.TheVariants.{Failed}
use Rattle.blob_script.specs.Acts.{Ask, Read}
use Rattle.blob_lab_model.specs.After.{files_after, held_after}
use Rattle.blob_lab_model.specs.Answers.{IsAnswer, through}
use Rattle.blob_lab_model.specs.Denials.{refused_if}
use Rattle.blob_lab_store.specs.LabStands.{Wrapper, Wraps, PerformsAsk, stream_of}
use Rattle.blob_faulty.specs.Keeps.{IsFor}
use Rattle.blob_lab_model.specs.States.{State, Held}
use Rattle.blob_script.specs.Told as told
use Rattle.blob_script.specs.Told.{Tells, refused_by}
use Rattle.blob_lab_model.proofs.Denying.{drawn_denial, not_memory}
use Rattle.blob_lab_model.proofs.Telling.{done_answers, failed_answers}

-- a handle that is seen as before
pub held_same : (h h' : Held) → h'.place ≡ h.place → h'.live ≡ h.live → h'.size ≡ h.size → h'.registration ≡ h.registration → h ≡ h'
held_same h h' p l s r = sym (λ i. record { place = p i; live = l i; size = s i; registration = r i })

-- all that a store stands by
abbrev Parts : Type 0
Parts = Directory × Durable × (Place → List Pending) × ℕ × ℕ

abbrev StandsBy : Files → Parts → Type 0
StandsBy f p = base.StandsFor p.0 p.1 p.2 p.3 p.4 f

-- a call that records nothing and leaves the store's files
pub stands_kept : (w w' : Wrapper) (f : Files) → directory (store_of w') ≡ directory (store_of w) → durable (store_of w') ≡ durable (store_of w) → KeepsRecords (λ o. o) w w' → IsFor w f → IsFor w' f
stands_kept w w' f names bytes kept s =
    let before : Parts = (directory (store_of w), durable (store_of w), pending_of (λ o. o) w, next_write_of w, next_marker_of w) in
    let after : Parts = (directory (store_of w'), durable (store_of w'), pending_of (λ o. o) w', next_write_of w', next_marker_of w') in
    let same : after ≡ before = λ i. (names i, bytes i, (λ o. kept.pending o i), kept.numbers.next_write i, kept.numbers.next_marker i) in
    subst (StandsBy f) (sym same) s

-- a state with the configuration and the stream of a wrapper
abbrev pub as_of : Wrapper → State → State
as_of w v = record v { config = config_of w; stream = stream_of w }

pub as_seen : (w : Wrapper) (v : State) → Wraps w v → as_of w v ≡ v
as_seen w v u i = record v { config = u.config i; stream = u.stream i }

module _ (w w' : Wrapper) (h h' : Held) (ask : Ask) (reply : Reply) where
  -- only the wrapper's configuration and stream matter
  pub asks_by : ((v : State) → Wraps w (as_of w v) → IsAnswer true (through (as_of w v) (Some h) ask) reply (stream_of w'))
      → ((v : State) → Wraps w (as_of w v) → h.place.number < v.files.directory.next → IsFor w' (files_after (as_of w v) h ask (refused_by reply)))
      → ((v : State) → h' ≡ held_after (as_of w v) h ask (refused_by reply))
      → config_of w' ≡ config_of w → PerformsAsk w h ask reply w' h'
  asks_by a s held config = record {
    answers = λ v u. subst (λ (x : State). IsAnswer true (through x (Some h) ask) reply (stream_of w')) (as_seen w v u) (a v (subst (Wraps w) (sym (as_seen w v u)) u));
    stands = λ v u below. record {
      files = subst (λ (x : State). IsFor w' (files_after x h ask (refused_by reply))) (as_seen w v u) (s v (subst (Wraps w) (sym (as_seen w v u)) u) below);
      config = config ∙ u.config;
      stream = refl;
    };
    held = λ v u. subst (λ (x : State). h' ≡ held_after x h ask (refused_by reply)) (as_seen w v u) (held v);
  }

-- A read.

module _ (w w' : Wrapper) (h : Held) (offset len : ℕ)
    (stream : stream_of w' ≡ (draw (config_of w).read_rate (stream_of w)).1)
    (names : directory (store_of w') ≡ directory (store_of w)) (bytes : durable (store_of w') ≡ durable (store_of w)) (kept : KeepsRecords (λ o. o) w w') where
  abbrev allowed : Option Refusal → Type 0
  allowed answer = injected_or (draw (config_of w).read_rate (stream_of w)).0 (OrMemory (read_refusal h.place h.live offset len)) answer

  abbrev denial : Option Refusal
  denial = option_or (refused_if Injected (draw (config_of w).read_rate (stream_of w)).0) (read_refusal h.place h.live offset len)

  denied : (answer : Option Refusal) → allowed answer → OrMemory denial answer
  denied answer a = drawn_denial (draw (config_of w).read_rate (stream_of w)).0 (OrMemory (read_refusal h.place h.live offset len)) (read_refusal h.place h.live offset len) (λ answer' m. m) answer a

  pub read_done : (reply : Reply) → refused_by reply ≡ None → Tells reply (told.Bytes (take len (drop offset h.live))) → allowed None → PerformsAsk w h (Read offset len) reply w' h
  read_done reply done tells a = asks_by w w' h h (Read offset len) reply
      (λ v u. done_answers reply denial (told.Bytes (take len (drop offset h.live))) (stream_of w') ((draw (config_of w).read_rate (stream_of w)).1) tells (not_memory denial (denied None a)) stream)
      (λ v u below. stands_kept w w' v.files names bytes kept u.files)
      (λ v. refl) kept.numbers.config

  pub read_failed : (e : Error) → allowed (Some (refusal_of e)) → PerformsAsk w h (Read offset len) (Failed e) w' h
  read_failed e a = asks_by w w' h h (Read offset len) (Failed e)
      (λ v u. failed_answers e denial (told.Bytes (take len (drop offset h.live))) (stream_of w') ((draw (config_of w).read_rate (stream_of w)).1) (denied (Some (refusal_of e)) a) (λ no. stream))
      (λ v u below. stands_kept w w' v.files names bytes kept u.files)
      (λ v. refl) kept.numbers.config
