-- What is asked of a handle by a sync, from what the wrapper promises of it.
use Rattle.std.proofs.Common.{◌≡◌, ◌≢◌, ℕ, ◌<◌, ◌-◌, ◌^◌, ◌==◌, ◌++◌, inr, inl, List, [], ◌∷◌, Bool, true, false, Option, Some, None, refl, sym, ap, ◌∙◌, subst, length, ⊎_elim}
use Rattle.std.specs.Prelude.{IsSome}
use Rattle.std.specs.Option.{option_or}
use Rattle.blob_model.specs.Directory.{Directory}
use Rattle.blob_model.specs.Files.{Files, start_sync, publish}
use Rattle.blob_header.specs.Refusals.{Refusal, Memory, refusal_of, GenerationsExhausted, Injected}
use Rattle.blob_header.specs.declared.error.Error.{Error}
use Rattle.blob_draws.specs.Answers.{injected_or, or_memory, allows_start}
use Rattle.blob_draws.specs.Faults.{draw}
use Rattle.blob_faulty.specs.Wrapper.{Stands, KeepsRecords, config_of, inner_of as store_of, next_marker_of}
use Rattle.blob_memory.specs.Answers.{OrMemory, sync_refusal}
use Rattle.blob_memory.specs.Store.{directory, durable}
use Rattle.blob_script.specs.declared.reply.Reply.{Reply}
use Rattle.blob_script.specs.declared.reply.Reply.TheVariants.{Done, Failed, Started}
use Rattle.blob_script.specs.Acts.{Sync}
use Rattle.blob_lab_model.specs.Steps.{files_after_start, sync_denial}
use Rattle.blob_lab_model.specs.Denials.{refused_if, start_denial}
use Rattle.blob_lab_store.specs.LabStands.{Wrapper, Wraps, PerformsAsk, StartsSync, stream_of}
use Rattle.blob_faulty.specs.Keeps.{IsFor}
use Rattle.blob_lab_model.specs.States as states
use Rattle.blob_lab_model.specs.States.{State, Held}
use Rattle.blob_script.specs.Told as told
use Rattle.blob_lab_store.proofs.AskSteps.{as_of, as_seen, asks_by, stands_kept}
use Rattle.blob_lab_model.proofs.Denying.{drawn_denial, numbered_denial, memory_denial, not_memory}
use Rattle.blob_lab_model.proofs.Telling.{done_answers, failed_answers}

module _ (w w' : Wrapper) (h : Held) (names : directory (store_of w') ≡ directory (store_of w)) (config : config_of w' ≡ config_of w)
    (stream : stream_of w' ≡ (draw (config_of w).sync_rate (stream_of w)).1) where
  abbrev drawn : Bool
  drawn = (draw (config_of w).sync_rate (stream_of w)).0

  abbrev denial : Directory → Option Refusal
  denial d = option_or (refused_if Injected drawn) (sync_refusal d h.place)

  abbrev allowed : Option Refusal → Type 0
  allowed answer = injected_or drawn (OrMemory (sync_refusal (directory (store_of w)) h.place)) answer

  denied : (answer : Option Refusal) → allowed answer → OrMemory (denial (directory (store_of w))) answer
  denied answer a = drawn_denial drawn (OrMemory (sync_refusal (directory (store_of w)) h.place)) (sync_refusal (directory (store_of w)) h.place) (λ answer' m. m) answer a

  seen : (v : State) → Wraps w (as_of w v) → denial (directory (store_of w)) ≡ sync_denial (as_of w v) h
  seen v u i = denial (u.files.directory i)

  pub sync_done : allowed None → ((f : Files) → IsFor w f → Stands (λ o. o) (directory (store_of w)) (durable (store_of w')) w' (publish f h.place h.live)) → PerformsAsk w h Sync Done w' h
  sync_done a publishes = asks_by w w' h h Sync Done
      (λ v u. done_answers Done (sync_denial (as_of w v) h) told.Done (stream_of w') ((draw (config_of w).sync_rate (stream_of w)).1) tt (not_memory (denial (directory (store_of w))) (denied None a) ∙ seen v u) stream)
      (λ v u below. subst (λ (d : Directory). Stands (λ o. o) d (durable (store_of w')) w' (publish v.files h.place h.live)) (sym names) (publishes v.files u.files))
      (λ v. refl) config

  pub sync_failed : (e : Error) → allowed (Some (refusal_of e)) → durable (store_of w') ≡ durable (store_of w) → KeepsRecords (λ o. o) w w' → PerformsAsk w h Sync (Failed e) w' h
  sync_failed e a bytes kept = asks_by w w' h h Sync (Failed e)
      (λ v u. failed_answers e (sync_denial (as_of w v) h) told.Done (stream_of w') ((draw (config_of w).sync_rate (stream_of w)).1) (subst (λ (x : Option Refusal). OrMemory x (Some (refusal_of e))) (seen v u) (denied (Some (refusal_of e)) a)) (λ no. stream))
      (λ v u below. stands_kept w w' v.files names bytes kept u.files)
      (λ v. refl) config

-- A started sync.

start_denied : (b : Bool) (next : ℕ) (expected answer : Option Refusal) → allows_start b next (OrMemory expected) answer → OrMemory (option_or (refused_if Injected b) (option_or (refused_if GenerationsExhausted (next == 2 ^ 64 - 1)) expected)) answer
start_denied true next expected answer a = inr a
start_denied false next expected answer a = numbered_denial (next == 2 ^ 64 - 1) (or_memory (OrMemory expected)) expected (memory_denial (OrMemory expected) expected (λ answer' m. m)) answer a

module _ (w w' : Wrapper) (h : Held) (syncs : List (Option states.Started)) (names : directory (store_of w') ≡ directory (store_of w)) (config : config_of w' ≡ config_of w)
    (stream : stream_of w' ≡ (draw (config_of w).sync_rate (stream_of w)).1) where
  abbrev start_denial_by : Directory → ℕ → Option Refusal
  start_denial_by d next = option_or (refused_if Injected (draw (config_of w).sync_rate (stream_of w)).0) (option_or (refused_if GenerationsExhausted (next == 2 ^ 64 - 1)) (sync_refusal d h.place))

  abbrev IsStartAllowed : Option Refusal → Type 0
  IsStartAllowed answer = allows_start (draw (config_of w).sync_rate (stream_of w)).0 (next_marker_of w) (OrMemory (sync_refusal (directory (store_of w)) h.place)) answer

  outcome_seen : (v : State) → Wraps w (as_of w v) → start_denial_by (directory (store_of w)) (next_marker_of w) ≡ start_denial (as_of w v) h
  outcome_seen v u i = start_denial_by (u.files.directory i) (u.files.next_marker i)

  -- the outcome that a started sync has is the one that is expected, unless there is no memory
  outcome_is : (outcome : Option Refusal) → IsStartAllowed outcome → outcome ≢ Some Memory → (v : State) → Wraps w (as_of w v) → outcome ≡ start_denial (as_of w v) h
  outcome_is outcome a other v u =
      ⊎_elim (λ (m : outcome ≡ Some Memory). absurd (other m)) (λ (e : outcome ≡ start_denial_by (directory (store_of w)) (next_marker_of w)). e ∙ outcome_seen v u)
      (start_denied (draw (config_of w).sync_rate (stream_of w)).0 (next_marker_of w) (sync_refusal (directory (store_of w)) h.place) outcome a)

  -- what a started sync leaves of the files, by its outcome
  begins : (f : Files) (outcome : Option Refusal)
      → (outcome ≡ None → Stands (λ o. o) (directory (store_of w)) (durable (store_of w')) w' (start_sync f h.place h.live))
      → (IsSome outcome → durable (store_of w') ≡ durable (store_of w)) → (IsSome outcome → KeepsRecords (λ o. o) w w') → IsFor w f → IsFor w' (files_after_start f h outcome)
  begins f None starts bytes kept s = subst (λ (d : Directory). Stands (λ o. o) d (durable (store_of w')) w' (start_sync f h.place h.live)) (sym names) (starts refl)
  begins f (Some r) starts bytes kept s = stands_kept w w' f names (bytes refl) (kept refl) s

  pub start_done : (number : ℕ) (outcome : Option Refusal) (syncs' : List (Option states.Started)) → number ≡ length syncs → syncs' ≡ syncs ++ Some (record { outcome = outcome }) ∷ [] → outcome ≢ Some Memory → IsStartAllowed outcome
      → ((f : Files) → h.place.number < (directory (store_of w)).next → outcome ≡ None → IsFor w f → Stands (λ o. o) (directory (store_of w)) (durable (store_of w')) w' (start_sync f h.place h.live))
      → (IsSome outcome → durable (store_of w') ≡ durable (store_of w)) → (IsSome outcome → KeepsRecords (λ o. o) w w') → StartsSync w h syncs (Started number) w' h syncs'
  start_done number outcome syncs' count added other a starts bytes kept = record {
    answers = λ v u same. inr (count ∙ ap length same, stream ∙ ap (λ (x : State). (draw x.config.sync_rate x.stream).1) (as_seen w v u));
    stands = λ v u below.
        let u' = subst (Wraps w) (sym (as_seen w v u)) u in
        record {
          files = subst (λ (x : State). IsFor w' (files_after_start x.files h (start_denial x h))) (as_seen w v u)
              (subst (λ (x : Option Refusal). IsFor w' (files_after_start v.files h x)) (outcome_is outcome a other v u')
              (begins v.files outcome (λ done. starts v.files (subst (λ (d : Directory). h.place.number < d.next) (sym u.files.directory) below) done u.files) bytes kept u.files));
          config = config ∙ u.config;
          stream = refl;
        };
    table = λ v u same.
        let u' = subst (Wraps w) (sym (as_seen w v u)) u in
        added ∙ ap (λ (x : Option Refusal). syncs ++ Some (record { outcome = x }) ∷ []) (outcome_is outcome a other v u')
        ∙ ap (λ (x : State). syncs ++ Some (record { outcome = start_denial x h }) ∷ []) (as_seen w v u)
        ∙ ap (λ (ss : List (Option states.Started)). ss ++ Some (record { outcome = start_denial v h }) ∷ []) same;
    held = refl;
  }

-- there is no memory for it
pub start_failed : (w w' : Wrapper) (h : Held) (syncs syncs' : List (Option states.Started)) (e : Error) → directory (store_of w') ≡ directory (store_of w) → durable (store_of w') ≡ durable (store_of w) → KeepsRecords (λ o. o) w w' → syncs' ≡ syncs → Some (refusal_of e) ≡ Some Memory → StartsSync w h syncs (Failed e) w' h syncs'
start_failed w w' h syncs syncs' e names bytes kept table memory = record {
  answers = λ v u same. inl (refl, memory);
  stands = λ v u below. record { files = stands_kept w w' v.files names bytes kept u.files; config = kept.numbers.config ∙ u.config; stream = refl };
  table = λ v u same. table ∙ same;
  held = refl;
}

-- the wrapper wasn't asked
pub start_unasked : (w : Wrapper) (h : Held) (syncs syncs' : List (Option states.Started)) (e : Error) → syncs' ≡ syncs → Some (refusal_of e) ≡ Some Memory → StartsSync w h syncs (Failed e) w h syncs'
start_unasked w h syncs syncs' e table memory = record {
  answers = λ v u same. inl (refl, memory);
  stands = λ v u below. record { files = u.files; config = u.config; stream = refl };
  table = λ v u same. table ∙ same;
  held = refl;
}

-- it leaves the handle as it was
pub starts_on : (w w' : Wrapper) (h h' : Held) (syncs syncs' : List (Option states.Started)) (r : Reply) → h ≡ h' → StartsSync w h syncs r w' h syncs' → StartsSync w h syncs r w' h' syncs'
starts_on w w' h h' syncs syncs' r same done = subst (λ (x : Held). StartsSync w h syncs r w' x syncs') same done
