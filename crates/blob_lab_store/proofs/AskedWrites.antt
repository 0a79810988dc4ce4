-- What is asked of a handle by a write and by a resize, from what the wrapper promises of them.
use Rattle.std.proofs.Common.{refl, ◌≡◌, ◌≢◌, ℕ, ◌<◌, inr, List, Bool, true, Option, Some, None, sym, ◌∙◌, subst, length}
use Rattle.std.specs.Prelude.{is_some}
use Rattle.blob_model.specs.Live.{is_idle}
use Rattle.blob_model.specs.Directory.{Directory}
use Rattle.blob_model.specs.Files.{Files, all_logged}
use Rattle.blob_model.specs.Log.{Entry}
use Rattle.blob_model.specs.Places.{Place}
use Rattle.blob_header.specs.Refusals.{Refusal, Memory, Injected, refusal_of}
use Rattle.blob_model.specs.Runs.{runs, AreRunsApart}
use Rattle.blob_header.specs.declared.error.Error.{Error}
use Rattle.blob_draws.specs.Answers.{allows_write, allows_fate, allows_resize, injected_for}
use Rattle.blob_draws.specs.Fates.{has_uncounted_end, after_write}
use Rattle.blob_draws.specs.Faults.{ResizeFate, Resizes, Stays, Reaches, drawn_fate, write_fate, resize_fate, retention}
use Rattle.blob_draws.specs.Changes.{resize_changes}
use Rattle.blob_draws.specs.Recorded.{recorded_write, recorded_resize, live_of_write, live_of_resize, size_of_write, size_of_resize}
use Rattle.blob_faulty.specs.Wrapper.{Stands, Adds, config_of, inner_of as store_of, next_write_of}
use Rattle.blob_memory.specs.Answers.{OrMemory, AllowsWrite, end_refusal}
use Rattle.blob_memory.specs.Store.{directory, durable}
use Rattle.blob_script.specs.declared.reply.Reply.TheVariants as reply
use Rattle.blob_script.specs.Acts.{Write, Resize}
use Rattle.blob_lab_model.specs.Denials.{reaching_denial}
use Rattle.blob_lab_model.specs.Steps.{write_denial_by, write_denial, or_injected}
use Rattle.blob_lab_store.specs.LabStands.{Wrapper, Wraps, PerformsAsk, stream_of}
use Rattle.blob_faulty.specs.Keeps.{IsFor}
use Rattle.blob_lab_model.specs.States.{State, Held}
use Rattle.blob_script.specs.Told as told
use Rattle.blob_lab_store.proofs.AskSteps.{as_of, asks_by}
use Rattle.blob_lab_model.proofs.Denying.{counted_denial, fate_denied, injected_denial, memory_denial, not_memory}
use Rattle.blob_lab_model.proofs.Telling.{done_answers, failed_answers}

-- what is added to a log of the wrapper is added to the same log of the files that the wrapper represents
added : (w w' : Wrapper) (f : Files) (o : Place) (entries : ℕ → List Entry) → directory (store_of w') ≡ directory (store_of w) → Adds (λ a. a) (directory (store_of w)) (durable (store_of w)) (durable (store_of w')) w w' o (entries (next_write_of w)) → o.number < f.directory.next → IsFor w f → IsFor w' (all_logged f o (entries f.next_write))
added w w' f o entries names adds below s =
    let now = adds f (subst (λ (d : Directory). o.number < d.next) (sym s.directory) below) s in
    subst (λ (d : Directory). Stands (λ a. a) d (durable (store_of w')) w' (all_logged f o (entries f.next_write))) (sym names)
    (subst (λ (n : ℕ). Stands (λ a. a) (directory (store_of w)) (durable (store_of w')) w' (all_logged f o (entries n))) s.next_write now)

same_held : (h h' : Held) (live : List ℕ) (size : ℕ) → h'.place ≡ h.place → h'.live ≡ live → h'.size ≡ size → h'.registration ≡ h.registration → h' ≡ record h { live = live; size = size }
same_held h h' live size p l s r i = record { place = p i; live = l i; size = s i; registration = r i }

-- A write.

module _ (w w' : Wrapper) (h h' : Held) (room : Bool → ℕ) (offset : ℕ) (bytes : List ℕ) (sync : Bool) (apart : (chosen : List Bool) → AreRunsApart offset (runs offset bytes chosen))
    (names : directory (store_of w') ≡ directory (store_of w)) (config : config_of w' ≡ config_of w) (place : h'.place ≡ h.place) (registration : h'.registration ≡ h.registration) where
  abbrev denial : Directory → ℕ → Option Refusal
  denial d next = write_denial_by (write_fate (config_of w) sync offset bytes (stream_of w)).0 d h.place (is_some (retention (config_of w).write_rate)) next sync offset bytes

  abbrev allowed : Option Refusal → Type 0
  allowed answer =
      allows_write (λ o b s. AllowsWrite (directory (store_of w)) h.place room o b s) (λ end. OrMemory (end_refusal h.place end)) true (config_of w) (next_write_of w) (stream_of w) offset bytes sync answer

  abbrev IsRecorded : Option Refusal → Type 0
  IsRecorded answer = Adds (λ a. a) (directory (store_of w)) (durable (store_of w)) (durable (store_of w')) w w' h.place (recorded_write (config_of w) (next_write_of w) (stream_of w) sync offset bytes answer)

  abbrev IsLive : Option Refusal → Type 0
  IsLive answer = h'.live ≡ live_of_write (config_of w) (stream_of w) sync h.live offset bytes answer

  abbrev IsSize : Option Refusal → Type 0
  IsSize answer = h'.size ≡ size_of_write (config_of w) (stream_of w) sync h.size offset bytes answer

  denied : (answer : Option Refusal) → allowed answer → OrMemory (denial (directory (store_of w)) (next_write_of w)) answer
  unfolding allows_write
  denied answer a =
      counted_denial (directory (store_of w)) h.place (is_some (retention (config_of w).write_rate)) (next_write_of w) sync offset bytes (drawn_fate (config_of w) sync offset (length bytes) (stream_of w)) (stream_of w)
      (is_idle sync bytes) (has_uncounted_end offset bytes)
      (allows_fate (drawn_fate (config_of w) sync offset (length bytes) (stream_of w)).0 (λ o b s. AllowsWrite (directory (store_of w)) h.place room o b s) (λ end. OrMemory (end_refusal h.place end)) true (is_some (retention (config_of w).write_rate)) (next_write_of w) sync offset bytes)
      (fate_denied (directory (store_of w)) h.place room (drawn_fate (config_of w) sync offset (length bytes) (stream_of w)).0 (is_some (retention (config_of w).write_rate)) (next_write_of w) sync offset bytes apart)
      answer a

  seen : (v : State) → Wraps w (as_of w v) → denial (directory (store_of w)) (next_write_of w) ≡ write_denial (as_of w v) h offset bytes sync
  seen v u i = denial (u.files.directory i) (u.files.next_write i)

  pub write_done : allowed None → stream_of w' ≡ after_write (config_of w) sync offset bytes (stream_of w) → IsRecorded None → IsLive None → IsSize None → PerformsAsk w h (Write offset bytes sync) reply.Done w' h'
  write_done a stream adds live size = asks_by w w' h h' (Write offset bytes sync) reply.Done
      (λ v u. done_answers reply.Done (write_denial (as_of w v) h offset bytes sync) told.Done (stream_of w') (after_write (config_of w) sync offset bytes (stream_of w)) tt (not_memory (denial (directory (store_of w)) (next_write_of w)) (denied None a) ∙ seen v u) stream)
      (λ v u below. added w w' v.files h.place (λ n. recorded_write (config_of w) n (stream_of w) sync offset bytes None) names adds below u.files)
      (λ v. same_held h h' (live_of_write (config_of w) (stream_of w) sync h.live offset bytes None) (size_of_write (config_of w) (stream_of w) sync h.size offset bytes None) place live size registration)
      config

  pub write_failed : (e : Error) → allowed (Some (refusal_of e)) → (Some (refusal_of e) ≢ Some Memory → stream_of w' ≡ after_write (config_of w) sync offset bytes (stream_of w))
      → IsRecorded (Some (refusal_of e)) → IsLive (Some (refusal_of e)) → IsSize (Some (refusal_of e)) → PerformsAsk w h (Write offset bytes sync) (reply.Failed e) w' h'
  write_failed e a stream adds live size = asks_by w w' h h' (Write offset bytes sync) (reply.Failed e)
      (λ v u. failed_answers e (write_denial (as_of w v) h offset bytes sync) told.Done (stream_of w') (after_write (config_of w) sync offset bytes (stream_of w)) (subst (λ (x : Option Refusal). OrMemory x (Some (refusal_of e))) (seen v u) (denied (Some (refusal_of e)) a)) stream)
      (λ v u below. added w w' v.files h.place (λ n. recorded_write (config_of w) n (stream_of w) sync offset bytes (Some (refusal_of e))) names adds below u.files)
      (λ v. same_held h h' (live_of_write (config_of w) (stream_of w) sync h.live offset bytes (Some (refusal_of e))) (size_of_write (config_of w) (stream_of w) sync h.size offset bytes (Some (refusal_of e))) place live size registration)
      config

-- A resize.

-- it takes no number
unnumbered : (fate : ResizeFate) (len : ℕ) (answer : Option Refusal) (m n : ℕ) → (resize_changes fate len answer).entries m ≡ (resize_changes fate len answer).entries n
unnumbered (Resizes survives) len None m n = refl
unnumbered (Resizes survives) len (Some r) m n = refl
unnumbered Stays len answer m n = refl
unnumbered (Reaches size) len None m n = refl
unnumbered (Reaches size) len (Some Injected) m n = refl
unnumbered (Reaches size) len (Some r) m n = refl

resize_denied : (fate : ResizeFate) (o : Place) (len : ℕ) (answer : Option Refusal) → allows_resize (λ n. OrMemory (end_refusal o n)) fate len answer → OrMemory (reaching_denial fate o len) answer
resize_denied (Resizes survives) o len answer a = memory_denial (OrMemory (end_refusal o len)) (end_refusal o len) (λ answer' m. m) answer a
resize_denied Stays o len answer a = inr a
resize_denied (Reaches size) o len answer a =
    memory_denial (injected_for (OrMemory (end_refusal o size))) (or_injected (end_refusal o size)) (injected_denial (OrMemory (end_refusal o size)) (end_refusal o size) (λ answer' m. m)) answer a

module _ (w w' : Wrapper) (h h' : Held) (len : ℕ) (names : directory (store_of w') ≡ directory (store_of w)) (config : config_of w' ≡ config_of w) (place : h'.place ≡ h.place) (registration : h'.registration ≡ h.registration) where
  abbrev fate : ResizeFate
  fate = (resize_fate (config_of w).resize_rate h.size len (stream_of w)).0

  abbrev IsResizeAllowed : Option Refusal → Type 0
  IsResizeAllowed answer = allows_resize (λ n. OrMemory (end_refusal h.place n)) fate len answer

  abbrev IsResizeRecorded : Option Refusal → Type 0
  IsResizeRecorded answer = Adds (λ a. a) (directory (store_of w)) (durable (store_of w)) (durable (store_of w')) w w' h.place (recorded_resize fate len answer)

  by_any_number : (answer : Option Refusal) → IsResizeRecorded answer → Adds (λ a. a) (directory (store_of w)) (durable (store_of w)) (durable (store_of w')) w w' h.place ((resize_changes fate len answer).entries (next_write_of w))
  by_any_number answer adds = subst (λ (es : List Entry). Adds (λ a. a) (directory (store_of w)) (durable (store_of w)) (durable (store_of w')) w w' h.place es) (unnumbered fate len answer 0 (next_write_of w)) adds

  pub resize_done : stream_of w' ≡ (resize_fate (config_of w).resize_rate h.size len (stream_of w)).1 → IsResizeAllowed None → IsResizeRecorded None → h'.live ≡ live_of_resize fate h.live len None → h'.size ≡ size_of_resize fate h.size len None → PerformsAsk w h (Resize len) reply.Done w' h'
  resize_done stream a adds live size = asks_by w w' h h' (Resize len) reply.Done
      (λ v u. done_answers reply.Done (reaching_denial fate h.place len) told.Done (stream_of w') ((resize_fate (config_of w).resize_rate h.size len (stream_of w)).1) tt (not_memory (reaching_denial fate h.place len) (resize_denied fate h.place len None a)) stream)
      (λ v u below. added w w' v.files h.place (λ n. (resize_changes fate len None).entries n) names (by_any_number None adds) below u.files)
      (λ v. same_held h h' (live_of_resize fate h.live len None) (size_of_resize fate h.size len None) place live size registration)
      config

  pub resize_failed : (e : Error) → stream_of w' ≡ (resize_fate (config_of w).resize_rate h.size len (stream_of w)).1 → IsResizeAllowed (Some (refusal_of e)) → IsResizeRecorded (Some (refusal_of e)) → h'.live ≡ live_of_resize fate h.live len (Some (refusal_of e)) → h'.size ≡ size_of_resize fate h.size len (Some (refusal_of e)) → PerformsAsk w h (Resize len) (reply.Failed e) w' h'
  resize_failed e stream a adds live size = asks_by w w' h h' (Resize len) (reply.Failed e)
      (λ v u. failed_answers e (reaching_denial fate h.place len) told.Done (stream_of w') ((resize_fate (config_of w).resize_rate h.size len (stream_of w)).1) (resize_denied fate h.place len (Some (refusal_of e)) a) (λ no. stream))
      (λ v u below. added w w' v.files h.place (λ n. (resize_changes fate len (Some (refusal_of e))).entries n) names (by_any_number (Some (refusal_of e)) adds) below u.files)
      (λ v. same_held h h' (live_of_resize fate h.live len (Some (refusal_of e))) (size_of_resize fate h.size len (Some (refusal_of e))) place live size registration)
      config
