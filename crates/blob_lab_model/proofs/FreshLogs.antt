-- An incarnation that doesn't exist yet has no log.
use Rattle.std.proofs.Common.{◌≡◌, ℕ, ◌<◌, ◌≤◌, ◌++◌, List, [], ◌∷◌, false, Option, Some, None, refl, subst, arith}
use Rattle.std.proofs.lemmas.List.Elements.{All-head, All-tail}
use Rattle.rand_core.specs.Stream.{Stream}
use Rattle.blob_model.specs.Directory.{current}
use Rattle.blob_model.specs.Files.{Files, log_of, log_entry, all_logged, publish, admit, admitted_at, with_opening, after_open, after_remove, is_removed_by, durable_at}
use Rattle.blob_model.specs.Log.{Entry}
use Rattle.blob_model.specs.Opening.{Opening, Continues, Begins, Declines, opening}
use Rattle.blob_model.specs.Places.{Place, same_place}
use Rattle.blob_header.specs.Refusals.{Refusal, BlobAlreadyOpen}
use Rattle.blob_model.proofs.FileSteps.{log_push_at, log_without, still_fresh, still_none}
use Rattle.blob_draws.specs.Faults.{resize_fate}
use Rattle.blob_draws.specs.Changes.{resize_changes}
use Rattle.blob_draws.specs.Recorded.{recorded_write}
use Rattle.blob_script.specs.declared.call.Call.{Call}
use Rattle.blob_script.specs.declared.reply.Reply.{Reply}
use Rattle.blob_script.specs.Acts.{Ask, Read, Write, Resize, Size, Sync, StartSync, AcceptedVersions, Act, Configure, Open, OpenLoose, Admit, Close, Through, Finish, Remove, Scan, Crash, Reopen, act_of}
use Rattle.blob_lab_model.specs.After.{after_act, after_ask, files_after, exclusively_opened}
use Rattle.blob_lab_model.specs.Steps.{files_after_start, loosely_opened, removal_step, crash_step}
use Rattle.blob_lab_model.specs.Answers.{kept_at}
use Rattle.blob_lab_model.specs.Denials.{start_denial}
use Rattle.blob_lab_model.specs.Reached.{is_loose, NoneLoose, ReachedExclusively}
use Rattle.blob_lab_model.specs.Runs.{LeadsTo}
use Rattle.blob_lab_model.specs.States.{State, Held, start}
use Rattle.blob_script.specs.Told.{refused_by}
use Rattle.blob_lab_model.proofs.Exclusive.{Exclusive, exclusive_start, exclusive_after}
use Rattle.blob_lab_model.proofs.GivenHandles.{given_at}

abbrev pub IsFresh : Files → Type 0
IsFresh f = (o : Place) → f.directory.next ≤ o.number → log_of f.log o ≡ []

-- Steps of the files.

fresh_all : (f : Files) (o : Place) (es : List Entry) → o.number < f.directory.next → IsFresh f → IsFresh (all_logged f o es)
fresh_all f o [] below fresh = fresh
fresh_all f o (e ∷ es) below fresh =
    fresh_all (log_entry f o e) o es below (λ a past. still_fresh o a f.directory.next _ (log_of f.log a) (log_of f.log o ++ e ∷ []) below past (log_push_at f.log e o a) (fresh a past))

fresh_published : (f : Files) (o : Place) (x : List ℕ) → IsFresh f → IsFresh (publish f o x)
fresh_published f o x fresh a past = still_none (same_place o a) _ (log_of f.log a) (log_without f.log (same_place o) a) (fresh a past)

fresh_admitted : (f : Files) (p n : List ℕ) → IsFresh f → IsFresh (admit f p n)
fresh_admitted f p n fresh = go (current f.directory p n) where
  go : (o : Option Place) → IsFresh (admitted_at f o)
  go None = fresh
  go (Some o) = fresh_published f o (durable_at f o) fresh

fresh_opened : (f : Files) (p n : List ℕ) (found : Opening) → IsFresh f → IsFresh (with_opening f p n found)
fresh_opened f p n (Continues number layout version) fresh = fresh
fresh_opened f p n (Begins layout version live) fresh = λ o past. fresh o (omega arith)
fresh_opened f p n (Declines refusal) fresh = fresh

fresh_removed : (f : Files) (p : List ℕ) (n : Option (List ℕ)) → IsFresh f → IsFresh (after_remove f p n)
fresh_removed f p None fresh a past = still_none (is_removed_by f.directory p None a) _ (log_of f.log a) (log_without f.log (is_removed_by f.directory p None) a) (fresh a past)
fresh_removed f p (Some n) fresh a past = still_none (is_removed_by f.directory p (Some n) a) _ (log_of f.log a) (log_without f.log (is_removed_by f.directory p (Some n)) a) (fresh a past)

fresh_begun : (f : Files) (h : Held) (outcome : Option Refusal) → IsFresh f → IsFresh (files_after_start f h outcome)
fresh_begun f h None fresh = λ a past. still_none (same_place h.place a) _ (log_of f.log a) (log_without f.log (same_place h.place) a) (fresh a past)
fresh_begun f h (Some refusal) fresh = fresh

fresh_asked : (v : State) (h : Held) (ask : Ask) (refusal : Option Refusal) → h.place.number < v.files.directory.next → IsFresh v.files → IsFresh (files_after v h ask refusal)
fresh_asked v h (Write offset bytes sync) refusal below fresh = fresh_all v.files h.place (recorded_write v.config v.files.next_write v.stream sync offset bytes refusal) below fresh
fresh_asked v h (Resize len) refusal below fresh = fresh_all v.files h.place ((resize_changes (resize_fate v.config.resize_rate h.size len v.stream).0 len refusal).entries v.files.next_write) below fresh
fresh_asked v h Sync None below fresh = fresh_published v.files h.place h.live fresh
fresh_asked v h Sync (Some refusal) below fresh = fresh
fresh_asked v h StartSync None below fresh = fresh_begun v.files h (start_denial v h) fresh
fresh_asked v h StartSync (Some refusal) below fresh = fresh
fresh_asked v h (Read offset len) refusal below fresh = fresh
fresh_asked v h Size refusal below fresh = fresh

-- Any call.

module _ (v : State) (x : Exclusive v) (fresh : IsFresh v.files) where
  through : (number : ℕ) (slot : Option Held) (ask : Ask) (refusal : Option Refusal) → kept_at v.handles number ≡ slot → IsFresh (after_ask v number slot ask refusal).files
  through number None ask refusal here = fresh
  through number (Some h) ask refusal here = fresh_asked v h ask refusal (given_at v.files.directory.next number v.handles h x.given here) fresh

  exclusive : (p n : List ℕ) (versions : AcceptedVersions) (refusal : Option Refusal) → IsFresh (exclusively_opened v p n versions refusal).files
  exclusive p n versions None = fresh_admitted (after_open v.files p n versions.0 versions.1) p n (fresh_opened v.files p n (opening p n (v.files.directory.file p n) versions.0 versions.1) fresh)
  exclusive p n versions (Some (BlobAlreadyOpen q m)) = fresh_opened v.files p n (opening p n (v.files.directory.file p n) versions.0 versions.1) fresh
  exclusive p n versions (Some refusal) = fresh

  loosely : (p n : List ℕ) (versions : AcceptedVersions) (refusal : Option Refusal) → IsFresh (loosely_opened v p n versions refusal).files
  loosely p n versions None = fresh_opened v.files p n (opening p n (v.files.directory.file p n) versions.0 versions.1) fresh
  loosely p n versions (Some refusal) = fresh

  removes : (p : List ℕ) (n : Option (List ℕ)) (refusal : Option Refusal) → IsFresh (removal_step v p n refusal).files
  removes p n None = fresh_removed v.files p n fresh
  removes p n (Some refusal) = fresh

  crashes : (refusal : Option Refusal) → IsFresh (crash_step v refusal).files
  crashes None = λ o past. refl
  crashes (Some refusal) = fresh

  fresh_after : (act : Act) (refusal : Option Refusal) (left : Stream) → IsFresh (after_act v act refusal left).files
  fresh_after (Configure config) refusal left = fresh
  fresh_after (Open p n None) refusal left = fresh
  fresh_after (Open p n (Some versions)) refusal left = exclusive p n versions refusal
  fresh_after (OpenLoose p n None) refusal left = fresh
  fresh_after (OpenLoose p n (Some versions)) refusal left = loosely p n versions refusal
  fresh_after (Admit p n) refusal left = fresh_admitted v.files p n fresh
  fresh_after (Close number) refusal left = fresh
  fresh_after (Through number ask) refusal left = through number (kept_at v.handles number) ask refusal refl
  fresh_after (Finish number) refusal left = fresh
  fresh_after (Remove p n) refusal left = removes p n refusal
  fresh_after (Scan p) refusal left = fresh
  fresh_after Crash refusal left = crashes refusal
  fresh_after Reopen refusal left = λ o past. refl

-- Any calls.

fresh_run : (calls : List Call) (replies : List Reply) (v w : State) → Exclusive v → IsFresh v.files → NoneLoose calls → LeadsTo v calls replies w → IsFresh w.files
fresh_run [] [] v w x fresh strict same = subst (λ (s : State). IsFresh s.files) same fresh
fresh_run [] (r ∷ replies) v w x fresh strict run = absurd run
fresh_run (call ∷ calls) [] v w x fresh strict run = absurd run
fresh_run (call ∷ calls) (r ∷ replies) v w x fresh strict (left, answers, run) =
    fresh_run calls replies (after_act v (act_of call) (refused_by r) left) w
    (exclusive_after v (act_of call) r left x (All-head (λ c. is_loose (act_of c) ≡ false) call calls strict) answers)
    (fresh_after v x fresh (act_of call) (refused_by r) left)
    (All-tail (λ c. is_loose (act_of c) ≡ false) call calls strict) run

pub reached_fresh : (v : State) → ReachedExclusively v → IsFresh v.files
reached_fresh v (images, words, config, calls, replies, strict, run) =
    fresh_run calls replies (start images words config) v (exclusive_start images words config) (λ o past. refl) strict run
