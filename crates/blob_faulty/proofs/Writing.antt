-- Steps of writes, on what is seen of a handle and its wrapper.
use Rattle.std.proofs.Common.{◌≡◌, ℕ, ◌+◌, ◌<◌, Bool, true, false, true≢false, List, [], ◌∷◌, ◌++◌, length, Option, Some, None, refl, sym, ◌∙◌, ap, ap₂, subst, arith}
use Rattle.std.specs.Prelude.{Result, Ok, Err, OnErr}
use Rattle.blob_model.specs.Bytes.{overlay, write_live}
use Rattle.blob_model.specs.Directory.{Directory, is_current}
use Rattle.blob_model.specs.Durable.{Durable, with_at, with_changed}
use Rattle.blob_model.specs.Files.{Files, log_entry, all_logged}
use Rattle.blob_model.specs.Log.{Entry, Loose, Kept, Resized, Write, need_of}
use Rattle.blob_model.specs.Live.{live_written, all_written}
use Rattle.blob_model.specs.Order.{held_at}
use Rattle.blob_model.specs.Pending.{Waiting, Cut, apply_durable}
use Rattle.blob_model.specs.Places.{Place}
use Rattle.blob_header.specs.Refusals.{Refusal, WriteFailed, error_of}
use Rattle.blob_header.specs.declared.error.Error.{Error}
use Rattle.blob_base.specs.declared.storage.Durable as stores
use Rattle.blob_base.specs.declared.storage.Blob as handles
use Rattle.blob_model.specs.Runs.{Run, kept_runs}
use Rattle.blob_model.specs.Stands.{StandsFor}
use Rattle.blob_model.proofs.FileSteps.{stands_plain, stands_cut, stands_range, stands_same}
use Rattle.blob_faulty.proofs.Adding.{at_each}
use Rattle.blob_faulty.specs.declared.blob.Blob.{Blob}
use Rattle.blob_faulty.specs.declared.storage.Storage.{Storage}
use Rattle.blob_draws.specs.Changes.{size_of_runs}
use Rattle.blob_faulty.specs.Wrapper.{pending_of, Stands, Adds}
use Rattle.blob_faulty.specs.Writes.{View, view_of, ViewFor, Logs, SameRecords, HasBytes, Unchanged, Effect, Recorded, LeavesRuns, durable_written, all_changed, live_of_runs, laid_runs}

-- by the option that was given
pub durable_by : (sync : Bool) (x f : Durable) (o : Place) (p : ℕ) (b : List ℕ) → (sync ≡ true → x ≡ with_changed f o (λ y. overlay y p b)) → (sync ≡ false → x ≡ f) → x ≡ durable_written sync f o p b
durable_by true x f o p b at_once as_was = at_once refl
durable_by false x f o p b at_once as_was = as_was refl

-- a wrapper after a step, from each part as the step left it
told : {R : Type 0} (new : View R) (files : Files) (names : Directory) (write marker : ℕ) → new.directory ≡ names → new.next_write ≡ write → new.next_marker ≡ marker →
    StandsFor names new.durable (held_at new.held) write marker files → StandsFor new.directory new.durable (held_at new.held) new.next_write new.next_marker files
told {R} new files names write marker d w m s =
    subst (λ (n : Directory). StandsFor n new.durable (held_at new.held) new.next_write new.next_marker files) (sym d)
    (subst (λ (k : ℕ). StandsFor names new.durable (held_at new.held) k new.next_marker files) (sym w)
    (subst (λ (k : ℕ). StandsFor names new.durable (held_at new.held) write k files) (sym m) s))

-- nothing is recorded
pub same_logs : {R : Type 0} (old new : View R) → new.directory ≡ old.directory → new.durable ≡ old.durable → SameRecords old new → Logs old new []
same_logs old new names same k files below s =
    told new files old.directory old.next_write old.next_marker names k.next_write k.next_marker
    (stands_same old.directory old.directory old.durable new.durable (held_at old.held) (held_at new.held) old.next_write old.next_marker files refl (at_each same) k.pending s)

-- a loose write
pub loose_logs : {R : Type 0} (old new : View R) (w : Write) → 0 < length w.bytes → w.number ≡ old.next_write → new.directory ≡ old.directory → new.durable ≡ old.durable →
    ((a : Place) → held_at new.held a ≡ with_at (held_at old.held) old.place (held_at old.held old.place ++ Waiting (need_of w []) ∷ []) a) →
    new.next_write ≡ old.next_write + 1 → new.next_marker ≡ old.next_marker → Logs old new (Loose w ∷ [])
loose_logs old new w some is names same lists write marker files below s =
    told new _ old.directory (old.next_write + 1) old.next_marker names write marker
    (stands_same old.directory old.directory old.durable new.durable (held_at new.held) (held_at new.held) (old.next_write + 1) old.next_marker _ refl (at_each same) (λ _. refl)
    (stands_plain old.directory old.durable (held_at old.held) (held_at new.held) old.next_write old.next_marker files old.place w some is below lists s))

-- a durable range
pub kept_logs : {R : Type 0} (old new : View R) (p : ℕ) (b : List ℕ) → 0 < length b → new.directory ≡ old.directory → new.durable ≡ with_changed old.durable old.place (λ x. overlay x p b) →
    ((a : Place) → held_at new.held a ≡ with_at (held_at old.held) old.place (apply_durable p b (held_at old.held old.place)) a) →
    new.next_write ≡ old.next_write → new.next_marker ≡ old.next_marker → Logs old new (Kept p b ∷ [])
kept_logs old new p b some names over lists write marker files below s =
    told new _ old.directory old.next_write old.next_marker names write marker
    (stands_range old.directory old.durable new.durable (held_at old.held) (held_at new.held) old.next_write old.next_marker files old.place p b some below (at_each over) lists s)

-- a resize that survives a crash
pub cut_logs : {R : Type 0} (old new : View R) (n : ℕ) → new.directory ≡ old.directory → new.durable ≡ old.durable →
    ((a : Place) → held_at new.held a ≡ with_at (held_at old.held) old.place (held_at old.held old.place ++ Cut n ∷ []) a) →
    new.next_write ≡ old.next_write → new.next_marker ≡ old.next_marker → Logs old new (Resized n ∷ [])
cut_logs old new n names same lists write marker files below s =
    told new _ old.directory old.next_write old.next_marker names write marker
    (stands_same old.directory old.directory old.durable new.durable (held_at new.held) (held_at new.held) old.next_write old.next_marker _ refl (at_each same) (λ _. refl)
    (stands_cut old.directory old.durable (held_at old.held) (held_at new.held) old.next_write old.next_marker files old.place n below lists s))

-- one after the other
pub logs_then : {R : Type 0} (old mid new : View R) (e : Entry) (es : List Entry) → mid.place ≡ old.place → mid.directory ≡ old.directory → Logs old mid (e ∷ []) → Logs mid new es → Logs old new (e ∷ es)
logs_then old mid new e es place names first later files below s =
    let there : (f : Files) → old.place.number < mid.directory.next → ViewFor mid f → ViewFor new (all_logged f old.place es) =
    subst (λ (o : Place). (f : Files) → o.number < mid.directory.next → ViewFor mid f → ViewFor new (all_logged f o es)) place later in
    let step : (f : Files) → old.place.number < old.directory.next → ViewFor mid f → ViewFor new (all_logged f old.place es) =
    subst (λ (d : Directory). (f : Files) → old.place.number < d.next → ViewFor mid f → ViewFor new (all_logged f old.place es)) names there in
    step (log_entry files old.place e) below (first files below s)

-- the next of the runs that are left
pub one_less : {R : Type 0} (direct : Bool) (old mid new : View R) (all : List Run) (r : Run) (left : List Run) (answer : Option Refusal) → answer ≡ None →
    LeavesRuns old mid all (r ∷ left) → Recorded direct true mid new (laid_runs (r ∷ [])) answer → LeavesRuns old new all left
one_less direct old mid new all r left answer ok l w =
    let bytes = w.wrote.done ok in
    record {
      live = ap (λ (x : List ℕ). all_written x left) bytes.live ∙ l.live;
      durable = ap₂ (λ (d : Durable) (o : Place). all_changed d o left) bytes.durable w.wrote.place ∙ l.durable;
      size = ap (λ (n : ℕ). size_of_runs n left) bytes.size ∙ l.size;
      logs = λ later k. l.logs later (logs_then mid new later (Kept r.0 r.1) (kept_runs left) w.wrote.place w.wrote.directory (w.done ok) k);
      directory = w.wrote.directory ∙ l.directory;
      place = w.wrote.place ∙ l.place;
      config = w.config ∙ l.config;
      rng = w.rng ∙ l.rng;
    }

-- returned Ok, by the handle of a current incarnation
done_now : {R : Type 0} (direct : Bool) (old new : View R) (effect : View R → Effect) → is_current old.directory old.place ≡ true →
    HasBytes new ((effect old).live None) (effect old).durable (effect old).size → Logs old new (effect old).entries →
    new.directory ≡ old.directory → new.place ≡ old.place → new.config ≡ old.config → new.rng ≡ old.rng → Recorded direct direct old new effect None
done_now direct old new effect now bytes logs directory place config rng = record {
  wrote = record {
    done = λ _. bytes;
    refused = λ _ some. absurd (cc);
    memory = λ memory. absurd (cc);
    stale = λ gone. absurd (true≢false (sym now ∙ gone));
    directory = directory;
    place = place;
  };
  done = λ _. logs;
  refused = λ _ some. absurd (cc);
  undone = λ some. absurd (cc);
  config = config;
  rng = rng;
}

-- no run is left
pub all_laid : {R : Type 0} (direct : Bool) (old new : View R) (all left : List Run) → is_current old.directory old.place ≡ true → left ≡ [] → LeavesRuns old new all left → Recorded direct direct old new (laid_runs all) None
all_laid direct old new all left now none l =
    let d : LeavesRuns old new all [] = subst (λ (rs : List Run). LeavesRuns old new all rs) none l in
    done_now direct old new (laid_runs all) now (record { live = d.live; durable = d.durable; size = d.size }) (d.logs new (λ files below s. s)) l.directory l.place l.config l.rng

-- a later run was refused, by a store that injects faults
pub later_refused : {R : Type 0} (direct whole : Bool) (old mid new : View R) (all left : List Run) (effect one : View R → Effect) (answer : Option Refusal) → is_current old.directory old.place ≡ true → direct ≡ false →
    LeavesRuns old mid all left → Recorded direct whole mid new one answer → Recorded direct direct old new effect (Some WriteFailed)
later_refused direct whole old mid new all left effect one answer now indirect l w = record {
  wrote = record {
    done = λ ok. absurd (cc);
    refused = λ d some. absurd (true≢false (sym d ∙ indirect));
    memory = λ memory. absurd (cc);
    stale = λ gone. absurd (true≢false (sym now ∙ gone));
    directory = w.wrote.directory ∙ l.directory;
    place = w.wrote.place ∙ l.place;
  };
  done = λ ok. absurd (cc);
  refused = λ d some. absurd (true≢false (sym d ∙ indirect));
  undone = λ some never. absurd (never refl);
  config = w.config ∙ l.config;
  rng = w.rng ∙ l.rng;
}

-- there is none
pub no_runs : {R : Type 0} (direct : Bool) (old : View R) (rs : List Run) → rs ≡ [] → Recorded direct direct old old (laid_runs rs) None
no_runs direct old rs none = subst (λ (x : List Run). Recorded direct direct old old (laid_runs x) None) (sym none) (record {
  wrote = record {
    done = λ _. record { live = refl; durable = refl; size = refl };
    refused = λ _ some. absurd (cc);
    memory = λ memory. absurd (cc);
    stale = λ _. refl;
    directory = refl;
    place = refl;
  };
  done = λ _ files below s. s;
  refused = λ _ some. absurd (cc);
  undone = λ some. absurd (cc);
  config = refl;
  rng = refl;
})

-- a run and those after it
pub then_runs : {R T : Type 0} (direct : Bool) (old mid new : View R) (r : Run) (rs : List Run) (answer : Option Refusal) (result : Result T Error) → answer ≡ None →
    OnErr result (error_of result ≡ Some WriteFailed) → OnErr result (direct ≡ false) → is_current old.directory old.place ≡ true →
    Recorded direct true old mid (laid_runs (r ∷ [])) answer → Recorded direct direct mid new (laid_runs rs) (error_of result) → Recorded direct direct old new (laid_runs (r ∷ rs)) (error_of result)
then_runs {R} {T} direct old mid new r rs answer result ok failed indirect now first rest = go result failed indirect rest
  where
    left : LeavesRuns old mid (r ∷ rs) rs
    left = one_less direct old old mid (r ∷ rs) r rs answer ok (record { live = refl; durable = refl; size = refl; logs = λ later k. k; directory = refl; place = refl; config = refl; rng = refl }) first

    go : (x : Result T Error) → OnErr x (error_of x ≡ Some WriteFailed) → OnErr x (direct ≡ false) → Recorded direct direct mid new (laid_runs rs) (error_of x) → Recorded direct direct old new (laid_runs (r ∷ rs)) (error_of x)
    go (Ok x) never direct_too w =
        let bytes = w.wrote.done refl in
        done_now direct old new (laid_runs (r ∷ rs)) now (record { live = bytes.live ∙ left.live; durable = bytes.durable ∙ left.durable; size = bytes.size ∙ left.size }) (left.logs new (w.done refl))
        (w.wrote.directory ∙ left.directory) (w.wrote.place ∙ left.place) (w.config ∙ left.config) (w.rng ∙ left.rng)
    go (Err e) is not_direct w = subst (λ (a : Option Refusal). Recorded direct direct old new (laid_runs (r ∷ rs)) a) (sym is) (later_refused direct direct old mid new (r ∷ rs) rs (laid_runs (r ∷ rs)) (laid_runs rs) _ now not_direct left w)

-- a step that changes nothing, and then a write
logs_after : {R : Type 0} (old mid new : View R) (es : List Entry) → Unchanged old mid → Logs mid new es → Logs old new es
logs_after old mid new es u later files below s =
    let there : (f : Files) → old.place.number < mid.directory.next → ViewFor mid f → ViewFor new (all_logged f old.place es) =
    subst (λ (o : Place). (f : Files) → o.number < mid.directory.next → ViewFor mid f → ViewFor new (all_logged f o es)) u.place later in
    let step : (f : Files) → old.place.number < old.directory.next → ViewFor mid f → ViewFor new (all_logged f old.place es) =
    subst (λ (d : Directory). (f : Files) → old.place.number < d.next → ViewFor mid f → ViewFor new (all_logged f old.place es)) u.directory there in
    step files below (same_logs old mid u.directory u.bytes.durable u.records files below s)

records_after : {R : Type 0} (old mid new : View R) → SameRecords old mid → SameRecords mid new → SameRecords old new
records_after old mid new u k = record {
  size = k.size ∙ u.size;
  pending = λ o. k.pending o ∙ u.pending o;
  next_write = k.next_write ∙ u.next_write;
  next_marker = k.next_marker ∙ u.next_marker;
}

pub runs_after : {R : Type 0} (direct whole : Bool) (old mid new : View R) (rs : List Run) (answer : Option Refusal) → Unchanged old mid → Recorded direct whole mid new (laid_runs rs) answer → Recorded direct whole old new (laid_runs rs) answer
runs_after {R} direct whole old mid new rs answer u w = record {
  wrote = record {
    done = λ ok. subst (λ (x : Effect). HasBytes new (x.live None) x.durable x.size) same (w.wrote.done ok);
    refused = λ d r. let x = w.wrote.refused d r in record { live = x.live ∙ ap (λ (l : List ℕ). live_of_runs l rs answer) u.bytes.live; durable = x.durable ∙ u.bytes.durable; size = x.size ∙ u.bytes.size };
    memory = λ m. let x = w.wrote.memory m in record { live = x.live ∙ u.bytes.live; durable = x.durable ∙ u.bytes.durable; size = x.size ∙ u.bytes.size };
    stale = λ gone. w.wrote.stale (ap₂ is_current u.directory u.place ∙ gone) ∙ u.bytes.durable;
    directory = w.wrote.directory ∙ u.directory;
    place = w.wrote.place ∙ u.place;
  };
  done = λ ok. logs_after old mid new (kept_runs rs) u (w.done ok);
  refused = λ d r. records_after old mid new u.records (w.refused d r);
  undone = λ r never. records_after old mid new u.records (w.undone r never);
  config = w.config ∙ u.config;
  rng = w.rng ∙ u.rng;
}
  where
    same : laid_runs rs mid ≡ laid_runs rs old
    same =
        ap (λ (x : List ℕ). record { live = live_of_runs x rs; durable = all_changed mid.durable mid.place rs; size = size_of_runs mid.size rs; entries = kept_runs rs }) u.bytes.live
        ∙ ap₂ (λ (d : Durable) (o : Place). record { live = live_of_runs old.live rs; durable = all_changed d o rs; size = size_of_runs mid.size rs; entries = kept_runs rs }) u.bytes.durable u.place
        ∙ ap (λ (n : ℕ). record { live = live_of_runs old.live rs; durable = all_changed old.durable old.place rs; size = size_of_runs n rs; entries = kept_runs rs }) u.bytes.size

-- what a handle and its wrapper log, after a draw, as the wrapper's files have it
pub adds_of : {S R O B : Type 0} (store : stores.Ghosts S O) (handle : handles.Ghosts B S O) (b b' : Blob B) (w w' : Storage S R O) (rng : R) (es es' : List Entry) →
    store.directory w'.inner ≡ store.directory w.inner → es ≡ es' → Logs (view_of store handle b (record w { rng = rng })) (view_of store handle b' w') es' →
    Adds store.place (store.directory w.inner) (store.durable w.inner) (store.durable w'.inner) w w' (handle.place b.inner) es
adds_of {S} {R} {O} {B} store handle b b' w w' rng es es' names same logs files below s =
    subst (λ (entries : List Entry). Stands store.place (store.directory w.inner) (store.durable w'.inner) w' (all_logged files (handle.place b.inner) entries)) (sym same)
    (subst (λ (d : Directory). StandsFor d (store.durable w'.inner) (pending_of store.place w') w'.next_write w'.next_marker (all_logged files (handle.place b.inner) es')) names (logs files below s))

-- a draw that was refused for memory
pub drawn_adds : {S R O : Type 0} (origin : O → Place) (names : Directory) (bytes : Durable) (w : Storage S R O) (rng : R) (o : Place) (es : List Entry) → es ≡ [] → Adds origin names bytes bytes w (record w { rng = rng }) o es
drawn_adds {S} {R} {O} origin names bytes w rng o es none files below s =
    subst (λ (entries : List Entry). Stands origin names bytes (record w { rng = rng }) (all_logged files o entries)) (sym none) s

-- a SYNC write of some bytes that was done
pub some_written : (live : List ℕ) (p : ℕ) (b : List ℕ) → 0 < length b → live_written true live p b ≡ write_live live p b
some_written live p [] some = absurd (omega arith)
some_written live p (x ∷ b) some = refl
