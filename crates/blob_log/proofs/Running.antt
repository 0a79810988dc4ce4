-- Appends and sessions of a log, one more at a time.
use Rattle.std.proofs.Common.{◌≡◌, ◌≢◌, ℕ, List, [], ◌∷◌, ◌++◌, Bool, true, false, refl, sym, ap, ap₂, ◌∙◌, subst}
use Rattle.std.specs.Global.{Global}
use Rattle.std.specs.Prelude.{Vec, Result, Ok, Err, OnOk, OnErr, is_ok, is_none}
use Rattle.std.proofs.lemmas.Bool.{false≢true, true≢false}
use Rattle.rand_core.specs.Stream.{Stream}
use Rattle.blob_header.specs.Refusals.{error_of}
use Rattle.blob_header.specs.declared.error.Error.{Error}
use Rattle.blob_model.specs.Draws.{Row, chosen_by}
use Rattle.blob_model.specs.Files.{after_crash}
use Rattle.blob_draws.specs.declared.selections.Selections.{Selections}
use Rattle.blob_faulty.specs.Crashes.{CrashDraws, CrashLeaves}
use Rattle.blob_faulty.specs.Keeps.{OverMemory, IsFor}
use Rattle.blob_faulty.specs.Wrapper.{config_of}
use Rattle.blob_log.specs.declared.log.Log.{Log}
use Rattle.blob_log.specs.declared.sessions.Session.{Session}
use Rattle.blob_log.specs.Held.{record_bytes}
use Rattle.blob_log.specs.Runs.{AllRun, Appends, AppendsAll, Crashes, SessionRuns}

-- whether an answer is Ok
pub ok_told : {T : Type 0} (r : Result T Error) → is_ok r ≡ is_none (error_of r)
ok_told (Ok x) = refl
ok_told (Err e) = refl

pub if_done : {T : Type 0} (r : Result T Error) (done : Bool) (Q : Type 0) → done ≡ is_none (error_of r) → OnOk r Q → done ≡ true → Q
if_done (Ok x) done Q is q t = q
if_done (Err e) done Q is q t = absurd (false≢true (sym is ∙ t))

pub if_failed : {T : Type 0} (r : Result T Error) (done : Bool) (Q : Type 0) → done ≡ is_none (error_of r) → OnErr r Q → done ≡ false → Q
if_failed (Ok x) done Q is q f = absurd (true≢false (sym is ∙ f))
if_failed (Err e) done Q is q f = q

-- one more append
pub appends_more : {R : Type 0} (stream : R → Stream) (log : Log) (w : OverMemory R) (entries : List (List ℕ)) (answers : List Bool) (l : Log) (v : OverMemory R) (entry : List ℕ) (done : Bool) (log' : Log) (w' : OverMemory R) →
    AppendsAll stream log w entries answers l v → Appends stream l v entry done log' w' → AppendsAll stream log w (entries ++ entry ∷ []) (answers ++ done ∷ []) log' w'
appends_more {R} stream log w [] [] l v entry done log' w' (el, ev) one =
    (log', w', subst (λ (a : Log). Appends stream a w entry done log' w') el (subst (λ (b : OverMemory R). Appends stream l b entry done log' w') ev one), (refl, refl))
appends_more stream log w [] (b ∷ answers) l v entry done log' w' all one = absurd all
appends_more stream log w (e ∷ entries) [] l v entry done log' w' all one = absurd all
appends_more stream log w (e ∷ entries) (b ∷ answers) l v entry done log' w' (a, u, first, rest) one =
    (a, u, first, appends_more stream a u entries answers l v entry done log' w' rest one)

-- one more session
pub runs_more : {R : Type 0} (stream : R → Stream) (p n : List ℕ) (log : Log) (before : List (List ℕ)) (w : OverMemory R) (sessions : List Session) (asked : List (Vec (Vec ℕ Global) Global)) (l : Log) (found : List (List ℕ)) (v : OverMemory R)
    (s : Session) (entries : Vec (Vec ℕ Global) Global) (log' : Log) (after : List (List ℕ)) (w' : OverMemory R) → AllRun stream p n log before w sessions asked l found v → record_bytes s.before.items ≡ found →
    SessionRuns stream p n l v s.answers.items (record_bytes entries.items) log' after w' → AllRun stream p n log before w (sessions ++ s ∷ []) (asked ++ entries ∷ []) log' after w'
runs_more {R} stream p n log before w [] [] l found v s entries log' after w' (el, ef, ev) is one =
    (log', after, w', is ∙ ef, subst (λ (a : Log). SessionRuns stream p n a w s.answers.items (record_bytes entries.items) log' after w') el (subst (λ (b : OverMemory R). SessionRuns stream p n l b s.answers.items (record_bytes entries.items) log' after w') ev one), (refl, refl, refl))
runs_more stream p n log before w [] (es ∷ asked) l found v s entries log' after w' all is one = absurd all
runs_more stream p n log before w (t ∷ sessions) [] l found v s entries log' after w' all is one = absurd all
runs_more stream p n log before w (t ∷ sessions) (es ∷ asked) l found v s entries log' after w' (a, f, u, same, first, rest) is one =
    (a, f, u, same, first, runs_more stream p n a f u sessions asked l found v s entries log' after w' rest is one)

-- a crash, by what is drawn
pub crash_drawn : {R : Type 0} (stream : R → Stream) (w w' : OverMemory R) (kept : Selections) → CrashDraws stream w w' kept → CrashLeaves w w' kept → config_of w' ≡ config_of w → Crashes stream w w'
crash_drawn stream w w' kept draws leaves config = record {
  left = λ files stands. subst (λ (rows : List Row). IsFor w' (after_crash files (chosen_by rows))) (ap (λ (p : List Row × Stream). p.0) (draws files stands)) (leaves files stands);
  drawn = λ files stands. ap (λ (p : List Row × Stream). p.1) (draws files stands);
  config = config;
}
