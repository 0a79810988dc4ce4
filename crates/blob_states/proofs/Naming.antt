-- Each name that has a file is that of an image, or was opened.
use Rattle.std.proofs.Common.{◌≡◌, ◌≢◌, ℕ, Bool, true, false, cond, List, [], ◌∷◌, Option, Some, None, refl, sym, subst}
use Rattle.std.specs.Prelude.{fold}
use Rattle.std.specs.List.{AllByRecursion, Contains}
use Rattle.std.specs.Str.{bytes_eq}
use Rattle.std.proofs.lemmas.Slice.Eq.{bytes_eq-Decides}
use Rattle.rand_core.specs.Stream.{Stream}
use Rattle.blob_header.specs.Refusals.{Refusal, BlobAlreadyOpen}
use Rattle.blob_model.specs.Directory.{Directory, File, Raw, Incarnation, directory_without, with_file}
use Rattle.blob_model.specs.Files.{Files, after_open, durable_at, raw_again, with_opening}
use Rattle.blob_model.specs.Opening.{Opening, Begins, Continues, Declines, opening}
use Rattle.blob_model.specs.Places.{Place}
use Rattle.blob_draws.specs.declared.config.Config.{Config}
use Rattle.blob_script.specs.Acts.{Act, Ask, Admit, Close, Configure, Crash, Finish, Open, OpenLoose, Remove, Reopen, Scan, Through}
use Rattle.blob_script.specs.Preambles.{Image}
use Rattle.blob_lab_model.specs.Accepted.{opened_name}
use Rattle.blob_lab_model.specs.After.{after_ask, apply_act, exclusively_opened}
use Rattle.blob_lab_model.specs.Answers.{kept_at}
use Rattle.blob_lab_model.specs.Scripted.{Words}
use Rattle.blob_lab_model.specs.States.{Held, State, empty_directory, start, with_image}
use Rattle.blob_lab_model.proofs.Stale.{admitted_directory, asked_directory}
use Rattle.blob_choices.specs.Outcomes.{Outcome, outcome, refusal_in, run_outcome, with_stream}
use Rattle.blob_states.specs.Recorded.{HasImage, HasOpened, HaveEachFile, HaveEachName, Name, after_acts}

-- each name that a directory has a file for is among these
abbrev Covers : List Name → Directory → Type 0
Covers names d = (p n : List ℕ) → d.file p n ≢ None → Contains names (p, n)

same : (a b : List ℕ) → bytes_eq a b ≡ true → a ≡ b
same a b h = (bytes_eq-Decides a b).0 h

-- a file is set, and the list has its name
set_covers : (names : List Name) (d : Directory) (p n : List ℕ) (file : Option File) → Contains names (p, n) → Covers names d
    → (q m : List ℕ) → with_file d.file p n file q m ≢ None → Contains names (q, m)
set_covers names d p n file here covers q m some = by (bytes_eq p q) refl (bytes_eq n m) refl some
  where
    by : (b : Bool) → bytes_eq p q ≡ b → (c : Bool) → bytes_eq n m ≡ c → cond b (cond c file (d.file q m)) (d.file q m) ≢ None → Contains names (q, m)
    by true e true f some = subst (λ (x : List ℕ). Contains names (x, m)) (same p q e) (subst (λ (y : List ℕ). Contains names (p, y)) (same n m f) here)
    by true e false f some = covers q m some
    by false e c f some = covers q m some

unset_covers : (names : List Name) (d : Directory) (p : List ℕ) (n : Option (List ℕ)) → Covers names d → Covers names (directory_without d p n)
unset_covers names d p (Some n) covers q m some = by (bytes_eq p q) (bytes_eq n m) some
  where
    by : (b c : Bool) → cond b (cond c None (d.file q m)) (d.file q m) ≢ None → Contains names (q, m)
    by true true some = absurd (some refl)
    by true false some = covers q m some
    by false c some = covers q m some
unset_covers names d p None covers q m some = by (bytes_eq p q) some
  where
    by : (b : Bool) → cond b None (d.file q m) ≢ None → Contains names (q, m)
    by true some = absurd (some refl)
    by false some = covers q m some

found_covers : (names : List Name) (f : Files) (p n : List ℕ) (found : Opening) → Contains names (p, n) → Covers names f.directory → Covers names (with_opening f p n found).directory
found_covers names f p n (Continues number layout version) here covers = covers
found_covers names f p n (Begins layout version live) here covers = set_covers names f.directory p n (Some (Incarnation f.directory.next layout version)) here covers
found_covers names f p n (Declines refusal) here covers = covers

open_covers : (names : List Name) (f : Files) (p n : List ℕ) (first last : ℕ) → Contains names (p, n) → Covers names f.directory → Covers names (after_open f p n first last).directory
open_covers names f p n first last = found_covers names f p n (opening p n (f.directory.file p n) first last)

exclusive_covers : (names : List Name) (v : State) (p n : List ℕ) (versions : ℕ × ℕ) (refusal : Option Refusal) → Contains names (p, n) → Covers names v.files.directory
    → Covers names (exclusively_opened v p n versions refusal).files.directory
exclusive_covers names v p n versions None here covers =
    subst (Covers names) (sym (admitted_directory (after_open v.files p n versions.0 versions.1) p n)) (open_covers names v.files p n versions.0 versions.1 here covers)
exclusive_covers names v p n versions (Some (BlobAlreadyOpen q m)) here covers = open_covers names v.files p n versions.0 versions.1 here covers
exclusive_covers names v p n versions (Some refusal) here covers = covers

through_covers : (names : List Name) (v : State) (number : ℕ) (slot : Option Held) (ask : Ask) (refusal : Option Refusal) → Covers names v.files.directory
    → Covers names (after_ask v number slot ask refusal).files.directory
through_covers names v number None ask refusal covers = covers
through_covers names v number (Some h) ask refusal covers = subst (Covers names) (sym (asked_directory v h ask refusal)) covers

raw_some : (bytes : Place → List ℕ) (p n : List ℕ) (file : Option File) → raw_again bytes p n file ≢ None → file ≢ None
raw_some bytes p n None some = some
raw_some bytes p n (Some file) some = λ none. cc

step_covers : (names : List Name) (v : State) (act : Act) (refusal : Option Refusal) → HasOpened names (opened_name act) → Covers names v.files.directory
    → Covers names (apply_act v act refusal).files.directory
step_covers names v (Configure config) refusal here covers = covers
step_covers names v (Open p n None) refusal here covers = covers
step_covers names v (Open p n (Some versions)) refusal here covers = exclusive_covers names v p n versions refusal here covers
step_covers names v (OpenLoose p n None) refusal here covers = covers
step_covers names v (OpenLoose p n (Some versions)) None here covers = open_covers names v.files p n versions.0 versions.1 here covers
step_covers names v (OpenLoose p n (Some versions)) (Some refusal) here covers = covers
step_covers names v (Admit p n) refusal here covers = subst (Covers names) (sym (admitted_directory v.files p n)) covers
step_covers names v (Close number) refusal here covers = covers
step_covers names v (Through number ask) refusal here covers = through_covers names v number (kept_at v.handles number) ask refusal covers
step_covers names v (Finish number) refusal here covers = covers
step_covers names v (Remove p n) None here covers = unset_covers names v.files.directory p n covers
step_covers names v (Remove p n) (Some refusal) here covers = covers
step_covers names v (Scan p) refusal here covers = covers
step_covers names v Crash None here covers = covers
step_covers names v Crash (Some refusal) here covers = covers
step_covers names v Reopen refusal here covers = λ p n some. covers p n (raw_some (durable_at v.files) p n (v.files.directory.file p n) some)

run_covers : (names : List Name) (acts : List Act) (v : State) (s x : Stream) → AllByRecursion (λ act. HasOpened names (opened_name act)) acts → Covers names v.files.directory
    → Covers names ((run_outcome v acts s).0.1 x).files.directory
run_covers names [] v s x here covers = covers
run_covers names (act ∷ acts) v s x here covers =
    let o : Outcome × Stream = outcome v act s in
    run_covers names acts (o.0.1 (refusal_in o.0.0) v.stream) o.1 x here.1 (step_covers names (with_stream v s) act (refusal_in o.0.0) here.0 covers)

images_cover : (names : List Name) (images : List Image) (d : Directory) → AllByRecursion (HasImage names) images → Covers names d → Covers names (fold with_image d images)
images_cover names [] d here covers = covers
images_cover names ((p, n, bytes) ∷ images) d here covers = images_cover names images (with_image d (p, n, bytes)) here.1 (set_covers names d p n (Some (Raw bytes)) here.0 covers)

pub named : (names : List Name) (images : List Image) (words : Words) (config : Config) (acts : List Act) → HaveEachName names images acts → HaveEachFile names (after_acts (start images words config) acts).files
named names images words config acts here =
    let v : State = start images words config in
    run_covers names acts v v.stream (run_outcome v acts v.stream).1 here.1 (images_cover names images empty_directory here.0 (λ p n some. absurd (some refl)))
