-- An incarnation that isn't its name's current one never becomes current again: numbers aren't reused.
use Rattle.std.proofs.Common.{◌≡◌, ◌≢◌, ℕ, ◌+◌, ◌-◌, ◌^◌, ◌<◌, ◌≤◌, Bool, true, false, cond, ◌&&◌, List, [], ◌∷◌, Option, Some, None, refl, sym, ◌∙◌, subst, arith, ne_eqb, ◌==◌, ap, ⊎_elim, if◌then◌else◌}
use Rattle.std.proofs.lemmas.Bool.{cond_both, and_left, eqb-true, false≢true, cases_Bool}
use Rattle.std.specs.Str.{bytes_eq}
use Rattle.rand_core.specs.Stream.{Stream}
use Rattle.std.specs.Option.{option_or}
use Rattle.blob_header.specs.declared.layout.Layout.{Layout}
use Rattle.blob_model.specs.Directory.{Directory, File, Raw, Incarnation, current, is_that, is_current, with_file, directory_made, directory_without}
use Rattle.blob_header.specs.Header.{data_start}
use Rattle.blob_model.specs.Files.{Files, with_opening, after_open, admit, admitted_at, all_logged, log_entry, raw_again, reopen, durable_at}
use Rattle.blob_model.specs.Log.{Entry}
use Rattle.blob_model.specs.Opening.{Opening, Continues, Begins, Declines, opening}
use Rattle.blob_model.specs.Places.{Place, same_place}
use Rattle.blob_header.specs.Refusals.{Refusal, BlobAlreadyOpen, GenerationsExhausted, Injected}
use Rattle.blob_draws.specs.Faults.{draw, resize_fate}
use Rattle.blob_draws.specs.Changes.{resize_changes}
use Rattle.blob_draws.specs.Recorded.{recorded_write}
use Rattle.blob_memory.specs.Answers.{missing, sync_refusal}
use Rattle.blob_model.specs.SamePlace.{parts, same_place_exact}
use Rattle.blob_model.proofs.Durables.{others_logged, others_published}
use Rattle.blob_script.specs.Acts.{Ask, Read, Write, Resize, Size, Sync, StartSync, Act, Configure, Open, OpenLoose, Admit, Close, Through, Finish, Remove, Scan, Crash, Reopen}
use Rattle.blob_lab_model.specs.After.{after_act, after_ask, files_after, held_after, exclusively_opened}
use Rattle.blob_lab_model.specs.Steps.{files_after_start, sync_denial, removal_step as removal, crash_step, loosely_opened}
use Rattle.blob_lab_model.specs.Answers.{kept_at}
use Rattle.blob_lab_model.specs.Denials.{refused_if, start_denial}
use Rattle.blob_lab_model.specs.States.{State, Held}

-- each current incarnation has a number below the next one
abbrev pub AreCurrentGiven : Directory → Type 0
AreCurrentGiven d = (o : Place) → is_current d o ≡ true → o.number < d.next

-- a later directory: an incarnation with an earlier number that isn't current still isn't
pub record Ages (d e : Directory) : Type 0 where
  pub next : d.next ≤ e.next
  pub stale : (o : Place) → o.number < d.next → is_current d o ≡ false → is_current e o ≡ false
  pub given : AreCurrentGiven d → AreCurrentGiven e

same_age : (d : Directory) → Ages d d
same_age d = record { next = omega arith; stale = λ o below old. old; given = λ given. given }

by_same : (d e : Directory) → e ≡ d → Ages d e
by_same d e same = subst (λ (x : Directory). Ages d x) (sym same) (same_age d)

-- a new file for one name
pub with_file_stale : (f : List ℕ → List ℕ → Option File) (p n q m : List ℕ) (x : Option File) (number start : ℕ) → is_that x number start ≡ false → is_that (f q m) number start ≡ false → is_that (with_file f p n x q m) number start ≡ false
with_file_stale f p n q m x number start new old = cond_both (bytes_eq p q) (cond (bytes_eq n m) x (f q m)) (f q m) (λ r. is_that r number start ≡ false)
    (λ _. cond_both (bytes_eq n m) x (f q m) (λ r. is_that r number start ≡ false) (λ _. new) (λ _. old))
    (λ _. old)

-- the next number isn't an earlier one
new_number : (next number : ℕ) (rest : Bool) → number < next → ((next == number) && rest) ≡ false
new_number next number rest below = and_left (next == number) rest (ne_eqb next number (λ same. absurd (omega (arith, same, below))))

-- an incarnation is the new file, or an old one
with_file_either : (f : List ℕ → List ℕ → Option File) (p n q m : List ℕ) (x : Option File) (number start : ℕ) (P : Type 0) → (is_that x number start ≡ true → P) → (is_that (f q m) number start ≡ true → P) → is_that (with_file f p n x q m) number start ≡ true → P
with_file_either f p n q m x number start P new old = cond_both (bytes_eq p q) (cond (bytes_eq n m) x (f q m)) (f q m) (λ r. is_that r number start ≡ true → P)
    (λ _. cond_both (bytes_eq n m) x (f q m) (λ r. is_that r number start ≡ true → P) (λ _. new) (λ _. old))
    (λ _. old)

-- after the next number is taken, it is below the next one
taken : (next number : ℕ) (rest : Bool) → ((next == number) && rest) ≡ true → number < next + 1
taken next number rest now = let same : next ≡ number = eqb-true next number (parts (next == number) rest now).0 in omega (arith, same)

made_ages : (d : Directory) (p n : List ℕ) (layout : Layout) (version : ℕ) → Ages d (directory_made d p n layout version)
made_ages d p n layout version = record {
  next = omega arith;
  stale = λ o below old. with_file_stale d.file p n o.partition o.name (Some (Incarnation d.next layout version)) o.number o.start (new_number d.next o.number (data_start layout == o.start) below) old;
  given = λ given o now. with_file_either d.file p n o.partition o.name (Some (Incarnation d.next layout version)) o.number o.start (o.number < d.next + 1) (taken d.next o.number (data_start layout == o.start)) (λ old. let below : o.number < d.next = given o old in omega arith) now;
}

opened_ages : (f : Files) (p n : List ℕ) (found : Opening) → Ages f.directory (with_opening f p n found).directory
opened_ages f p n (Continues number layout version) = same_age f.directory
opened_ages f p n (Begins layout version live) = made_ages f.directory p n layout version
opened_ages f p n (Declines refusal) = same_age f.directory

open_ages : (f : Files) (p n : List ℕ) (first last : ℕ) → Ages f.directory (after_open f p n first last).directory
open_ages f p n first last = opened_ages f p n (opening p n (f.directory.file p n) first last)

pub admitted_directory : (f : Files) (p n : List ℕ) → (admit f p n).directory ≡ f.directory
admitted_directory f p n = go (current f.directory p n)
  where
    go : (o : Option Place) → (admitted_at f o).directory ≡ f.directory
    go None = refl
    go (Some o) = refl

admitted_ages : (d : Directory) (f : Files) (p n : List ℕ) → Ages d f.directory → Ages d (admit f p n).directory
admitted_ages d f p n ages = subst (λ (x : Directory). Ages d x) (sym (admitted_directory f p n)) ages

removed_ages : (d : Directory) (p : List ℕ) (n : Option (List ℕ)) → Ages d (directory_without d p n)
removed_ages d p (Some n) = record {
  next = omega arith;
  stale = λ o below old. with_file_stale d.file p n o.partition o.name None o.number o.start refl old;
  given = λ given o now. with_file_either d.file p n o.partition o.name None o.number o.start (o.number < d.next) (λ none. absurd (false≢true none)) (given o) now;
}
removed_ages d p None = record {
  next = omega arith;
  stale = λ o below old. cond_both (bytes_eq p o.partition) None (d.file o.partition o.name) (λ r. is_that r o.number o.start ≡ false) (λ _. refl) (λ _. old);
  given = λ given o now. cond_both (bytes_eq p o.partition) None (d.file o.partition o.name) (λ r. is_that r o.number o.start ≡ true → o.number < d.next) (λ _ none. absurd (false≢true none)) (λ _. given o) now;
}

-- a rebuilt store has raw files only
raw_stale : (bytes : Place → List ℕ) (p n : List ℕ) (file : Option File) (number start : ℕ) → is_that (raw_again bytes p n file) number start ≡ false
raw_stale bytes p n None number start = refl
raw_stale bytes p n (Some (Raw x)) number start = refl
raw_stale bytes p n (Some (Incarnation k layout version)) number start = refl

pub none_current : (f : Files) (o : Place) → is_current (reopen f).directory o ≡ false
none_current f o = raw_stale (durable_at f) o.partition o.name (f.directory.file o.partition o.name) o.number o.start

reopened_ages : (f : Files) → Ages f.directory (reopen f).directory
reopened_ages f = record {
  next = omega arith;
  stale = λ o below old. none_current f o;
  given = λ given o now. absurd (false≢true (sym (none_current f o) ∙ now));
}

-- a call through a handle doesn't change the directory
pub logged_directory : (f : Files) (o : Place) (es : List Entry) → (all_logged f o es).directory ≡ f.directory
logged_directory f o [] = refl
logged_directory f o (e ∷ es) = logged_directory (log_entry f o e) o es

begun_directory : (f : Files) (h : Held) (outcome : Option Refusal) → (files_after_start f h outcome).directory ≡ f.directory
begun_directory f h None = refl
begun_directory f h (Some refusal) = refl

pub asked_directory : (v : State) (h : Held) (ask : Ask) (refusal : Option Refusal) → (files_after v h ask refusal).directory ≡ v.files.directory
asked_directory v h (Write offset bytes sync) refusal = logged_directory v.files h.place (recorded_write v.config v.files.next_write v.stream sync offset bytes refusal)
asked_directory v h (Resize len) refusal = logged_directory v.files h.place ((resize_changes (resize_fate v.config.resize_rate h.size len v.stream).0 len refusal).entries v.files.next_write)
asked_directory v h Sync None = refl
asked_directory v h Sync (Some refusal) = refl
asked_directory v h StartSync None = begun_directory v.files h (start_denial v h)
asked_directory v h StartSync (Some refusal) = refl
asked_directory v h (Read offset len) refusal = refl
asked_directory v h Size refusal = refl

-- nor the handle's incarnation
pub place_after : (v : State) (h : Held) (ask : Ask) (refusal : Option Refusal) → (held_after v h ask refusal).place ≡ h.place
place_after v h (Write offset bytes sync) refusal = refl
place_after v h (Resize len) refusal = refl
place_after v h ask refusal = refl

through_ages : (v : State) (number : ℕ) (slot : Option Held) (ask : Ask) (refusal : Option Refusal) → Ages v.files.directory (after_ask v number slot ask refusal).files.directory
through_ages v number None ask refusal = same_age v.files.directory
through_ages v number (Some h) ask refusal = by_same v.files.directory (files_after v h ask refusal).directory (asked_directory v h ask refusal)

exclusive_ages : (v : State) (p n : List ℕ) (versions : ℕ × ℕ) (refusal : Option Refusal) → Ages v.files.directory (exclusively_opened v p n versions refusal).files.directory
exclusive_ages v p n versions None = admitted_ages v.files.directory (after_open v.files p n versions.0 versions.1) p n (open_ages v.files p n versions.0 versions.1)
exclusive_ages v p n versions (Some (BlobAlreadyOpen q m)) = open_ages v.files p n versions.0 versions.1
exclusive_ages v p n versions (Some refusal) = same_age v.files.directory

loose_ages : (v : State) (p n : List ℕ) (versions : ℕ × ℕ) (refusal : Option Refusal) → Ages v.files.directory (loosely_opened v p n versions refusal).files.directory
loose_ages v p n versions None = open_ages v.files p n versions.0 versions.1
loose_ages v p n versions (Some refusal) = same_age v.files.directory

removal_ages : (v : State) (p : List ℕ) (n : Option (List ℕ)) (refusal : Option Refusal) → Ages v.files.directory (removal v p n refusal).files.directory
removal_ages v p n None = removed_ages v.files.directory p n
removal_ages v p n (Some refusal) = same_age v.files.directory

crash_ages : (v : State) (refusal : Option Refusal) → Ages v.files.directory (crash_step v refusal).files.directory
crash_ages v None = same_age v.files.directory
crash_ages v (Some refusal) = same_age v.files.directory

pub ages : (v : State) (act : Act) (refusal : Option Refusal) (rest : Stream) → Ages v.files.directory (after_act v act refusal rest).files.directory
ages v (Configure config) refusal rest = same_age v.files.directory
ages v (Open p n None) refusal rest = same_age v.files.directory
ages v (Open p n (Some versions)) refusal rest = exclusive_ages v p n versions refusal
ages v (OpenLoose p n None) refusal rest = same_age v.files.directory
ages v (OpenLoose p n (Some versions)) refusal rest = loose_ages v p n versions refusal
ages v (Admit p n) refusal rest = admitted_ages v.files.directory v.files p n (same_age v.files.directory)
ages v (Close number) refusal rest = same_age v.files.directory
ages v (Through number ask) refusal rest = through_ages v number (kept_at v.handles number) ask refusal
ages v (Finish number) refusal rest = same_age v.files.directory
ages v (Remove p n) refusal rest = removal_ages v p n refusal
ages v (Scan p) refusal rest = same_age v.files.directory
ages v Crash refusal rest = crash_ages v refusal
ages v Reopen refusal rest = reopened_ages v.files

-- a call through a handle doesn't change other incarnations
other_logged : (f : Files) (o a : Place) (es : List Entry) → same_place o a ≡ false → durable_at (all_logged f o es) a ≡ durable_at f a
other_logged f o a [] other = refl
other_logged f o a (e ∷ es) other = other_logged (log_entry f o e) o a es other ∙ (others_logged f o e a other).0

other_begun : (f : Files) (h : Held) (outcome : Option Refusal) (a : Place) → same_place h.place a ≡ false → durable_at (files_after_start f h outcome) a ≡ durable_at f a
other_begun f h None a other = (others_published f h.place h.live a other).0
other_begun f h (Some refusal) a other = refl

pub other_asked : (v : State) (h : Held) (ask : Ask) (refusal : Option Refusal) (a : Place) → same_place h.place a ≡ false → durable_at (files_after v h ask refusal) a ≡ durable_at v.files a
other_asked v h (Write offset bytes sync) refusal a other = other_logged v.files h.place a (recorded_write v.config v.files.next_write v.stream sync offset bytes refusal) other
other_asked v h (Resize len) refusal a other = other_logged v.files h.place a ((resize_changes (resize_fate v.config.resize_rate h.size len v.stream).0 len refusal).entries v.files.next_write) other
other_asked v h Sync None a other = (others_published v.files h.place h.live a other).0
other_asked v h Sync (Some refusal) a other = refl
other_asked v h StartSync None a other = other_begun v.files h (start_denial v h) a other
other_asked v h StartSync (Some refusal) a other = refl
other_asked v h (Read offset len) refusal a other = refl
other_asked v h Size refusal a other = refl

-- a stale handle's incarnation differs from every current one
pub stale_apart : (d : Directory) (o a : Place) → is_current d o ≡ false → is_current d a ≡ true → same_place o a ≡ false
stale_apart d o a stale now = ⊎_elim
    (λ same. absurd (false≢true (sym stale ∙ ap (is_current d) (same_place_exact o a same) ∙ now)))
    (λ other. other)
    (cases_Bool (same_place o a))

pub stale_asked : (v : State) (h : Held) (ask : Ask) (refusal : Option Refusal) (a : Place) → is_current v.files.directory h.place ≡ false → is_current v.files.directory a ≡ true → durable_at (files_after v h ask refusal) a ≡ durable_at v.files a
stale_asked v h ask refusal a stale now = other_asked v h ask refusal a (stale_apart v.files.directory h.place a stale now)

pub stale_sync : (v : State) (h : Held) → is_current v.files.directory h.place ≡ false → (draw v.config.sync_rate v.stream).0 ≡ false → sync_denial v h ≡ Some (missing h.place)
stale_sync v h stale undrawn =
    ap (λ b. option_or (refused_if Injected b) (sync_refusal v.files.directory h.place)) undrawn
    ∙ ap (λ b. if b then None else Some (missing h.place)) stale

pub stale_start : (v : State) (h : Held) → is_current v.files.directory h.place ≡ false → (draw v.config.sync_rate v.stream).0 ≡ false → v.files.next_marker ≢ 2 ^ 64 - 1 → start_denial v h ≡ Some (missing h.place)
stale_start v h stale undrawn left =
    ap (λ b. option_or (refused_if Injected b) (option_or (refused_if GenerationsExhausted (v.files.next_marker == 2 ^ 64 - 1)) (sync_refusal v.files.directory h.place))) undrawn
    ∙ ap (λ b. option_or (refused_if GenerationsExhausted b) (sync_refusal v.files.directory h.place)) (ne_eqb v.files.next_marker (2 ^ 64 - 1) left)
    ∙ ap (λ b. if b then None else Some (missing h.place)) stale

-- a started sync publishes nothing then, regardless of the draw
pub stale_begun : (v : State) (h : Held) (refusal : Option Refusal) → is_current v.files.directory h.place ≡ false → files_after v h StartSync refusal ≡ v.files
stale_begun v h (Some refusal) stale = refl
stale_begun v h None stale = go (draw v.config.sync_rate v.stream).0 (v.files.next_marker == 2 ^ 64 - 1) (is_current v.files.directory h.place) stale where
  go : (drawn exhausted now : Bool) → now ≡ false → files_after_start v.files h (option_or (refused_if Injected drawn) (option_or (refused_if GenerationsExhausted exhausted) (if now then None else Some (missing h.place)))) ≡ v.files
  go true exhausted now e = refl
  go false true now e = refl
  go false false false e = refl
  go false false true e = absurd (false≢true (sym e))
