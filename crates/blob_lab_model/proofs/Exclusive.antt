-- Handles of a laboratory with exclusive opens only: after any calls, a current incarnation has one handle.
use Rattle.std.proofs.Common.{◌≡◌, ℕ, List, [], ◌∷◌, true, false, Option, Some, None, option_map, refl, sym, ap, ◌∙◌, subst, ⊎_elim, ◌==◌}
use Rattle.std.specs.Prelude.{◌<◌, is_some, IfSome}
use Rattle.std.proofs.lemmas.Bool.{and_from, false≢true, eq-eqb}
use Rattle.std.proofs.lemmas.List.Elements.{All-nil, All-head, All-tail}
use Rattle.std.proofs.lemmas.Option.{none-some, same_Some}
use Rattle.rand_core.specs.Stream.{Stream}
use Rattle.std.specs.Option.{option_or}
use Rattle.blob_model.specs.Directory.{Directory, File, Raw, Incarnation, current, place_in, is_current, is_that}
use Rattle.blob_header.specs.Header.{data_start}
use Rattle.blob_model.specs.Files.{Files, admit, after_open, reopen}
use Rattle.blob_model.specs.Opening.{place_of}
use Rattle.blob_model.specs.Places.{Place}
use Rattle.blob_header.specs.Refusals.{Refusal, Memory, BlobAlreadyOpen, GenerationsExhausted}
use Rattle.blob_model.specs.SamePlace.{same_place_exact}
use Rattle.blob_draws.specs.declared.config.Config.{Config}
use Rattle.blob_script.specs.declared.call.Call.{Call}
use Rattle.blob_script.specs.declared.reply.Reply.{Reply}
use Rattle.blob_script.specs.Acts.{Ask, Write, Resize, AcceptedVersions, Act, Configure, Open, OpenLoose, Admit, Close, Through, Finish, Remove, Scan, Crash, Reopen, act_of}
use Rattle.blob_lab_model.specs.After.{after_act, after_ask, exclusively_opened, held_after}
use Rattle.blob_lab_model.specs.Steps.{is_unnumbered, loose_denial, open_already, open_denial, with_closed, with_images, removal_step as removal, crash_step, rebuilt}
use Rattle.blob_lab_model.specs.Answers.{Answers, kept_at, told_opened}
use Rattle.blob_lab_model.specs.Denials.{refused_if}
use Rattle.blob_lab_model.specs.Exclusive.{HoldNames, Sole}
use Rattle.blob_opens.specs.OpenNames.{OpenNames}
use Rattle.blob_lab_model.specs.Reached.{is_loose, NoneLoose, ReachedExclusively}
use Rattle.blob_lab_model.specs.Runs.{LeadsTo}
use Rattle.blob_lab_model.specs.Scripted.{Words}
use Rattle.blob_lab_model.specs.States.{State, Held, Image, start, held_on, empty_directory, with_image}
use Rattle.blob_script.specs.Told.{refused_by}
use Rattle.blob_lab_model.proofs.ExclusiveSteps.{AreExclusive, IsNew, aged, closed_one, put_back, ended_names, added}
use Rattle.blob_lab_model.proofs.Stale.{ages, asked_directory, none_current, place_after, with_file_stale}
use Rattle.blob_lab_model.proofs.ToldOpens.{exclusive_told}
use Rattle.blob_lab_model.proofs.ToldRefusals.{denied}

abbrev pub Exclusive : State → Type 0
Exclusive v = AreExclusive v.files.directory v.names v.handles

-- What follows.

-- two handles on the same current incarnation have the same registration
pub sole : (v : State) → Exclusive v → Sole v
sole v x i j h k here there now same =
    let place : h.place ≡ k.place = same_place_exact h.place k.place same in
    let first = x.opens i h here now in
    let second = x.opens j k there (ap (is_current v.files.directory) (sym place) ∙ now) in
    x.apart i j h k first.by second.by here there first.held second.held
    (same_Some first.by.number second.by.number (sym first.number ∙ ap (λ (o : Place). v.names.registered o.partition o.name) place ∙ second.number))

-- The start.

no_incarnations : (images : List Image) (d : Directory) → ((o : Place) → is_current d o ≡ false) → (o : Place) → is_current (with_images d images) o ≡ false
no_incarnations [] d none o = none o
no_incarnations (image ∷ images) d none o =
    no_incarnations images (with_image d image) (λ a. with_file_stale d.file image.0 image.1 a.partition a.name (Some (Raw image.2)) a.number a.start refl (none a)) o

pub exclusive_start : (images : List Image) (words : Words) (config : Config) → Exclusive (start images words config)
exclusive_start images words config = record {
  opens = λ i h here now. absurd (none-some h here);
  below = λ i h r here by. absurd (none-some h here);
  apart = λ i j h k r t here there by too same. absurd (none-some h here);
  given = All-nil (λ slot. IfSome slot (λ h. h.place.number < (with_images empty_directory images).next));
  current = λ o now. absurd (false≢true (sym (no_incarnations images empty_directory (λ a. refl) o) ∙ now));
}

-- An open.

pub or_then_none : (first later : Option Refusal) → option_or first later ≡ None → (first ≡ None) × (later ≡ None)
or_then_none None later none = (refl, none)
or_then_none (Some r) later none = cc

not_open : (o : Option ℕ) (r : Refusal) → refused_if r (is_some o) ≡ None → o ≡ None
not_open None r none = refl
not_open (Some k) r none = cc

-- an open is accepted only if the name isn't open
pub open_free : (v : State) (p n : List ℕ) (versions : AcceptedVersions) (answered : Reply) (left : Stream) → Answers v (Open p n (Some versions)) answered left → refused_by answered ≡ None → v.names.registered p n ≡ None
open_free v p n versions answered left answers done =
    ⊎_elim
    (λ memory. absurd (none-some Memory (sym done ∙ memory.1)))
    (λ told.
    let free = sym (denied answered (open_denial v p n versions.0 versions.1) (told_opened v p n versions) refl told.0) ∙ done in
    let later = or_then_none (refused_if GenerationsExhausted (is_unnumbered v.names p n)) (option_or (loose_denial v p n versions.0 versions.1) (open_already v.names p n)) free in
    let last = or_then_none (loose_denial v p n versions.0 versions.1) (open_already v.names p n) later.1 in
    not_open (v.names.registered p n) _ last.1)
    (exclusive_told v p n versions answered left answers)

-- before it, no handle on the name is current
pub fresh : (v : State) (p n : List ℕ) (versions : AcceptedVersions) (answered : Reply) (left : Stream) → Exclusive v → Answers v (Open p n (Some versions)) answered left → refused_by answered ≡ None
    → (i : ℕ) (h : Held) → kept_at v.handles i ≡ Some h → is_current v.files.directory h.place ≡ true → h.place.partition ≡ p → h.place.name ≡ n → ⊥
fresh v p n versions answered left x answers done i h here now partition name =
    let is_open = x.opens i h here now in
    none-some is_open.by.number
    (sym (open_free v p n versions answered left answers done) ∙ sym (ap (λ q. v.names.registered q n) partition) ∙ sym (ap (v.names.registered h.place.partition) name) ∙ is_open.number)

-- the incarnation of a name has the name, and is current
pub record IsOf (d : Directory) (p n : List ℕ) (o : Place) : Type 0 where
  pub partition : o.partition ≡ p
  pub name : o.name ≡ n
  pub current : is_current d o ≡ true

pub current_of : (d : Directory) (p n : List ℕ) (o : Place) → current d p n ≡ Some o → IsOf d p n o
current_of d p n o here = by_file (d.file p n) refl here
  where
    by_file : (file : Option File) → d.file p n ≡ file → place_in p n file ≡ Some o → IsOf d p n o
    by_file None is here = absurd (none-some o here)
    by_file (Some (Raw bytes)) is here = absurd (none-some o here)
    by_file (Some (Incarnation number layout version)) is here = subst (IsOf d p n) (same_Some (place_of p n number layout) o here) (record {
      partition = refl;
      name = refl;
      current = ap (λ (f : Option File). is_that f number (data_start layout)) is ∙ and_from (number == number) (data_start layout == data_start layout) (eq-eqb number number refl) (eq-eqb (data_start layout) (data_start layout) refl);
    })

new_handle : (f : Files) (s : OpenNames) (p n : List ℕ) (o : Option Place) → ((a : Place) → o ≡ Some a → IsOf f.directory p n a) → (h : Held)
    → option_map (held_on f (Some (record { partition = p; name = n; number = s.next }))) o ≡ Some h → IsNew f.directory s p n h
new_handle f s p n None of h new = absurd (none-some h new)
new_handle f s p n (Some o) of h new =
    let it = of o refl in
    subst (IsNew f.directory s p n) (same_Some (held_on f (Some (record { partition = p; name = n; number = s.next })) o) h new)
    (record { registration = refl; partition = it.partition; name = it.name; current = it.current })

exclusive_opened : (v : State) (p n : List ℕ) (versions : AcceptedVersions) (left : Stream) (refusal : Option Refusal) → (refusal ≡ None → v.names.registered p n ≡ None) → Exclusive v → Exclusive (exclusively_opened v p n versions refusal)
exclusive_opened v p n versions left None free x =
    let f = admit (after_open v.files p n versions.0 versions.1) p n in
    let slot = option_map (held_on f (Some (record { partition = p; name = n; number = v.names.next }))) (current f.directory p n) in
    added f.directory v.names v.handles p n slot (new_handle f v.names p n (current f.directory p n) (current_of f.directory p n)) (free refl)
    (aged v.files.directory f.directory v.names v.handles (ages v (Open p n (Some versions)) None left) x)
exclusive_opened v p n versions left (Some (BlobAlreadyOpen q m)) free x =
    aged v.files.directory (after_open v.files p n versions.0 versions.1).directory v.names v.handles (ages v (Open p n (Some versions)) (Some (BlobAlreadyOpen q m)) left) x
exclusive_opened v p n versions left (Some refusal) free x = x

-- The other calls.

exclusive_closed : (v : State) (number : ℕ) (slot : Option Held) → kept_at v.handles number ≡ slot → Exclusive v → Exclusive (with_closed v number slot)
exclusive_closed v number slot here x = closed_one v.files.directory v.names v.handles number slot here x

registration_after : (v : State) (h : Held) (ask : Ask) (refusal : Option Refusal) → (held_after v h ask refusal).registration ≡ h.registration
registration_after v h (Write offset bytes sync) refusal = refl
registration_after v h (Resize len) refusal = refl
registration_after v h ask refusal = refl

exclusive_asked : (v : State) (number : ℕ) (slot : Option Held) (ask : Ask) (refusal : Option Refusal) → kept_at v.handles number ≡ slot → Exclusive v → Exclusive (after_ask v number slot ask refusal)
exclusive_asked v number None ask refusal here x = x
exclusive_asked v number (Some h) ask refusal here x =
    let g = held_after v h ask refusal in
    subst (λ (d : Directory). AreExclusive d v.names (after_ask v number (Some h) ask refusal).handles) (sym (asked_directory v h ask refusal))
    (put_back v.files.directory v.names v.handles number h g here (place_after v h ask refusal) (registration_after v h ask refusal) x)

exclusive_removed : (v : State) (p : List ℕ) (n : Option (List ℕ)) (left : Stream) (refusal : Option Refusal) → Exclusive v → Exclusive (removal v p n refusal)
exclusive_removed v p n left None x = ended_names v.files.directory v.names v.handles p n (ages v (Remove p n) None left) x
exclusive_removed v p n left (Some refusal) x = x

exclusive_crashed : (v : State) (refusal : Option Refusal) → Exclusive v → Exclusive (crash_step v refusal)
exclusive_crashed v None x = x
exclusive_crashed v (Some refusal) x = x

-- no incarnation is current in a rebuilt store
exclusive_rebuilt : (v : State) (left : Stream) → Exclusive v → Exclusive (rebuilt v)
exclusive_rebuilt v left x =
    let y = aged v.files.directory (reopen v.files).directory v.names v.handles (ages v Reopen None left) x in
    record {
      opens = λ i h here now. absurd (false≢true (sym (none_current v.files h.place) ∙ now));
      below = y.below;
      apart = y.apart;
      given = y.given;
      current = y.current;
    }

-- Any call.

pub exclusive_after : (v : State) (act : Act) (answered : Reply) (left : Stream) → Exclusive v → is_loose act ≡ false → Answers v act answered left → Exclusive (after_act v act (refused_by answered) left)
exclusive_after v (Configure config) answered left x strict answers = x
exclusive_after v (Open p n None) answered left x strict answers = x
exclusive_after v (Open p n (Some versions)) answered left x strict answers = exclusive_opened v p n versions left (refused_by answered) (open_free v p n versions answered left answers) x
exclusive_after v (OpenLoose p n versions) answered left x strict answers = absurd (false≢true (sym strict))
exclusive_after v (Admit p n) answered left x strict answers = aged v.files.directory (admit v.files p n).directory v.names v.handles (ages v (Admit p n) None left) x
exclusive_after v (Close number) answered left x strict answers = exclusive_closed v number (kept_at v.handles number) refl x
exclusive_after v (Through number ask) answered left x strict answers = exclusive_asked v number (kept_at v.handles number) ask (refused_by answered) refl x
exclusive_after v (Finish number) answered left x strict answers = x
exclusive_after v (Remove p n) answered left x strict answers = exclusive_removed v p n left (refused_by answered) x
exclusive_after v (Scan p) answered left x strict answers = x
exclusive_after v Crash answered left x strict answers = exclusive_crashed v (refused_by answered) x
exclusive_after v Reopen answered left x strict answers = exclusive_rebuilt v left x

-- Any calls.

pub exclusive_run : (calls : List Call) (replies : List Reply) (v w : State) → Exclusive v → NoneLoose calls → LeadsTo v calls replies w → Exclusive w
exclusive_run [] [] v w x strict same = subst Exclusive same x
exclusive_run [] (r ∷ replies) v w x strict run = absurd run
exclusive_run (call ∷ calls) [] v w x strict run = absurd run
exclusive_run (call ∷ calls) (r ∷ replies) v w x strict (left, answers, run) =
    exclusive_run calls replies (after_act v (act_of call) (refused_by r) left) w
    (exclusive_after v (act_of call) r left x (All-head (λ c. is_loose (act_of c) ≡ false) call calls strict) answers)
    (All-tail (λ c. is_loose (act_of c) ≡ false) call calls strict) run

pub reached_exclusive : (v : State) → ReachedExclusively v → Exclusive v
reached_exclusive v (images, words, config, calls, replies, strict, run) = exclusive_run calls replies (start images words config) v (exclusive_start images words config) strict run

-- The laws.

pub handles_sole : (v : State) → ReachedExclusively v → Sole v
handles_sole v reached = sole v (reached_exclusive v reached)

pub handles_open : (v : State) → ReachedExclusively v → HoldNames v
handles_open v reached = (reached_exclusive v reached).opens
