-- A byte that one of several calls fixes lasts until another touches it.
use Rattle.std.proofs.Common.{◌≡◌, ℕ, ◌++◌, List, [], ◌∷◌, true, false, Option, Some, None, refl, sym, ap, ◌∙◌, subst, length, ⊎_elim}
use Rattle.std.specs.Prelude.{option_map}
use Rattle.std.proofs.lemmas.List.Elements.{All-nil, All-cons, All-head, All-tail}
use Rattle.std.proofs.lemmas.Option.{none-some, same_Some}
use Rattle.rand_core.specs.Stream.{Stream}
use Rattle.std.specs.Option.{option_or}
use Rattle.blob_model.specs.Directory.{Directory, Incarnation, current, place_in}
use Rattle.blob_model.specs.Files.{Files, with_opening, after_open, admit, durable_at}
use Rattle.blob_model.specs.Opening.{Opening, Continues, Begins, Declines, opening, place_of}
use Rattle.blob_model.specs.Persistence.{HasByte}
use Rattle.blob_model.specs.Places.{Place}
use Rattle.blob_header.specs.Refusals.{Refusal, Memory, GenerationsExhausted, Injected}
use Rattle.blob_draws.specs.Faults.{draw}
use Rattle.blob_memory.specs.Answers.{opening_refusal, open_refusal}
use Rattle.blob_script.specs.declared.call.Call.{Call}
use Rattle.blob_script.specs.declared.reply.Reply.{Reply}
use Rattle.blob_script.specs.declared.reply.Reply.TheVariants as reply
use Rattle.blob_script.specs.Acts.{AcceptedVersions, Act, Open, act_of}
use Rattle.blob_lab_model.specs.After.{after_act}
use Rattle.blob_lab_model.specs.Answers as answers
use Rattle.blob_lab_model.specs.Answers.{Answers, IsAnswer, kept_at, unless_denied}
use Rattle.blob_lab_model.specs.Steps.{is_unnumbered, loose_denial, open_already, open_denial}
use Rattle.blob_lab_model.specs.Denials.{refused_if}
use Rattle.blob_lab_model.specs.Fixed.{Byte, is_of, Opens, Lasts, Persists}
use Rattle.blob_opens.specs.OpenNames.{Registration}
use Rattle.blob_lab_model.specs.Reached.{is_loose, NoneLoose, ReachedExclusively}
use Rattle.blob_lab_model.specs.Runs.{LeadsTo}
use Rattle.blob_lab_model.specs.States.{State, Held, held_on}
use Rattle.blob_script.specs.Told.{Tells, refused_by}
use Rattle.blob_lab_model.proofs.Exclusive.{reached_exclusive, or_then_none}
use Rattle.blob_lab_model.proofs.Firm.{IsFirm, Now, Behind, at, of_parts, firm_has}
use Rattle.blob_lab_model.proofs.FirmSteps.{HasFirm, IsSound, firm_after}
use Rattle.blob_lab_model.proofs.Fixing.{fixes_firm}
use Rattle.blob_lab_model.proofs.FreshLogs.{reached_fresh}
use Rattle.blob_model.proofs.Opened.{continued, with_file_here}
use Rattle.blob_lab_model.proofs.OpensAgain.{valid_open}
use Rattle.blob_lab_model.proofs.GivenHandles.{given_at}
use Rattle.blob_lab_model.proofs.RunSteps.{reached_strictly}
use Rattle.blob_lab_model.proofs.Stale.{admitted_directory}
use Rattle.blob_lab_model.proofs.ToldOpens.{exclusive_told}
use Rattle.blob_lab_model.proofs.ToldRefusals.{denied}

-- The states of a run.

sound : (v : State) → ReachedExclusively v → IsSound v
sound v reached = record {
  given = λ i h here. given_at v.files.directory.next i v.handles h (reached_exclusive v reached).given here;
  fresh = reached_fresh v reached;
}

reached_next : (v : State) (call : Call) (answered : Reply) (left : Stream) → ReachedExclusively v → is_loose (act_of call) ≡ false → Answers v (act_of call) answered left → ReachedExclusively (after_act v (act_of call) (refused_by answered) left)
reached_next v call answered left reached strict a =
    reached_strictly v (after_act v (act_of call) (refused_by answered) left) (call ∷ []) (answered ∷ []) reached
    (All-cons (λ c. is_loose (act_of c) ≡ false) call [] strict (All-nil (λ c. is_loose (act_of c) ≡ false))) (left, a, refl)

-- the same number of replies and calls
abbrev ArePaired : List Call → List Reply → Type 0
ArePaired [] [] = Unit {0}
ArePaired (call ∷ calls) (answered ∷ replies) = ArePaired calls replies
ArePaired calls replies = ⊥

paired : (calls : List Call) (replies : List Reply) (v w : State) → LeadsTo v calls replies w → ArePaired calls replies
paired [] [] v w run = tt
paired [] (r ∷ replies) v w run = absurd run
paired (call ∷ calls) [] v w run = absurd run
paired (call ∷ calls) (r ∷ replies) v w (left, a, run) = paired calls replies (after_act v (act_of call) (refused_by r) left) w run

-- The handle of an accepted open.

-- an opened name has an incarnation
record HasCurrent (f : Files) (p n : List ℕ) : Type 0 where
  pub place : Place
  pub is : current f.directory p n ≡ Some place

opened_current : (f : Files) (p n : List ℕ) (first last : ℕ) (found : Opening) → opening p n (f.directory.file p n) first last ≡ found → opening_refusal found f.directory.next ≡ None → HasCurrent (with_opening f p n found) p n
opened_current f p n first last (Continues number layout version) e free = record { place = place_of p n number layout; is = continued p n (f.directory.file p n) first last number layout version e }
opened_current f p n first last (Begins layout version live) e free = record {
  place = place_of p n f.directory.next layout;
  is = ap (place_in p n) (with_file_here f.directory.file p n (Some (Incarnation f.directory.next layout version)));
}
opened_current f p n first last (Declines refusal) e free = absurd (none-some refusal (sym free))

found_current : (v : State) (p n : List ℕ) (versions : AcceptedVersions) → open_denial v p n versions.0 versions.1 ≡ None → HasCurrent (admit (after_open v.files p n versions.0 versions.1) p n) p n
found_current v p n versions free =
    let later = or_then_none (refused_if GenerationsExhausted (is_unnumbered v.names p n)) (option_or (loose_denial v p n versions.0 versions.1) (open_already v.names p n)) free in
    let loose = or_then_none (loose_denial v p n versions.0 versions.1) (open_already v.names p n) later.1 in
    let store = or_then_none (refused_if Injected (draw v.config.open_rate v.stream).0) (open_refusal v.files.directory p n versions.0 versions.1) loose.0 in
    let c = opened_current v.files p n versions.0 versions.1 (opening p n (v.files.directory.file p n) versions.0 versions.1) refl (valid_open p (opening_refusal (opening p n (v.files.directory.file p n) versions.0 versions.1) v.files.directory.next) store.1).1 in
    record { place = c.place; is = ap (λ (d : Directory). current d p n) (admitted_directory (after_open v.files p n versions.0 versions.1) p n) ∙ c.is }

kept_last : (handles : List (Option Held)) (slot : Option Held) → kept_at (handles ++ slot ∷ []) (length handles) ≡ slot
kept_last [] slot = refl
kept_last (h ∷ handles) slot = kept_last handles slot

-- the handle reads a fixed byte
firm_current : (f : Files) (handles : List (Option Held)) (p n : List ℕ) (b : Byte) (o : Place) → is_of p (Some n) b ≡ true → current f.directory p n ≡ Some o → IsFirm f handles b → HasByte b.position b.value (durable_at f o)
firm_current f handles p n b o own is firm = by_firm firm where
  here : current f.directory b.partition b.name ≡ Some o
  here = let names = of_parts f.directory b p n own in (λ i. current f.directory (sym names.0 i) (sym names.1 i)) ∙ is

  by_firm : IsFirm f handles b → HasByte b.position b.value (durable_at f o)
  by_firm (Now number layout version e fixed live) =
      let same : at b number layout ≡ o = same_Some (at b number layout) o (sym (ap (place_in b.partition b.name) e) ∙ here) in
      subst (λ (x : Place). HasByte b.position b.value (durable_at f x)) same fixed.durable
  by_firm (Behind layout version bytes e has) = absurd (none-some o (sym (ap (place_in b.partition b.name) e) ∙ here))

opens_with : (v : State) (act : Act) (answered : Reply) (left : Stream) (b : Byte) → Answers v act answered left → HasFirm (after_act v act (refused_by answered) left) b → Opens (after_act v act (refused_by answered) left) act answered b
opens_with v (Open p n (Some versions)) (reply.Opened handle size version) left b a firm = λ own.
    let f = admit (after_open v.files p n versions.0 versions.1) p n in
    let registration : Option Registration = Some (record { partition = p; name = n; number = v.names.next }) in
    let tells = ⊎_elim (λ memory. absurd (none-some Memory memory.1)) (λ told. told.0) (exclusive_told v p n versions (reply.Opened handle size version) left a) in
    let free = sym (denied (reply.Opened handle size version) (open_denial v p n versions.0 versions.1) (answers.told_opened v p n versions) refl tells) in
    let c = found_current v p n versions free in
    let number : handle ≡ length v.handles = (subst (λ (x : Option Refusal). Tells (reply.Opened handle size version) (unless_denied x (answers.told_opened v p n versions))) free tells).0 in (
      held_on f registration c.place,
      ap (kept_at (v.handles ++ option_map (held_on f registration) (current f.directory p n) ∷ [])) number
          ∙ kept_last v.handles (option_map (held_on f registration) (current f.directory p n))
          ∙ ap (option_map (held_on f registration)) c.is,
      firm_current f _ p n b c.place own c.is firm,
    )
opens_with v (Open p n None) (reply.Opened handle size version) left b a firm = λ own. absurd (⊎_elim (λ memory. none-some Memory memory.1) (λ told. told.0) a)
opens_with v act answered left b a firm = tt

-- Lists of calls.

lasts : (calls : List Call) (replies : List Reply) (v : State) (b : Byte) → ReachedExclusively v → NoneLoose calls → ArePaired calls replies → HasFirm v b → Lasts v b calls replies
lasts [] [] v b reached strict pairs firm = firm_has v b firm
lasts [] (r ∷ replies) v b reached strict pairs firm = absurd pairs
lasts (call ∷ calls) [] v b reached strict pairs firm = absurd pairs
lasts (call ∷ calls) (r ∷ replies) v b reached strict pairs firm = (
  firm_has v b firm,
  λ left a free.
      let next = firm_after v b (sound v reached) firm (act_of call) (refused_by r) left free in
      let first = All-head (λ c. is_loose (act_of c) ≡ false) call calls strict in
      let rest = All-tail (λ c. is_loose (act_of c) ≡ false) call calls strict in
      (opens_with v (act_of call) r left b a next, lasts calls replies (after_act v (act_of call) (refused_by r) left) b (reached_next v call r left reached first a) rest pairs next),
)

persists : (calls : List Call) (replies : List Reply) (v : State) → ReachedExclusively v → NoneLoose calls → ArePaired calls replies → Persists v calls replies
persists [] [] v reached strict pairs = tt
persists [] (r ∷ replies) v reached strict pairs = absurd pairs
persists (call ∷ calls) [] v reached strict pairs = absurd pairs
persists (call ∷ calls) (r ∷ replies) v reached strict pairs = λ left a.
    let first = All-head (λ c. is_loose (act_of c) ≡ false) call calls strict in
    let rest = All-tail (λ c. is_loose (act_of c) ≡ false) call calls strict in
    let w = after_act v (act_of call) (refused_by r) left in
    let next : ReachedExclusively w = reached_next v call r left reached first a in
    (λ b fixes. lasts calls replies w b next rest pairs (fixes_firm v (act_of call) r left b reached a fixes), persists calls replies w next rest pairs)

pub run_persists : (v w : State) (calls : List Call) (replies : List Reply) → ReachedExclusively v → NoneLoose calls → LeadsTo v calls replies w → Persists v calls replies
run_persists v w calls replies reached strict run = persists calls replies v reached strict (paired calls replies v w run)
