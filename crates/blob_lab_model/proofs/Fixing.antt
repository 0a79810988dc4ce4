-- With exclusive opens only, a byte that a call fixes is fixed afterwards.
use Rattle.std.specs.Prelude.{slice_index}
use Rattle.std.proofs.Common.{◌≡◌, ℕ, ◌+◌, ◌-◌, ◌<◌, ◌≤◌, length, List, true, false, Option, Some, None, refl, sym, ap, ◌∙◌, subst, set, arith, ⊎_elim}
use Rattle.std.proofs.lemmas.Bool.{and_parts, cond-true, false≢true, cases_Bool}
use Rattle.std.proofs.lemmas.Option.{same_Some}
use Rattle.rand_core.specs.Stream.{Stream}
use Rattle.blob_header.specs.declared.layout.Layout.{Layout}
use Rattle.blob_model.specs.Directory.{Directory, File, Raw, Incarnation, current, place_in, is_that, is_current}
use Rattle.blob_model.specs.Files.{Files, all_logged, publish, admit, admitted_at, after_open, durable_at}
use Rattle.blob_model.specs.Log.{Entry}
use Rattle.blob_model.specs.Persistence.{HasByte, IsFixed}
use Rattle.blob_model.specs.Places.{Place, same_place}
use Rattle.blob_header.specs.Refusals.{Refusal}
use Rattle.blob_model.specs.SamePlace.{same_place_exact, same_self, same_back}
use Rattle.blob_model.proofs.Durables.{durable_published}
use Rattle.blob_model.proofs.Persistence.{fixed_by_write, new_written, fixed_by_sync, fixed_by_start, fixed_by_open}
use Rattle.blob_script.specs.declared.reply.Reply.{Reply}
use Rattle.blob_script.specs.Acts.{Ask, Read, Write, Resize, Size, Sync, StartSync, AcceptedVersions, Act, Open, Through}
use Rattle.blob_lab_model.specs.After.{after_act, after_ask, files_after, held_after, exclusively_opened}
use Rattle.blob_lab_model.specs.Steps.{write_denial, asks_memory, files_after_start}
use Rattle.blob_lab_model.specs.Answers.{Answers, IsAnswer, through, kept_at}
use Rattle.blob_lab_model.specs.Denials.{start_denial}
use Rattle.blob_lab_model.specs.Exclusive.{Sole}
use Rattle.blob_lab_model.specs.Fixed.{Byte, is_of, is_on, HasIn, HasDurably, FixesThrough, Fixes}
use Rattle.blob_lab_model.specs.Reached.{ReachedExclusively}
use Rattle.blob_lab_model.specs.States.{State, Held}
use Rattle.blob_script.specs.Told.{refused_by}
use Rattle.blob_lab_model.proofs.ReachedStates.{current_sized}
use Rattle.blob_lab_model.proofs.Exclusive.{Exclusive, sole, fresh, reached_exclusive}
use Rattle.blob_lab_model.proofs.Firm.{IsFirm, Now, Behind, IsLive, AreLive, at, of_parts, on_file, on_place, current_at, firm_held}
use Rattle.blob_lab_model.proofs.FirmSteps.{HasFirm}
use Rattle.blob_lab_model.proofs.GivenHandles.{given_at}
use Rattle.blob_lab_model.proofs.Slots.{kept_set}
use Rattle.blob_lab_model.proofs.Stale.{admitted_directory, asked_directory, ages}
use Rattle.blob_lab_model.proofs.DoneWrites.{was_done, kept_whole, live_whole, size_whole, write_free}

-- Through a handle.

-- the incarnation of a handle on a byte's blob
record IsAt (v : State) (h : Held) (b : Byte) : Type 0 where
  pub number : ℕ
  pub layout : Layout
  pub version : ℕ
  pub file : v.files.directory.file b.partition b.name ≡ Some (Incarnation number layout version)
  pub place : same_place h.place (at b number layout) ≡ true

is_at : (v : State) (h : Held) (b : Byte) → is_on v.files.directory h b ≡ true → IsAt v h b
is_at v h b on = go (v.files.directory.file b.partition b.name) refl (on_file v.files.directory b h on) where
  go : (file : Option File) → v.files.directory.file b.partition b.name ≡ file → is_that file h.place.number h.place.start ≡ true → IsAt v h b
  go None e that = absurd (false≢true that)
  go (Some (Raw raw)) e that = absurd (false≢true that)
  go (Some (Incarnation number layout version)) e that = record { number = number; layout = layout; version = version; file = e; place = on_place v.files.directory b h number layout version e on }

module _ (v : State) (b : Byte) (number : ℕ) (h : Held) (here : kept_at v.handles number ≡ Some h) (on : is_on v.files.directory h b ≡ true) (alone : Sole v) where
  -- a call fixes it in the handle's incarnation and live bytes; no other handle is on the incarnation
  through_firm : (ask : Ask) → IsFixed b.position b.value (files_after v h ask None) h.place → IsLive b (held_after v h ask None) → IsFirm (files_after v h ask None) (set v.handles number (Some (held_after v h ask None))) b
  through_firm ask fixed live =
      let a = is_at v h b on in
      let o = at b a.number a.layout in
      let exact : h.place ≡ o = same_place_exact h.place o a.place in
      Now a.number a.layout a.version
      (ap (λ (d : Directory). d.file b.partition b.name) (asked_directory v h ask None) ∙ a.file)
      (subst (λ (x : Place). IsFixed b.position b.value (files_after v h ask None) x) exact fixed)
      (λ i k there same. ⊎_elim
      (λ (new : (number ≡ i) × (Some (held_after v h ask None) ≡ Some k)). subst (IsLive b) (same_Some (held_after v h ask None) k new.1) live)
      (λ (old : (number ≡ i → ⊥) × (kept_at v.handles i ≡ Some k)). absurd (old.0 (alone number i h k here old.1 now (with_other o exact k same))))
      (kept_set v.handles number (Some (held_after v h ask None)) i k there))
    where
      now : is_current v.files.directory h.place ≡ true
      now = (and_parts (is_of h.place.partition (Some h.place.name) b) (is_current v.files.directory h.place) on).1

      with_other : (o : Place) → h.place ≡ o → (k : Held) → same_place k.place o ≡ true → same_place h.place k.place ≡ true
      with_other o exact k same = subst (λ (x : Place). same_place x k.place ≡ true) (sym exact) (same_back o k.place ∙ same)

  sync_firm : HasByte b.position b.value h.live → b.position < h.size → IsFirm (files_after v h Sync None) (set v.handles number (Some h)) b
  sync_firm has size = through_firm Sync (fixed_by_sync v.files h.place b.position b.value h.live has) (record { live = has; size = size })

  start_firm : start_denial v h ≡ None → HasByte b.position b.value h.live → b.position < h.size → IsFirm (files_after v h StartSync None) (set v.handles number (Some h)) b
  start_firm free has size = through_firm StartSync
      (subst (λ (x : Option Refusal). IsFixed b.position b.value (files_after_start v.files h x) h.place) (sym free) (fixed_by_start v.files h.place b.position b.value h.live has))
      (record { live = has; size = size })

  abbrev Submits : ℕ → List ℕ → Type 0
  Submits offset bytes = (offset ≤ b.position) × (b.position < offset + length bytes) × (slice_index bytes (b.position - offset) ≡ b.value)

  write_firm : (offset : ℕ) (bytes : List ℕ) → write_denial v h offset bytes true ≡ None → Submits offset bytes
      → IsFirm (files_after v h (Write offset bytes true) None) (set v.handles number (Some (held_after v h (Write offset bytes true) None))) b
  write_firm offset bytes free submits =
      let done = was_done v h offset bytes (omega (arith, submits.0, submits.1)) free in
      through_firm (Write offset bytes true)
      (subst (λ (es : List Entry). IsFixed b.position b.value (all_logged v.files h.place es) h.place) (sym (kept_whole v h offset bytes done)) (fixed_by_write v.files h.place b.position b.value offset bytes submits.0 submits.1 submits.2))
      (record {
        live = subst (λ (x : List ℕ). HasByte b.position b.value x) (sym (live_whole v h offset bytes done)) (new_written h.live b.position b.value offset bytes submits.0 submits.1 submits.2);
        size = omega (arith, size_whole v h offset bytes done, submits.1);
      })

-- A handle's tracked size is the length of its live bytes.
counted : (v : State) (number : ℕ) (h : Held) (b : Byte) → ReachedExclusively v → kept_at v.handles number ≡ Some h → is_on v.files.directory h b ≡ true → HasByte b.position b.value h.live → b.position < h.size
counted v number h b (images, words, config, calls, replies, strict, run) here on has =
    let now = (and_parts (is_of h.place.partition (Some h.place.name) b) (is_current v.files.directory h.place) on).1 in
    omega (arith, has.0, current_sized v number h (images, words, config, calls, replies, run) here now)

fixes_through : (v : State) (number : ℕ) (slot : Option Held) (ask : Ask) (answered : Reply) (left : Stream) (b : Byte) → ReachedExclusively v → kept_at v.handles number ≡ slot
    → Answers v (Through number ask) answered left → refused_by answered ≡ None → FixesThrough v slot ask b → HasFirm (after_ask v number slot ask None) b
fixes_through v number None ask answered left b reached here answers done fixes = absurd fixes
fixes_through v number (Some h) Sync answered left b reached here answers done fixes =
    sync_firm v b number h here fixes.0 (sole v (reached_exclusive v reached)) fixes.1 (counted v number h b reached here fixes.0 fixes.1)
fixes_through v number (Some h) StartSync answered left b reached here answers done fixes =
    start_firm v b number h here fixes.0 (sole v (reached_exclusive v reached)) fixes.1 fixes.2 (counted v number h b reached here fixes.0 fixes.2)
fixes_through v number (Some h) (Write offset bytes true) answered left b reached here answers done fixes =
    let asks : IsAnswer true (through v (Some h) (Write offset bytes true)) answered left = subst (λ (x : Option Held). IsAnswer (asks_memory (Write offset bytes true) x) (through v x (Write offset bytes true)) answered left) here answers in
    write_firm v b number h here fixes.0 (sole v (reached_exclusive v reached)) offset bytes (write_free v h offset bytes answered left asks done) (fixes.1, omega (arith, fixes.1, fixes.2.0), fixes.2.1)
fixes_through v number (Some h) (Write offset bytes false) answered left b reached here answers done fixes = absurd fixes
fixes_through v number (Some h) (Read offset len) answered left b reached here answers done fixes = absurd fixes
fixes_through v number (Some h) (Resize len) answered left b reached here answers done fixes = absurd fixes
fixes_through v number (Some h) Size answered left b reached here answers done fixes = absurd fixes

-- An open.

module _ (v : State) (p n : List ℕ) (versions : AcceptedVersions) (answered : Reply) (left : Stream) (b : Byte) (x : Exclusive v)
    (answers : Answers v (Open p n (Some versions)) answered left) (done : refused_by answered ≡ None) (own : is_of p (Some n) b ≡ true) where
  abbrev found : Files
  found = after_open v.files p n versions.0 versions.1

  abbrev opened : State
  opened = exclusively_opened v p n versions None

  -- no handle is on the incarnation that it finds or creates
  none_on : (number : ℕ) (layout : Layout) (version : ℕ) → opened.files.directory.file b.partition b.name ≡ Some (Incarnation number layout version) → AreLive v.handles (at b number layout) b
  none_on number layout version e i k here same =
      let o = at b number layout in
      let exact : k.place ≡ o = same_place_exact k.place o same in
      let names = of_parts v.files.directory b p n own in
      let now : is_current opened.files.directory k.place ≡ true = ap (is_current opened.files.directory) exact ∙ current_at opened.files.directory b number layout version e in
      absurd (⊎_elim
      (λ (current : is_current v.files.directory k.place ≡ true). fresh v p n versions answered left x answers done i k here current (ap (λ (a : Place). a.partition) exact ∙ sym names.0) (ap (λ (a : Place). a.name) exact ∙ sym names.1))
      (λ (stale : is_current v.files.directory k.place ≡ false). false≢true (sym ((ages v (Open p n (Some versions)) None left).stale k.place (given_at v.files.directory.next i v.handles k x.given here) stale) ∙ now))
      (cases_Bool (is_current v.files.directory k.place)))

  -- the durable bytes that it finds are published
  published_here : (number : ℕ) (layout : Layout) (version : ℕ) → opened.files.directory.file b.partition b.name ≡ Some (Incarnation number layout version) → HasByte b.position b.value (durable_at opened.files (at b number layout))
      → IsFixed b.position b.value opened.files (at b number layout)
  published_here number layout version e has =
      let o = at b number layout in
      let names = of_parts v.files.directory b p n own in
      let file : found.directory.file b.partition b.name ≡ Some (Incarnation number layout version) = sym (ap (λ (d : Directory). d.file b.partition b.name) (admitted_directory found p n)) ∙ e in
      let here : current found.directory p n ≡ Some o = (λ i. current found.directory (names.0 i) (names.1 i)) ∙ ap (place_in b.partition b.name) file in
      let same : admit found p n ≡ publish found o (durable_at found o) = ap (admitted_at found) here in
      let kept : durable_at opened.files o ≡ durable_at found o = ap (λ (f : Files). durable_at f o) same ∙ durable_published found o (durable_at found o) o ∙ cond-true (same_place o o) _ _ (same_self o) in
      subst (λ (f : Files). IsFixed b.position b.value f o) (sym same) (fixed_by_open found o b.position b.value (subst (λ (y : List ℕ). HasByte b.position b.value y) kept has))

  opened_firm : HasDurably opened.files b → HasFirm opened b
  opened_firm has = firm_held opened.files v.handles p n _ b (by_file (opened.files.directory.file b.partition b.name) refl has) where
    by_file : (file : Option File) → opened.files.directory.file b.partition b.name ≡ file → HasIn opened.files file b → IsFirm opened.files v.handles b
    by_file None e in' = absurd in'
    by_file (Some (Raw raw)) e in' = Behind in'.0 in'.1 in'.2 (e ∙ ap (λ (r : List ℕ). Some (Raw r)) in'.3) in'.4
    by_file (Some (Incarnation number layout version)) e in' = Now number layout version e (published_here number layout version e in') (none_on number layout version e)

-- Any call.

refused_none : (v : State) (act : Act) (refusal : Option Refusal) (b : Byte) → Fixes v act refusal b → refusal ≡ None
refused_none v act None b fixes = refl
refused_none v (Through number ask) (Some refusal) b fixes = absurd fixes
refused_none v (Open p n (Some versions)) (Some refusal) b fixes = absurd fixes
refused_none v act (Some refusal) b fixes = absurd fixes

pub fixes_firm : (v : State) (act : Act) (answered : Reply) (left : Stream) (b : Byte) → ReachedExclusively v → Answers v act answered left → Fixes v act (refused_by answered) b → HasFirm (after_act v act (refused_by answered) left) b
fixes_firm v act answered left b reached answers fixes =
    let done = refused_none v act (refused_by answered) b fixes in
    subst (λ (r : Option Refusal). HasFirm (after_act v act r left) b) (sym done) (by_act act answers (subst (λ (r : Option Refusal). Fixes v act r b) done fixes) done)
  where
    by_act : (a : Act) → Answers v a answered left → Fixes v a None b → refused_by answered ≡ None → HasFirm (after_act v a None left) b
    by_act (Through number ask) s f done = fixes_through v number (kept_at v.handles number) ask answered left b reached refl s done f
    by_act (Open p n (Some versions)) s f done = opened_firm v p n versions answered left b (reached_exclusive v reached) s done f.0 f.1
    by_act a s f done = absurd f
