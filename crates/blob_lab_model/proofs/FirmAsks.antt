-- Calls through a handle that don't touch a fixed byte keep it fixed.
use Rattle.std.proofs.Common.{◌≡◌, ℕ, ◌<◌, min, true, false, Option, Some, None, sym, ap, ◌∙◌, subst, set, arith, ⊎_elim}
use Rattle.std.proofs.lemmas.Bool.{leb-false, and_cases, true≢false}
use Rattle.blob_model.specs.Directory.{Directory}
use Rattle.blob_model.specs.Files.{Files}
use Rattle.blob_model.specs.Persistence.{HasByte, IsFixed}
use Rattle.blob_model.specs.Places.{Place, same_place}
use Rattle.blob_header.specs.Refusals.{Refusal}
use Rattle.blob_model.proofs.Persistence.{fixed_all, fixed_published, fixed_started}
use Rattle.blob_draws.specs.Faults.{resize_fate}
use Rattle.blob_draws.specs.Changes.{resize_changes}
use Rattle.blob_draws.specs.Recorded.{recorded_write}
use Rattle.blob_script.specs.Acts.{Ask, Read, Write, Resize, Size, Sync, StartSync}
use Rattle.blob_lab_model.specs.After.{files_after, held_after}
use Rattle.blob_lab_model.specs.Steps.{reaches_through, files_after_start}
use Rattle.blob_lab_model.specs.Answers.{kept_at}
use Rattle.blob_lab_model.specs.Denials.{start_denial}
use Rattle.blob_lab_model.specs.Fixed.{Byte, is_on, asks_for}
use Rattle.blob_lab_model.specs.States.{State, Held}
use Rattle.blob_lab_model.proofs.Firm.{IsFirm, Now, Behind, IsLive, at, live_set, place_on}
use Rattle.blob_lab_model.proofs.Stale.{asked_directory, place_after}
use Rattle.blob_draws.proofs.Unreached.{write_out, write_has, write_grows, IsAbove, reached_above, resize_out, resize_has, resize_counts}

pub held_live : (v : State) (h : Held) (ask : Ask) (refusal : Option Refusal) (b : Byte) → asks_for ask b ≡ false → IsLive b h → IsLive b (held_after v h ask refusal)
held_live v h (Write offset bytes sync) refusal b out l = record {
  live = write_has b.position b.value offset bytes out h.live l.live v.config v.stream sync refusal;
  size = omega (arith, l.size, write_grows v.config v.stream sync h.size offset bytes refusal);
}
held_live v h (Resize len) refusal b out l =
    let fate = (resize_fate v.config.resize_rate h.size len v.stream).0 in
    let below : b.position < min h.size len = omega (arith, l.size, leb-false len b.position out) in
    let above : IsAbove (min h.size len) fate = reached_above v.config.resize_rate h.size len v.stream in
    record {
      live = resize_has b.position len (min h.size len) out below fate b.value h.live refusal above l.live;
      size = resize_counts b.position len (min h.size len) out below fate h.size refusal above l.size;
    }
held_live v h (Read offset len) refusal b out l = l
held_live v h Size refusal b out l = l
held_live v h Sync refusal b out l = l
held_live v h StartSync refusal b out l = l

-- a started sync
fixed_begun : (f : Files) (h : Held) (a : Place) (p v : ℕ) (outcome : Option Refusal) → (same_place h.place a ≡ true → HasByte p v h.live) → IsFixed p v f a → IsFixed p v (files_after_start f h outcome) a
fixed_begun f h a p v None has fixed = fixed_started f h.place a p v h.live has fixed
fixed_begun f h a p v (Some refusal) has fixed = fixed

fixed_asked : (v : State) (h : Held) (ask : Ask) (refusal : Option Refusal) (b : Byte) (o : Place) → (same_place h.place o ≡ true → asks_for ask b ≡ false) → (same_place h.place o ≡ true → IsLive b h)
    → IsFixed b.position b.value v.files o → IsFixed b.position b.value (files_after v h ask refusal) o
fixed_asked v h (Write offset bytes sync) refusal b o out live fixed =
    fixed_all v.files h.place o b.position b.value (recorded_write v.config v.files.next_write v.stream sync offset bytes refusal) (λ same. write_out b.position offset bytes (out same) v.config v.files.next_write v.stream sync refusal) fixed
fixed_asked v h (Resize len) refusal b o out live fixed =
    let fate = (resize_fate v.config.resize_rate h.size len v.stream).0 in
    fixed_all v.files h.place o b.position b.value ((resize_changes fate len refusal).entries v.files.next_write)
    (λ same. resize_out b.position len (min h.size len) (out same) (omega (arith, (live same).size, leb-false len b.position (out same))) fate refusal v.files.next_write (reached_above v.config.resize_rate h.size len v.stream)) fixed
fixed_asked v h Sync None b o out live fixed = fixed_published v.files h.place o b.position b.value h.live (λ same. (live same).live) fixed
fixed_asked v h Sync (Some refusal) b o out live fixed = fixed
fixed_asked v h StartSync None b o out live fixed = fixed_begun v.files h o b.position b.value (start_denial v h) (λ same. (live same).live) fixed
fixed_asked v h StartSync (Some refusal) b o out live fixed = fixed
fixed_asked v h (Read offset len) refusal b o out live fixed = fixed
fixed_asked v h Size refusal b o out live fixed = fixed

pub firm_asked : (v : State) (number : ℕ) (h : Held) (ask : Ask) (refusal : Option Refusal) (b : Byte) → kept_at v.handles number ≡ Some h → reaches_through v (Some h) ask b ≡ false
    → IsFirm v.files v.handles b → IsFirm (files_after v h ask refusal) (set v.handles number (Some (held_after v h ask refusal))) b
firm_asked v number h ask refusal b here out (Now k layout version e fixed live) =
    let o = at b k layout in
    let free : same_place h.place o ≡ true → asks_for ask b ≡ false = λ same.
    ⊎_elim (λ (off : is_on v.files.directory h b ≡ false). absurd (true≢false (sym (place_on v.files.directory b h k layout version e same) ∙ off))) (λ (no : asks_for ask b ≡ false). no) (and_cases (is_on v.files.directory h b) (asks_for ask b) out) in
    let mine : same_place h.place o ≡ true → IsLive b h = live number h here in
    Now k layout version (ap (λ (d : Directory). d.file b.partition b.name) (asked_directory v h ask refusal) ∙ e)
    (fixed_asked v h ask refusal b o free mine fixed)
    (live_set v.handles number (Some (held_after v h ask refusal)) o b (new o free mine) live)
  where
    new : (o : Place) → (same_place h.place o ≡ true → asks_for ask b ≡ false) → (same_place h.place o ≡ true → IsLive b h) → (x : Held) → Some (held_after v h ask refusal) ≡ Some x → same_place x.place o ≡ true → IsLive b x
    new o free mine x is same =
        let e : held_after v h ask refusal ≡ x = cc in
        let on : same_place h.place o ≡ true = subst (λ (a : Place). same_place a o ≡ true) (place_after v h ask refusal) (subst (λ (g : Held). same_place g.place o ≡ true) (sym e) same) in
        subst (IsLive b) e (held_live v h ask refusal b (free on) (mine on))
firm_asked v number h ask refusal b here out (Behind layout version bytes e has) =
    Behind layout version bytes (ap (λ (d : Directory). d.file b.partition b.name) (asked_directory v h ask refusal) ∙ e) has
