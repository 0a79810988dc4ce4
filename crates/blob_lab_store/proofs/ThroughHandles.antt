-- Calls through a handle, from what is asked of the handle and the wrapper.
use Rattle.std.proofs.Common.{◌≡◌, ℕ, ◌<◌, inr, List, set, Bool, true, Option, Some, None, IfSome, refl, sym, ap, ◌∙◌, subst}
use Rattle.std.proofs.lemmas.List.Elements.{All-set}
use Rattle.blob_model.specs.Directory.{Directory}
use Rattle.blob_model.specs.Places.{Place}
use Rattle.blob_header.specs.Refusals.{Refusal}
use Rattle.blob_lab_store.specs.declared.lab.Lab.{Lab}
use Rattle.blob_script.specs.declared.reply.Reply.{Reply}
use Rattle.blob_script.specs.declared.reply.Reply.TheVariants.{NoHandle}
use Rattle.blob_script.specs.Acts.{Ask, Size, StartSync, Through}
use Rattle.blob_lab_model.specs.After.{after_ask, files_after, held_after, syncs_after}
use Rattle.blob_lab_model.specs.Answers.{IsAnswer, through, may_grow, kept_at}
use Rattle.blob_lab_model.specs.Steps.{asks_memory}
use Rattle.blob_lab_store.specs.LabStands.{LabStandsFor, Performs, PerformsAsk, StartsSync, stream_of}
use Rattle.blob_opens.specs.Opens.{names_of}
use Rattle.blob_lab_model.specs.States.{State, Held, AreGiven}
use Rattle.blob_lab_store.specs.Tables.{handles_of, syncs_of}
use Rattle.blob_script.specs.Told.{refused_by}
use Rattle.blob_lab_store.proofs.Performing.{state_of, performs, stands_same}
use Rattle.blob_lab_model.proofs.GivenHandles.{given_at}
use Rattle.blob_lab_model.proofs.Stale.{asked_directory, place_after}

-- all handles stay on numbers that were given if one is replaced by another on the same incarnation
given_after : (d d' : Directory) (handles : List (Option Held)) (number : ℕ) (h h' : Held) → d' ≡ d → h'.place ≡ h.place → h.place.number < d.next → AreGiven d.next handles → AreGiven d'.next (set handles number (Some h'))
given_after d d' handles number h h' same place below given =
    subst (λ (e : Directory). AreGiven e.next (set handles number (Some h'))) (sym same)
    (All-set (λ slot. IfSome slot (λ g. g.place.number < d.next)) handles number (Some h') (subst (λ (o : Place). o.number < d.next) (sym place) below) given)

grows_as : (v : State) (number : ℕ) (ask : Ask) → may_grow v (Through number ask) ≡ asks_memory ask (kept_at v.handles number)
grows_as v number Size = refl
grows_as v number ask = refl

module _ (lab lab' : Lab) (number : ℕ) (ask : Ask) (names : names_of lab'.opens ≡ names_of lab.opens) (syncs : syncs_of lab'.syncs ≡ syncs_of lab.syncs) where
  -- a closed handle, or one that never was
  pub through_none : kept_at (handles_of lab.handles) number ≡ None → lab'.wrapper ≡ lab.wrapper → handles_of lab'.handles ≡ handles_of lab.handles → Performs lab (Through number ask) NoHandle lab'
  through_none gone w hs = performs lab lab' (Through number ask) NoHandle
      (λ f s. subst (λ (o : Option Held). IsAnswer (may_grow (state_of lab f) (Through number ask)) (through (state_of lab f) o ask) NoHandle (stream_of lab'.wrapper)) (sym gone) (inr (tt, ap stream_of w)))
      (λ f s. subst (λ (o : Option Held). LabStandsFor lab' (record (after_ask (state_of lab f) number o ask None) { stream = stream_of lab'.wrapper })) (sym gone) (stands_same lab lab' f w names hs syncs s))

  module _ (h h' : Held) (reply : Reply) (grows : asks_memory ask (Some h) ≡ true) (plain : (v : State) (r : Option Refusal) → syncs_after v h ask r ≡ v.syncs) where
    -- an open handle, that is put back into its slot
    pub through_some : kept_at (handles_of lab.handles) number ≡ Some h → PerformsAsk lab.wrapper h ask reply lab'.wrapper h' → handles_of lab'.handles ≡ set (handles_of lab.handles) number (Some h') → Performs lab (Through number ask) reply lab'
    through_some here asks table = performs lab lab' (Through number ask) reply
        (λ f s.
        let a : IsAnswer true (through (state_of lab f) (Some h) ask) reply (stream_of lab'.wrapper) = asks.answers (state_of lab f) s.wrapper in
        subst (λ (o : Option Held). IsAnswer (may_grow (state_of lab f) (Through number ask)) (through (state_of lab f) o ask) reply (stream_of lab'.wrapper)) (sym here)
        (subst (λ (b : Bool). IsAnswer b (through (state_of lab f) (Some h) ask) reply (stream_of lab'.wrapper)) (sym (grows_as (state_of lab f) number ask ∙ ap (asks_memory ask) here ∙ grows)) a))
        (λ f s.
        let v = state_of lab f in
        let r = refused_by reply in
        let below : h.place.number < f.directory.next = given_at f.directory.next number (handles_of lab.handles) h s.given here in
        let now = asks.stands v s.wrapper below in
        subst (λ (o : Option Held). LabStandsFor lab' (record (after_ask v number o ask r) { stream = stream_of lab'.wrapper })) (sym here)
        (record {
          wrapper = record { files = now.files; config = now.config; stream = refl };
          names = names;
          handles = table ∙ ap (λ g. set (handles_of lab.handles) number (Some g)) (asks.held v s.wrapper);
          syncs = syncs ∙ sym (plain v r);
          given = given_after f.directory (files_after v h ask r).directory (handles_of lab.handles) number h (held_after v h ask r) (asked_directory v h ask r) (place_after v h ask r) below s.given;
        }))

-- a sync that is started by an open handle, which is put back into its slot
pub through_started : (lab lab' : Lab) (number : ℕ) (h : Held) (reply : Reply) → names_of lab'.opens ≡ names_of lab.opens → kept_at (handles_of lab.handles) number ≡ Some h
    → StartsSync lab.wrapper h (syncs_of lab.syncs) reply lab'.wrapper h (syncs_of lab'.syncs) → handles_of lab'.handles ≡ set (handles_of lab.handles) number (Some h) → Performs lab (Through number StartSync) reply lab'
through_started lab lab' number h reply names here starts table = performs lab lab' (Through number StartSync) reply
    (λ f s. subst (λ (o : Option Held). IsAnswer (asks_memory StartSync o) (through (state_of lab f) o StartSync) reply (stream_of lab'.wrapper)) (sym here) (starts.answers (state_of lab f) s.wrapper refl))
    (λ f s.
    let v = state_of lab f in
    let r = refused_by reply in
    let below : h.place.number < f.directory.next = given_at f.directory.next number (handles_of lab.handles) h s.given here in
    let now = starts.stands v s.wrapper below in
    subst (λ (o : Option Held). LabStandsFor lab' (record (after_ask v number o StartSync r) { stream = stream_of lab'.wrapper })) (sym here)
    (record {
      wrapper = record { files = now.files; config = now.config; stream = refl };
      names = names;
      handles = table;
      syncs = starts.table v s.wrapper refl;
      given = given_after f.directory (files_after v h StartSync r).directory (handles_of lab.handles) number h h (asked_directory v h StartSync r) refl below s.given;
    }))
