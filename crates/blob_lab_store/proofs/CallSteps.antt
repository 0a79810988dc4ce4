-- Calls of a laboratory that aren't made through a handle, from what the wrapper, the open names and the tables promise.
use Rattle.std.proofs.Common.{◌≡◌, ℕ, ◌<◌, inr, List, set, ◌∙◌, Option, Some, None, IfSome, refl, sym, ap, subst}
use Rattle.std.specs.Prelude.{slice_get}
use Rattle.std.proofs.lemmas.List.{set-get_or}
use Rattle.std.proofs.lemmas.List.Elements.{All-set}
use Rattle.std.proofs.lemmas.Option.{get_or_from_slice_get}
use Rattle.blob_model.specs.Files.{Files}
use Rattle.blob_faulty.specs.Wrapper.{config_of}
use Rattle.blob_lab_store.specs.declared.lab.Lab.{Lab}
use Rattle.blob_script.specs.declared.reply.Reply.{Reply}
use Rattle.blob_script.specs.declared.reply.Reply.TheVariants as reply
use Rattle.blob_script.specs.Acts.{Close, Finish, Through, Size}
use Rattle.blob_lab_model.specs.After.{after_ask}
use Rattle.blob_lab_model.specs.Steps.{close_registration, with_closed}
use Rattle.blob_lab_model.specs.Answers.{through, kept_at, unless_denied}
use Rattle.blob_lab_store.specs.LabStands.{LabStandsFor, Performs, Wrapper, stream_of}
use Rattle.blob_faulty.specs.Keeps.{IsFor}
use Rattle.blob_opens.specs.Opens.{names_of}
use Rattle.blob_lab_model.specs.States.{Held, Started, AreGiven}
use Rattle.blob_lab_store.specs.Tables.{handles_of, syncs_of}
use Rattle.blob_script.specs.Told as told
use Rattle.blob_script.specs.Told.{Told, Tells}
use Rattle.blob_lab_store.proofs.Performing.{state_of, performs, stands_same}
use Rattle.blob_lab_model.proofs.GivenHandles.{filled}
use Rattle.blob_lab_model.proofs.Slots.{emptied_again}

-- what a close reports for a slot, and what the end of a started sync reports
abbrev closed_told : Option Held → Told
closed_told None = told.NoHandle
closed_told (Some h) = told.Done

abbrev finished_told : Option Started → Told
finished_told None = told.NoHandle
finished_told (Some s) = unless_denied s.outcome told.Done

module _ (lab lab' : Lab) (number : ℕ) (same : lab'.wrapper ≡ lab.wrapper) (syncs : syncs_of lab'.syncs ≡ syncs_of lab.syncs) where
  -- a handle that is closed already, or never was
  pub close_none : kept_at (handles_of lab.handles) number ≡ None → names_of lab'.opens ≡ names_of lab.opens → handles_of lab'.handles ≡ handles_of lab.handles → Performs lab (Close number) reply.NoHandle lab'
  close_none gone names handles = performs lab lab' (Close number) reply.NoHandle
      (λ f s. inr (subst (λ (o : Option Held). Tells reply.NoHandle (closed_told o)) (sym gone) tt, ap stream_of same))
      (λ f s. subst (λ (o : Option Held). LabStandsFor lab' (record (with_closed (state_of lab f) number o) { stream = stream_of lab'.wrapper })) (sym gone) (subst (λ hs. LabStandsFor lab' (record (state_of lab f) { handles = hs; stream = stream_of lab'.wrapper })) (sym (emptied_again (handles_of lab.handles) number gone)) (stands_same lab lab' f same names handles syncs s)))

  -- an open handle
  pub close_some : (h : Held) → kept_at (handles_of lab.handles) number ≡ Some h → names_of lab'.opens ≡ close_registration (names_of lab.opens) h.registration → handles_of lab'.handles ≡ set (handles_of lab.handles) number None → Performs lab (Close number) reply.Done lab'
  close_some h here names handles = performs lab lab' (Close number) reply.Done
      (λ f s. inr (subst (λ (o : Option Held). Tells reply.Done (closed_told o)) (sym here) tt, ap stream_of same))
      (λ f s. subst (λ (o : Option Held). LabStandsFor lab' (record (with_closed (state_of lab f) number o) { stream = stream_of lab'.wrapper })) (sym here)
      (record {
        wrapper = record { files = subst (λ (w : Wrapper). IsFor w f) (sym same) s.wrapper.files; config = ap config_of same; stream = refl };
        names = names;
        handles = handles;
        syncs = syncs;
        given = All-set (λ slot. IfSome slot (λ g. g.place.number < f.directory.next)) (handles_of lab.handles) number None tt s.given;
      }))

-- a slot that is filled with what it has
pub set_kept : (handles : List (Option Held)) (number : ℕ) (h : Held) → kept_at handles number ≡ Some h → set handles number (Some h) ≡ handles
set_kept handles number h here =
    ap (set handles number) (sym (get_or_from_slice_get handles number (Some h) None (filled (slice_get handles number) h here))) ∙ set-get_or handles number None

-- a handle's tracked size
pub size_some : (lab : Lab) (number size : ℕ) (h : Held) → size ≡ h.size → kept_at (handles_of lab.handles) number ≡ Some h → Performs lab (Through number Size) (reply.Size size) lab
size_some lab number size h is here = let table = set_kept (handles_of lab.handles) number h here in performs lab lab (Through number Size) (reply.Size size)
    (λ f s. inr (subst (λ (o : Option Held). Tells (reply.Size size) (through (state_of lab f) o Size).0) (sym here) is, subst (λ (o : Option Held). stream_of lab.wrapper ≡ (through (state_of lab f) o Size).1) (sym here) refl))
    (λ f s. subst (λ (o : Option Held). LabStandsFor lab (record (after_ask (state_of lab f) number o Size None) { stream = stream_of lab.wrapper })) (sym here)
    (record {
      wrapper = record { files = s.wrapper.files; config = refl; stream = refl };
      names = refl;
      handles = sym table;
      syncs = refl;
      given = subst (AreGiven f.directory.next) (sym table) s.given;
    }))

module _ (lab lab' : Lab) (names : names_of lab'.opens ≡ names_of lab.opens) (handles : handles_of lab'.handles ≡ handles_of lab.handles) where
  -- a sync that is finished already, or never was started
  pub finish_none : (number : ℕ) → kept_at (syncs_of lab.syncs) number ≡ None → lab'.wrapper ≡ lab.wrapper → syncs_of lab'.syncs ≡ syncs_of lab.syncs → Performs lab (Finish number) reply.NoHandle lab'
  finish_none number gone same syncs = performs lab lab' (Finish number) reply.NoHandle
      (λ f s. inr (subst (λ (o : Option Started). Tells reply.NoHandle (finished_told o)) (sym gone) tt, ap stream_of same))
      (λ f s. subst (λ ss. LabStandsFor lab' (record (state_of lab f) { syncs = ss; stream = stream_of lab'.wrapper })) (sym (emptied_again (syncs_of lab.syncs) number gone)) (stands_same lab lab' f same names handles syncs s))

  -- a started sync; the reply reports its outcome
  pub finish_some : (number : ℕ) (started : Started) (answered : Reply) → kept_at (syncs_of lab.syncs) number ≡ Some started → Tells answered (unless_denied started.outcome told.Done) → syncs_of lab'.syncs ≡ set (syncs_of lab.syncs) number None
      → config_of lab'.wrapper ≡ config_of lab.wrapper → stream_of lab'.wrapper ≡ stream_of lab.wrapper → ((f : Files) → IsFor lab.wrapper f → IsFor lab'.wrapper f) → Performs lab (Finish number) answered lab'
  finish_some number started answered here tells syncs config stream stands = performs lab lab' (Finish number) answered
      (λ f s. inr (subst (λ (o : Option Started). Tells answered (finished_told o)) (sym here) tells, stream))
      (λ f s. record {
        wrapper = record { files = stands f s.wrapper.files; config = config; stream = refl };
        names = names;
        handles = handles;
        syncs = syncs;
        given = s.given;
      })
