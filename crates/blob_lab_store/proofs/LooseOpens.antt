-- Opens of the wrapper alone.
use Rattle.std.proofs.Common.{◌≡◌, ℕ, ◌++◌, List, [], ◌∷◌, Option, Some, None, refl, sym, ap, ◌∙◌, subst, length}
use Rattle.std.specs.Prelude.{option_map}
use Rattle.std.specs.Option.{option_or}
use Rattle.blob_model.specs.Directory.{Directory, current}
use Rattle.blob_model.specs.Durable.{Durable}
use Rattle.blob_model.specs.Files.{Files, after_open}
use Rattle.blob_model.specs.Opening.{IsOpened, opening}
use Rattle.blob_model.specs.Places.{Place}
use Rattle.blob_header.specs.Refusals.{Refusal, refusal_of, Injected}
use Rattle.blob_header.specs.declared.error.Error.{Error}
use Rattle.blob_header.specs.declared.version.BlobVersion.{BlobVersion}
use Rattle.blob_model.proofs.NameSteps.{read_by_open}
use Rattle.blob_draws.specs.Answers.{injected_or}
use Rattle.blob_draws.specs.Faults.{draw}
use Rattle.blob_faulty.specs.Wrapper.{config_of, inner_of as store_of}
use Rattle.blob_memory.specs.Answers.{OrMemory, open_refusal}
use Rattle.blob_memory.specs.Store.{directory, durable}
use Rattle.blob_lab_store.specs.declared.lab.Lab.{Lab}
use Rattle.blob_script.specs.declared.reply.Reply.TheVariants as reply
use Rattle.blob_script.specs.Acts.{OpenLoose}
use Rattle.blob_lab_model.specs.Answers.{told_opened, opened_size, opened_version}
use Rattle.blob_lab_model.specs.Steps.{loose_denial}
use Rattle.blob_lab_model.specs.Denials.{refused_if}
use Rattle.blob_lab_store.specs.LabStands.{LabStandsFor, Performs, Wrapper, stream_of}
use Rattle.blob_faulty.specs.Keeps.{IsFor}
use Rattle.blob_opens.specs.OpenNames.{Registration}
use Rattle.blob_opens.specs.Opens.{names_of}
use Rattle.blob_lab_model.specs.States.{Held, AreGiven, held_on}
use Rattle.blob_lab_store.specs.Tables.{handles_of, syncs_of}
use Rattle.blob_script.specs.Told.{Tells}
use Rattle.blob_lab_model.proofs.Denying.{drawn_denial, not_memory}
use Rattle.blob_lab_store.proofs.OpenSteps.{held_opened, size_found, version_found, given_opened}
use Rattle.blob_model.proofs.Opened.{current_opened}
use Rattle.blob_lab_store.proofs.Performing.{state_of, performs}
use Rattle.blob_lab_model.proofs.Telling.{done_answers, failed_answers}

-- What the wrapper's own open may answer.

module _ (w : Wrapper) (p n : List ℕ) (first last : ℕ) where
  abbrev pub IsOpenAllowed : Option Refusal → Type 0
  IsOpenAllowed answer = injected_or (draw (config_of w).open_rate (stream_of w)).0 (OrMemory (open_refusal (directory (store_of w)) p n first last)) answer

  abbrev pub open_denied_by : Directory → Option Refusal
  open_denied_by d = option_or (refused_if Injected (draw (config_of w).open_rate (stream_of w)).0) (open_refusal d p n first last)

  pub open_denied : (answer : Option Refusal) → IsOpenAllowed answer → OrMemory (open_denied_by (directory (store_of w))) answer
  open_denied answer a = drawn_denial (draw (config_of w).open_rate (stream_of w)).0 (OrMemory (open_refusal (directory (store_of w)) p n first last)) (open_refusal (directory (store_of w)) p n first last) (λ answer' m. m) answer a

-- An accepted open: `w` is the wrapper that it left, `lab'` what there is once the handle is added.

module _ (lab lab' : Lab) (w : Wrapper) (p n : List ℕ) (first last : ℕ) (o : Place) (live : List ℕ) (version : ℕ) (h : Held) (number size : ℕ) (ver : BlobVersion)
    (opens : IsOpened (directory (store_of lab.wrapper)) (durable (store_of lab.wrapper)) (directory (store_of w)) (durable (store_of w)) p n first last o live version)
    (count : number ≡ length (handles_of lab.handles)) (long : size ≡ length live) (told-version : ver.0 ≡ version)
    (place : h.place ≡ o) (bytes : h.live ≡ live) (tracked : h.size ≡ length live) (table : handles_of lab'.handles ≡ handles_of lab.handles ++ Some h ∷ [])
    (names : directory (store_of lab'.wrapper) ≡ directory (store_of w)) (contents : durable (store_of lab'.wrapper) ≡ durable (store_of w)) where
  pub open_tells : (f : Files) → LabStandsFor lab (state_of lab f) → Tells (reply.Opened number size ver) (told_opened (state_of lab f) p n (first, last))
  open_tells f s =
      let same : directory (store_of lab.wrapper) ≡ f.directory = s.wrapper.files.directory in (
        count,
        long ∙ size_found lab.wrapper f (directory (store_of w)) (durable (store_of w)) p n first last o live version s.wrapper.files opens ∙ ap (λ (d : Directory). opened_size f p n (opening p n (d.file p n) first last)) same,
        told-version ∙ version_found (directory (store_of lab.wrapper)) (directory (store_of w)) (durable (store_of lab.wrapper)) (durable (store_of w)) p n first last o live version opens ∙ ap (λ (d : Directory). opened_version (opening p n (d.file p n) first last)) same,
      )

  pub open_adds : (f : Files) (registration : Option Registration) → h.registration ≡ registration → IsFor lab'.wrapper f → handles_of lab'.handles ≡ handles_of lab.handles ++ option_map (held_on f registration) (current f.directory p n) ∷ []
  open_adds f registration registered s =
      table ∙ ap (λ (x : Option Held). handles_of lab.handles ++ x ∷ [])
      (held_opened lab'.wrapper f p n o live h registration s
      (ap (λ (d : Directory). current d p n) names ∙ current_opened (directory (store_of lab.wrapper)) (directory (store_of w)) (durable (store_of lab.wrapper)) (durable (store_of w)) p n first last o live version opens)
      (ap (λ (b : Durable). b o) contents ∙ read_by_open (directory (store_of lab.wrapper)) (directory (store_of w)) (durable (store_of lab.wrapper)) (durable (store_of w)) p n first last o live version opens)
      place bytes tracked registered)

  pub open_given : (f f' : Files) → LabStandsFor lab (state_of lab f) → IsFor lab'.wrapper f' → AreGiven f'.directory.next (handles_of lab'.handles)
  open_given f f' s s' =
      let before : AreGiven (directory (store_of lab.wrapper)).next (handles_of lab.handles) = subst (λ (d : Directory). AreGiven d.next (handles_of lab.handles)) (sym s.wrapper.files.directory) s.given in
      subst (λ (d : Directory). AreGiven d.next (handles_of lab'.handles)) (sym names ∙ s'.directory)
      (subst (AreGiven (directory (store_of w)).next) (sym table) (given_opened lab.wrapper w p n first last o live version (handles_of lab.handles) h opens place before))

module _ (lab lab' : Lab) (p n : List ℕ) (first last : ℕ) (names : names_of lab'.opens ≡ names_of lab.opens) (syncs : syncs_of lab'.syncs ≡ syncs_of lab.syncs) (config : config_of lab'.wrapper ≡ config_of lab.wrapper)
    (stream : stream_of lab'.wrapper ≡ (draw (config_of lab.wrapper).open_rate (stream_of lab.wrapper)).1) where
  pub loose_done : (o : Place) (live : List ℕ) (version : ℕ) (h : Held) (number size : ℕ) (ver : BlobVersion)
      → IsOpened (directory (store_of lab.wrapper)) (durable (store_of lab.wrapper)) (directory (store_of lab'.wrapper)) (durable (store_of lab'.wrapper)) p n first last o live version
      → number ≡ length (handles_of lab.handles) → size ≡ length live → ver.0 ≡ version → h.place ≡ o → h.live ≡ live → h.size ≡ length live → h.registration ≡ None → handles_of lab'.handles ≡ handles_of lab.handles ++ Some h ∷ []
      → IsOpenAllowed lab.wrapper p n first last None → ((f : Files) → IsFor lab.wrapper f → IsFor lab'.wrapper (after_open f p n first last)) → Performs lab (OpenLoose p n (Some (first, last))) (reply.Opened number size ver) lab'
  loose_done o live version h number size ver opens count long is place bytes tracked registered table a stands = performs lab lab' (OpenLoose p n (Some (first, last))) (reply.Opened number size ver)
      (λ f s.
      done_answers (reply.Opened number size ver) (loose_denial (state_of lab f) p n first last) (told_opened (state_of lab f) p n (first, last)) (stream_of lab'.wrapper) ((draw (config_of lab.wrapper).open_rate (stream_of lab.wrapper)).1)
      (open_tells lab lab' lab'.wrapper p n first last o live version h number size ver opens count long is place bytes tracked table refl refl f s)
      (not_memory (open_denied_by lab.wrapper p n first last (directory (store_of lab.wrapper))) (open_denied lab.wrapper p n first last None a) ∙ ap (open_denied_by lab.wrapper p n first last) s.wrapper.files.directory)
      stream)
      (λ f s.
      let s' = stands f s.wrapper.files in
      record {
        wrapper = record { files = s'; config = config; stream = refl };
        names = names;
        handles = open_adds lab lab' lab'.wrapper p n first last o live version h number size ver opens count long is place bytes tracked table refl refl (after_open f p n first last) None registered s';
        syncs = syncs;
        given =
            let table' = open_adds lab lab' lab'.wrapper p n first last o live version h number size ver opens count long is place bytes tracked table refl refl (after_open f p n first last) None registered s' in
            subst (AreGiven (after_open f p n first last).directory.next) table' (open_given lab lab' lab'.wrapper p n first last o live version h number size ver opens count long is place bytes tracked table refl refl f (after_open f p n first last) s s');
      })

  pub loose_failed : (e : Error) → IsOpenAllowed lab.wrapper p n first last (Some (refusal_of e)) → handles_of lab'.handles ≡ handles_of lab.handles → ((f : Files) → IsFor lab.wrapper f → IsFor lab'.wrapper f) → Performs lab (OpenLoose p n (Some (first, last))) (reply.Failed e) lab'
  loose_failed e a handles stands = performs lab lab' (OpenLoose p n (Some (first, last))) (reply.Failed e)
      (λ f s.
      failed_answers e (loose_denial (state_of lab f) p n first last) (told_opened (state_of lab f) p n (first, last)) (stream_of lab'.wrapper) ((draw (config_of lab.wrapper).open_rate (stream_of lab.wrapper)).1)
      (subst (λ (x : Option Refusal). OrMemory x (Some (refusal_of e))) (ap (open_denied_by lab.wrapper p n first last) s.wrapper.files.directory) (open_denied lab.wrapper p n first last (Some (refusal_of e)) a)) (λ no. stream))
      (λ f s. record { wrapper = record { files = stands f s.wrapper.files; config = config; stream = refl }; names = names; handles = handles; syncs = syncs; given = s.given })
