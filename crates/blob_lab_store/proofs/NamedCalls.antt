-- Calls of a laboratory by name, and those that are about all of it, from what the wrapper and the open names promise.
use Rattle.std.proofs.Common.{◌≡◌, ℕ, inl, inr, List, Option, Some, None, refl, sym, ap, ◌∙◌, subst, map}
use Rattle.std.specs.Prelude.{is_some}
use Rattle.rand_core.specs.Stream.{Stream}
use Rattle.std.specs.Option.{option_or}
use Rattle.blob_model.specs.Directory.{Directory}
use Rattle.blob_model.specs.Draws.{Row, draw_rows, chosen_by}
use Rattle.blob_model.specs.Files.{Files, admit, after_remove, after_crash, reopen, all_needs}
use Rattle.blob_header.specs.Refusals.{Refusal, Memory, refusal_of, Injected}
use Rattle.blob_header.specs.declared.error.Error.{Error}
use Rattle.blob_model.proofs.NameSteps.{next_removed}
use Rattle.blob_draws.specs.Answers.{injected_or}
use Rattle.blob_draws.specs.Faults.{draw}
use Rattle.blob_faulty.specs.Wrapper.{config_of, inner_of as store_of}
use Rattle.blob_draws.specs.declared.config.Config.{Config}
use Rattle.blob_memory.specs.Answers.{OrMemory, remove_refusal, partition_refusal}
use Rattle.blob_memory.specs.Store.{directory}
use Rattle.blob_lab_store.specs.declared.lab.Lab.{Lab}
use Rattle.blob_script.specs.declared.reply.Reply.{Reply}
use Rattle.blob_script.specs.declared.reply.Reply.TheVariants as reply
use Rattle.blob_script.specs.Acts.{Configure, Admit, Remove, Scan, Crash, Reopen}
use Rattle.blob_lab_model.specs.Denials.{refused_if}
use Rattle.blob_lab_model.specs.Steps.{remove_denial, scan_denial}
use Rattle.blob_lab_model.specs.Steps as steps
use Rattle.blob_lab_store.specs.LabStands.{LabStandsFor, Performs, stream_of}
use Rattle.blob_faulty.specs.Keeps.{IsFor}
use Rattle.blob_opens.specs.OpenNames.{end_names, none_open}
use Rattle.blob_opens.specs.Opens.{names_of}
use Rattle.blob_lab_model.specs.States.{AreGiven}
use Rattle.blob_lab_store.specs.Tables.{handles_of, syncs_of}
use Rattle.blob_script.specs.Told as told
use Rattle.blob_script.specs.Told.{Tells, refused_by}
use Rattle.blob_lab_model.proofs.Denying.{drawn_denial, not_memory}
use Rattle.blob_lab_store.proofs.Performing.{state_of, performs}
use Rattle.blob_lab_model.proofs.Stale.{admitted_directory}
use Rattle.blob_lab_model.proofs.Telling.{done_answers, failed_answers}

module _ (lab lab' : Lab) (handles : handles_of lab'.handles ≡ handles_of lab.handles) where
  module _ (names : names_of lab'.opens ≡ names_of lab.opens) (syncs : syncs_of lab'.syncs ≡ syncs_of lab.syncs) where
    pub configure_done : (config : Config) → config_of lab'.wrapper ≡ config → stream_of lab'.wrapper ≡ stream_of lab.wrapper → ((f : Files) → IsFor lab.wrapper f → IsFor lab'.wrapper f) → Performs lab (Configure config) reply.Done lab'
    configure_done config set stream stands = performs lab lab' (Configure config) reply.Done
        (λ f s. inr (tt, stream))
        (λ f s. record { wrapper = record { files = stands f s.wrapper.files; config = set; stream = refl }; names = names; handles = handles; syncs = syncs; given = s.given })

    module _ (config : config_of lab'.wrapper ≡ config_of lab.wrapper) where
      pub admit_done : (p n : List ℕ) → stream_of lab'.wrapper ≡ stream_of lab.wrapper → ((f : Files) → IsFor lab.wrapper f → IsFor lab'.wrapper (admit f p n)) → Performs lab (Admit p n) reply.Done lab'
      admit_done p n stream stands = performs lab lab' (Admit p n) reply.Done
          (λ f s. inr (tt, stream))
          (λ f s. record {
            wrapper = record { files = stands f s.wrapper.files; config = config; stream = refl };
            names = names;
            handles = handles;
            syncs = syncs;
            given = subst (λ (d : Directory). AreGiven d.next (handles_of lab.handles)) (sym (admitted_directory f p n)) s.given;
          })

      -- A scan.

      module _ (p : List ℕ) (stream : stream_of lab'.wrapper ≡ (draw (config_of lab.wrapper).scan_rate (stream_of lab.wrapper)).1) (stands : (f : Files) → IsFor lab.wrapper f → IsFor lab'.wrapper f) where
        abbrev IsScanAllowed : Option Refusal → Type 0
        IsScanAllowed answer = injected_or (draw (config_of lab.wrapper).scan_rate (stream_of lab.wrapper)).0 (OrMemory (partition_refusal (directory (store_of lab.wrapper)) p)) answer

        abbrev scan_denied_by : Directory → Option Refusal
        scan_denied_by d = option_or (refused_if Injected (draw (config_of lab.wrapper).scan_rate (stream_of lab.wrapper)).0) (partition_refusal d p)

        scan_denied : (answer : Option Refusal) → IsScanAllowed answer → OrMemory (scan_denied_by (directory (store_of lab.wrapper))) answer
        scan_denied answer a = drawn_denial (draw (config_of lab.wrapper).scan_rate (stream_of lab.wrapper)).0 (OrMemory (partition_refusal (directory (store_of lab.wrapper)) p)) (partition_refusal (directory (store_of lab.wrapper)) p) (λ answer' m. m) answer a

        scanned : (f : Files) → LabStandsFor lab (state_of lab f) → (r : Reply) → refused_by r ≡ None → LabStandsFor lab' (record (state_of lab f) { stream = stream_of lab'.wrapper })
        scanned f s r e = record { wrapper = record { files = stands f s.wrapper.files; config = config; stream = refl }; names = names; handles = handles; syncs = syncs; given = s.given }

        pub scan_done : (r : Reply) → refused_by r ≡ None → ((d : Directory) → directory (store_of lab.wrapper) ≡ d → Tells r (told.Names (λ n. is_some (d.file p n)))) → IsScanAllowed None → Performs lab (Scan p) r lab'
        scan_done r done tells a = performs lab lab' (Scan p) r
            (λ f s.
            let same = s.wrapper.files.directory in
            done_answers r (scan_denial (state_of lab f) p) (told.Names (λ n. is_some (f.directory.file p n))) (stream_of lab'.wrapper) ((draw (config_of lab.wrapper).scan_rate (stream_of lab.wrapper)).1)
            (tells f.directory same) (not_memory (scan_denied_by (directory (store_of lab.wrapper))) (scan_denied None a) ∙ ap scan_denied_by same) stream)
            (λ f s. scanned f s r done)

        pub scan_failed : (e : Error) → IsScanAllowed (Some (refusal_of e)) → Performs lab (Scan p) (reply.Failed e) lab'
        scan_failed e a = performs lab lab' (Scan p) (reply.Failed e)
            (λ f s.
            failed_answers e (scan_denial (state_of lab f) p) (told.Names (λ n. is_some (f.directory.file p n))) (stream_of lab'.wrapper) ((draw (config_of lab.wrapper).scan_rate (stream_of lab.wrapper)).1)
            (subst (λ (x : Option Refusal). OrMemory x (Some (refusal_of e))) (ap scan_denied_by s.wrapper.files.directory) (scan_denied (Some (refusal_of e)) a)) (λ no. stream))
            (λ f s. scanned f s reply.Done refl)

      -- A crash.

      pub crash_done : (r : Reply) (rows : List Row) → refused_by r ≡ None → Tells r (told.Crashed rows) → ((f : Files) → IsFor lab.wrapper f → (rows, stream_of lab'.wrapper) ≡ draw_rows (stream_of lab.wrapper) (all_needs f.log))
          → ((f : Files) → IsFor lab.wrapper f → IsFor lab'.wrapper (after_crash f (chosen_by rows))) → Performs lab Crash r lab'
      crash_done r rows done tells draws stands = performs lab lab' Crash r
          (λ f s. inr (subst (λ (x : List Row). Tells r (told.Crashed x)) (ap (λ (d : List Row × Stream). d.0) (draws f s.wrapper.files)) tells, ap (λ (d : List Row × Stream). d.1) (draws f s.wrapper.files)))
          (λ f s. subst (λ (x : Option Refusal). LabStandsFor lab' (record (steps.crash_step (state_of lab f) x) { stream = stream_of lab'.wrapper })) (sym done)
          (record {
            wrapper = record {
              files = subst (λ (x : List Row). IsFor lab'.wrapper (after_crash f (chosen_by x))) (ap (λ (d : List Row × Stream). d.0) (draws f s.wrapper.files)) (stands f s.wrapper.files);
              config = config;
              stream = refl;
            };
            names = names;
            handles = handles;
            syncs = syncs;
            given = s.given;
          }))

      pub crash_failed : (e : Error) → Some (refusal_of e) ≡ Some Memory → ((f : Files) → IsFor lab.wrapper f → IsFor lab'.wrapper f) → Performs lab Crash (reply.Failed e) lab'
      crash_failed e memory stands = performs lab lab' Crash (reply.Failed e)
          (λ f s. inl (refl, memory))
          (λ f s. record { wrapper = record { files = stands f s.wrapper.files; config = config; stream = refl }; names = names; handles = handles; syncs = syncs; given = s.given })

  -- A removal.

  module _ (syncs : syncs_of lab'.syncs ≡ syncs_of lab.syncs) (config : config_of lab'.wrapper ≡ config_of lab.wrapper) (p : List ℕ) (n : Option (List ℕ)) (stream : stream_of lab'.wrapper ≡ (draw (config_of lab.wrapper).remove_rate (stream_of lab.wrapper)).1) where
    abbrev IsRemoveAllowed : Option Refusal → Type 0
    IsRemoveAllowed answer = injected_or (draw (config_of lab.wrapper).remove_rate (stream_of lab.wrapper)).0 (OrMemory (remove_refusal (directory (store_of lab.wrapper)) p n)) answer

    abbrev remove_denied_by : Directory → Option Refusal
    remove_denied_by d = option_or (refused_if Injected (draw (config_of lab.wrapper).remove_rate (stream_of lab.wrapper)).0) (remove_refusal d p n)

    remove_denied : (answer : Option Refusal) → IsRemoveAllowed answer → OrMemory (remove_denied_by (directory (store_of lab.wrapper))) answer
    remove_denied answer a = drawn_denial (draw (config_of lab.wrapper).remove_rate (stream_of lab.wrapper)).0 (OrMemory (remove_refusal (directory (store_of lab.wrapper)) p n)) (remove_refusal (directory (store_of lab.wrapper)) p n) (λ answer' m. m) answer a

    pub remove_done : IsRemoveAllowed None → names_of lab'.opens ≡ end_names (names_of lab.opens) p n → ((f : Files) → IsFor lab.wrapper f → IsFor lab'.wrapper (after_remove f p n)) → Performs lab (Remove p n) reply.Done lab'
    remove_done a names stands = performs lab lab' (Remove p n) reply.Done
        (λ f s.
        done_answers reply.Done (remove_denial (state_of lab f) p n) told.Done (stream_of lab'.wrapper) ((draw (config_of lab.wrapper).remove_rate (stream_of lab.wrapper)).1) tt
        (not_memory (remove_denied_by (directory (store_of lab.wrapper))) (remove_denied None a) ∙ ap remove_denied_by s.wrapper.files.directory) stream)
        (λ f s. record {
          wrapper = record { files = stands f s.wrapper.files; config = config; stream = refl };
          names = names;
          handles = handles;
          syncs = syncs;
          given = subst (λ (k : ℕ). AreGiven k (handles_of lab.handles)) (sym (next_removed f.directory p n)) s.given;
        })

    pub remove_failed : (e : Error) → IsRemoveAllowed (Some (refusal_of e)) → names_of lab'.opens ≡ names_of lab.opens → ((f : Files) → IsFor lab.wrapper f → IsFor lab'.wrapper f) → Performs lab (Remove p n) (reply.Failed e) lab'
    remove_failed e a names stands = performs lab lab' (Remove p n) (reply.Failed e)
        (λ f s.
        failed_answers e (remove_denial (state_of lab f) p n) told.Done (stream_of lab'.wrapper) ((draw (config_of lab.wrapper).remove_rate (stream_of lab.wrapper)).1)
        (subst (λ (x : Option Refusal). OrMemory x (Some (refusal_of e))) (ap remove_denied_by s.wrapper.files.directory) (remove_denied (Some (refusal_of e)) a)) (λ no. stream))
        (λ f s. record { wrapper = record { files = stands f s.wrapper.files; config = config; stream = refl }; names = names; handles = handles; syncs = syncs; given = s.given })

  -- a store that is rebuilt, and wrapped again
  pub reopen_done : names_of lab'.opens ≡ none_open (names_of lab.opens).next → syncs_of lab'.syncs ≡ map (λ slot. None) (syncs_of lab.syncs) → config_of lab'.wrapper ≡ config_of lab.wrapper → stream_of lab'.wrapper ≡ stream_of lab.wrapper
      → ((f : Files) → IsFor lab.wrapper f → IsFor lab'.wrapper (reopen f)) → Performs lab Reopen reply.Done lab'
  reopen_done names syncs config stream stands = performs lab lab' Reopen reply.Done
      (λ f s. inr (tt, stream))
      (λ f s. record { wrapper = record { files = stands f s.wrapper.files; config = config; stream = refl }; names = names; handles = handles; syncs = syncs; given = s.given })
