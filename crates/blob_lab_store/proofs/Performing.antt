-- A call of a laboratory is one of the state that it is seen as: all but the files is read from it.
use Rattle.std.proofs.Common.{◌≡◌, refl, sym, ap, subst}
use Rattle.blob_model.specs.Files.{Files}
use Rattle.blob_faulty.specs.Wrapper.{Stands, config_of, inner_of as store_of}
use Rattle.blob_memory.specs.Store.{directory, durable}
use Rattle.blob_lab_store.specs.declared.lab.Lab.{Lab}
use Rattle.blob_script.specs.declared.reply.Reply.{Reply}
use Rattle.blob_script.specs.Acts.{Act}
use Rattle.blob_lab_model.specs.After.{after_act}
use Rattle.blob_lab_model.specs.Answers.{Answers}
use Rattle.blob_lab_store.specs.LabStands.{LabStandsFor, Performs, Wrapper, stream_of}
use Rattle.blob_opens.specs.Opens.{names_of}
use Rattle.blob_lab_model.specs.States.{State}
use Rattle.blob_lab_store.specs.Tables.{handles_of, syncs_of}
use Rattle.blob_script.specs.Told.{refused_by}

-- the state that a laboratory is seen as, of some files
abbrev pub state_of : Lab → Files → State
state_of lab f = record { files = f; config = config_of lab.wrapper; stream = stream_of lab.wrapper; names = names_of lab.opens; handles = handles_of lab.handles; syncs = syncs_of lab.syncs }

pub seen : (lab : Lab) (v : State) → LabStandsFor lab v → state_of lab v.files ≡ v
seen lab v h i = record { files = v.files; config = h.wrapper.config i; stream = h.wrapper.stream i; names = h.names i; handles = h.handles i; syncs = h.syncs i }

pub performs : (lab lab' : Lab) (act : Act) (reply : Reply)
    → ((f : Files) → LabStandsFor lab (state_of lab f) → Answers (state_of lab f) act reply (stream_of lab'.wrapper))
    → ((f : Files) → LabStandsFor lab (state_of lab f) → LabStandsFor lab' (after_act (state_of lab f) act (refused_by reply) (stream_of lab'.wrapper)))
    → Performs lab act reply lab'
performs lab lab' act reply a s = record {
  answers = λ v h. subst (λ (w : State). Answers w act reply (stream_of lab'.wrapper)) (seen lab v h) (a v.files (subst (LabStandsFor lab) (sym (seen lab v h)) h));
  stands = λ v h. subst (λ (w : State). LabStandsFor lab' (after_act w act (refused_by reply) (stream_of lab'.wrapper))) (seen lab v h) (s v.files (subst (LabStandsFor lab) (sym (seen lab v h)) h));
}

-- a laboratory with the same wrapper, and the same names and tables as seen through their views
pub stands_same : (lab lab' : Lab) (f : Files) → lab'.wrapper ≡ lab.wrapper → names_of lab'.opens ≡ names_of lab.opens → handles_of lab'.handles ≡ handles_of lab.handles → syncs_of lab'.syncs ≡ syncs_of lab.syncs
    → LabStandsFor lab (state_of lab f) → LabStandsFor lab' (record (state_of lab f) { stream = stream_of lab'.wrapper })
stands_same lab lab' f w n hs ss h = record {
  wrapper = record {
    files = subst (λ (x : Wrapper). Stands (λ o. o) (directory (store_of x)) (durable (store_of x)) x f) (sym w) h.wrapper.files;
    config = ap config_of w;
    stream = refl;
  };
  names = n;
  handles = hs;
  syncs = ss;
  given = h.given;
}
