-- When a laboratory represents a state, and when a call is one of that state.
use Rattle.std.specs.Prelude.{◌≡◌, ◌<◌, List, true, Option, Some}
use Rattle.rand_core.specs.Stream.{Stream}
use Rattle.blob_faulty.specs.Keeps.{OverMemory, IsFor}
use Rattle.blob_faulty.specs.Wrapper.{rng_of, config_of}
use Rattle.blob_lab_store.specs.declared.lab.Lab.{Lab}
use Rattle.blob_lab_store.specs.declared.lab.handles.Handle.{Handle}
use Rattle.blob_lab_store.specs.declared.lab.syncs.Syncs.{Syncs}
use Rattle.blob_script.specs.declared.reply.Reply.{Reply}
use Rattle.blob_script.specs.Acts.{Act, Ask, StartSync}
use Rattle.blob_lab_model.specs.After.{after_act, files_after, held_after, syncs_after}
use Rattle.blob_lab_model.specs.Answers.{Answers, IsAnswer, through}
use Rattle.blob_opens.specs.Opens.{names_of}
use Rattle.blob_lab_model.specs.Scripted.{Left, scripted_stream}
use Rattle.blob_lab_model.specs.States.{State, Held, Started, AreGiven}
use Rattle.blob_lab_store.specs.Tables.{as_held, handles_of, syncs_of}
use Rattle.blob_script.specs.Told.{refused_by}

-- the wrapper of a laboratory, with the rest of the words as its generator
abbrev pub Wrapper : Type 0
Wrapper = OverMemory Left

abbrev pub stream_of : Wrapper → Stream
stream_of w = scripted_stream (rng_of w)

-- a wrapper has a state's configuration and stream, and represents its files
pub record Wraps (w : Wrapper) (v : State) : Type 0 where
  pub files : IsFor w v.files
  pub config : config_of w ≡ v.config
  pub stream : stream_of w ≡ v.stream

pub record LabStandsFor (lab : Lab) (v : State) : Type 0 where
  pub wrapper : Wraps lab.wrapper v
  pub names : names_of lab.opens ≡ v.names
  pub handles : handles_of lab.handles ≡ v.handles
  pub syncs : syncs_of lab.syncs ≡ v.syncs
  -- an incarnation that a handle is on isn't still to come
  pub given : AreGiven v.files.directory.next v.handles

abbrev pub wrapper_of : Lab → Wrapper
wrapper_of lab = lab.wrapper

-- a call with this reply: in any state that the laboratory represented, the reply is allowed, and the laboratory then
-- represents the state after the call
pub record Performs (lab : Lab) (act : Act) (reply : Reply) (lab' : Lab) : Type 0 where
  pub answers : (v : State) → LabStandsFor lab v → Answers v act reply (stream_of lab'.wrapper)
  pub stands : (v : State) → LabStandsFor lab v → LabStandsFor lab' (after_act v act (refused_by reply) (stream_of lab'.wrapper))

-- the same of what is asked through a handle, of the wrapper and the handle alone; syncs that are started stand apart
pub record PerformsAsk (w : Wrapper) (h : Held) (ask : Ask) (reply : Reply) (w' : Wrapper) (h' : Held) : Type 0 where
  pub answers : (v : State) → Wraps w v → IsAnswer true (through v (Some h) ask) reply (stream_of w')
  pub stands : (v : State) → Wraps w v → h.place.number < v.files.directory.next → Wraps w' (record v { files = files_after v h ask (refused_by reply); stream = stream_of w' })
  pub held : (v : State) → Wraps w v → h' ≡ held_after v h ask (refused_by reply)

-- the same of a sync that is started, and the table of started syncs
pub record StartsSync (w : Wrapper) (h : Held) (syncs : List (Option Started)) (reply : Reply) (w' : Wrapper) (h' : Held) (syncs' : List (Option Started)) : Type 0 where
  pub answers : (v : State) → Wraps w v → syncs ≡ v.syncs → IsAnswer true (through v (Some h) StartSync) reply (stream_of w')
  pub stands : (v : State) → Wraps w v → h.place.number < v.files.directory.next → Wraps w' (record v { files = files_after v h StartSync (refused_by reply); stream = stream_of w' })
  pub table : (v : State) → Wraps w v → syncs ≡ v.syncs → syncs' ≡ syncs_after v h StartSync (refused_by reply)
  pub held : h' ≡ h

-- the same of the handles and the syncs of a laboratory
abbrev pub HandleStartsSync : Wrapper → Handle → Syncs → Reply → Wrapper → Handle → Syncs → Type 0
HandleStartsSync w h syncs reply w' h' syncs' = StartsSync w (as_held h) (syncs_of syncs) reply w' (as_held h') (syncs_of syncs')
