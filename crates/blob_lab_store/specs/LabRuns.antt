-- New laboratories, and runs of calls, from any state that a laboratory represents.
use Rattle.std.specs.Prelude.{◌≡◌, ℕ, List, [], ◌∷◌, None, Result, IfOk}
use Rattle.blob_header.specs.declared.error.Error.{Error}
use Rattle.blob_script.specs.declared.call.Call.{Call}
use Rattle.blob_script.specs.declared.call.Call.TheVariants.{Crash}
use Rattle.blob_script.specs.declared.reply.Reply.{Reply}
use Rattle.blob_script.specs.Told.{refused_by}
use Rattle.blob_lab_model.specs.Fixed.{Persists}
use Rattle.blob_lab_model.specs.Reached.{NoneLoose, ReachedExclusively}
use Rattle.blob_lab_model.specs.Runs.{LeadsTo}
use Rattle.blob_lab_model.specs.Scripted.{scripted_stream}
use Rattle.blob_lab_model.specs.States.{State}
use Rattle.blob_lab_store.specs.LabStands.{LabStandsFor, Wrapper, Wraps}
use Rattle.blob_lab_store.specs.declared.lab.Lab.{Lab}

-- a new laboratory represents this state
abbrev pub StartsAt : Result Lab Error → State → Type 0
StartsAt result v = IfOk result (λ lab. LabStandsFor lab v)

-- with these replies the calls lead to a state that the laboratory then represents
abbrev pub RunsTo : Lab → List Call → List Reply → Lab → Type 0
RunsTo lab calls replies lab' = (v : State) → LabStandsFor lab v → (w : State) × LeadsTo v calls replies w × LabStandsFor lab' w

-- if all opens are exclusive, these and the earlier ones, each byte that one of the calls fixes stays
abbrev pub PersistsExclusively : Lab → List Call → List Reply → Type 0
PersistsExclusively lab calls replies = (v : State) → LabStandsFor lab v → ReachedExclusively v → NoneLoose calls → Persists v calls replies

-- the second laboratory represents each state that the first represents
abbrev pub IsFork : Lab → Lab → Type 0
IsFork lab fork = (v : State) → LabStandsFor lab v → LabStandsFor fork v

-- A crash that draws from these words leads to a state that the wrapper represents.
pub record CrashesTo (v : State) (words : List ℕ) (left : Wrapper) : Type 0 where
  pub reply : Reply
  pub after : State
  pub done : refused_by reply ≡ None
  pub leads : LeadsTo (record v { stream = scripted_stream (words, None) }) (Crash ∷ []) (reply ∷ []) after
  pub wraps : Wraps left after

-- the same of each state that a laboratory represents
abbrev pub LeavesByCrash : Lab → List ℕ → Wrapper → Type 0
LeavesByCrash lab words left = (v : State) → LabStandsFor lab v → CrashesTo v words left
