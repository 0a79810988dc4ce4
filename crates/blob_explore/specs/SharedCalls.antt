-- The first calls of a script, which draw nothing and are made once for all runs.
use Rattle.std.specs.Prelude.{◌≤◌, ◌++◌, ℕ, List, [], length, take}
use Rattle.blob_script.specs.declared.call.Call.{Call}
use Rattle.blob_script.specs.declared.reply.Reply.{Reply}
use Rattle.blob_lab_store.specs.LabStands.{LabStandsFor}
use Rattle.blob_lab_store.specs.Tables.{images_of}
use Rattle.blob_lab_store.specs.declared.lab.Lab.{Lab}
use Rattle.blob_script.specs.Preambles.{only}
use Rattle.blob_script.specs.Settings.{no_rates}
use Rattle.blob_lab_model.specs.Runs.{LeadsTo}
use Rattle.blob_lab_model.specs.Scripted.{Left, scripted_stream}
use Rattle.blob_lab_model.specs.States.{State, start}
use Rattle.blob_choices.specs.Outcomes.{NoneOutOfMemory, with_stream}
use Rattle.blob_explore.specs.declared.exploration.Exploration.{Exploration}
use Rattle.blob_explore.specs.declared.exploration.Leaf.{Leaf}
use Rattle.blob_explore.specs.declared.script.Script.{Script}
use Rattle.blob_explore.specs.declared.shared.Shared.{Shared}

-- the state in which each run of a script starts, with these words
abbrev pub start_with : Script → List ℕ → State
start_with script words = start (images_of script.images.items) (only words) no_rates

-- With any words, the calls get these replies and lead from the start of the script to this state. They take none of the words.
abbrev pub TakeNoWord : Script → List Call → List Reply → State → Type 0
TakeNoWord script calls replies state =
    (tail : Left) → LeadsTo (with_stream (start_with script []) (scripted_stream tail)) calls replies (with_stream state (scripted_stream tail))

-- The laboratory has made the first calls, which take no word, and represents the state after them.
pub record AreShared (script : Script) (lab : Lab) (count : ℕ) (replies : List Reply) : Type 0 where
  pub state : State
  pub stands : LabStandsFor lab state
  pub leads : TakeNoWord script (take count script.calls.items) replies state
  pub within : count ≤ length script.calls.items
  pub served : NoneOutOfMemory replies

abbrev pub IsShared : Script → Shared → Type 0
IsShared script shared = AreShared script shared.lab shared.count shared.replies.items

-- the same of an exploration
abbrev pub HasShared : Exploration → Type 0
HasShared e = IsShared e.script e.shared

abbrev pub shared_replies : Exploration → List Reply
shared_replies e = e.shared.replies.items

-- the replies of a leaf's run: those of the shared calls, and its own
abbrev pub replies_of : Exploration → Leaf → List Reply
replies_of e leaf = shared_replies e ++ leaf.replies.items
