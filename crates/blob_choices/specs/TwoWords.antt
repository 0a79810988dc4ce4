-- Two words suffice: 0 and the greatest word give every outcome of a run.
use Rattle.std.specs.Prelude.{List, Bool}
use Rattle.blob_script.specs.declared.call.Call.{Call}
use Rattle.blob_script.specs.declared.reply.Reply.{Reply}
use Rattle.blob_script.specs.Acts.{Act}
use Rattle.blob_lab_model.specs.Runs.{LeadsTo}
use Rattle.blob_lab_model.specs.Scripted.{Left, scripted_stream}
use Rattle.blob_lab_model.specs.States.{State}
use Rattle.blob_choices.specs.Decided.{HasU64Words, IsDecided, path_stream}
use Rattle.blob_choices.specs.Outcomes.{HasNoPartialResize, NoneOutOfMemory, SetNoPartialResize, acts_of, outcome, run_outcome, with_stream}

-- a tree decides each call: its reply and the state after it
abbrev pub CallsAreDecided : Type 0
CallsAreDecided = (v : State) (act : Act) → HasNoPartialResize v.config → IsDecided (outcome v act)

-- a tree decides each run of calls
abbrev pub RunsAreDecided : Type 0
RunsAreDecided = (v : State) (acts : List Act) → HasNoPartialResize v.config → SetNoPartialResize acts → IsDecided (run_outcome v acts)

-- For each run over 64-bit words there is a path, and the words of the path give the same replies and the same state except the generator. The
-- run takes exactly these words, whatever words follow.
abbrev pub TwoWordsSuffice : Type 0
TwoWordsSuffice = (v w : State) (calls : List Call) (replies : List Reply) → HasU64Words v.stream → HasNoPartialResize v.config → SetNoPartialResize (acts_of calls)
    → NoneOutOfMemory replies → LeadsTo v calls replies w
    → (path : List Bool) × ((tail : Left) → LeadsTo (with_stream v (path_stream path tail)) calls replies (with_stream w (scripted_stream tail)))
