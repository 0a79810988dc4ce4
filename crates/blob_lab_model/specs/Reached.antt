-- The states that calls reach from a new laboratory.
use Rattle.std.specs.Prelude.{◌≡◌, List, Bool, true, false, All}
use Rattle.blob_draws.specs.declared.config.Config.{Config}
use Rattle.blob_script.specs.declared.call.Call.{Call}
use Rattle.blob_script.specs.declared.reply.Reply.{Reply}
use Rattle.blob_script.specs.Acts.{Act, OpenLoose, act_of}
use Rattle.blob_lab_model.specs.Runs.{LeadsTo}
use Rattle.blob_lab_model.specs.Scripted.{Words}
use Rattle.blob_lab_model.specs.States.{State, Image, start}

-- an open that isn't exclusive
abbrev pub is_loose : Act → Bool
is_loose (OpenLoose p n versions) = true
is_loose act = false

abbrev pub NoneLoose : List Call → Type 0
NoneLoose calls = All (λ call. is_loose (act_of call) ≡ false) calls

-- by any calls
abbrev pub Reached : State → Type 0
Reached v = (images : List Image) × (words : Words) × (config : Config) × (calls : List Call) × (replies : List Reply)
    × LeadsTo (start images words config) calls replies v

-- by calls with exclusive opens only
abbrev pub ReachedExclusively : State → Type 0
ReachedExclusively v = (images : List Image) × (words : Words) × (config : Config) × (calls : List Call) × (replies : List Reply)
    × NoneLoose calls × LeadsTo (start images words config) calls replies v
