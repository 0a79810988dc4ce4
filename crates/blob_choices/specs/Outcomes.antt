-- The result of a call and of a run of calls, as functions of the stream that they draw from.
use Rattle.std.specs.Prelude.{◌≡◌, ◌≢◌, List, [], ◌∷◌, Option, Some, None, IfSome}
use Rattle.rand_core.specs.Stream.{Stream}
use Rattle.blob_header.specs.Refusals.{Refusal, Memory}
use Rattle.blob_draws.specs.declared.config.Config.{Config}
use Rattle.blob_script.specs.declared.call.Call.{Call}
use Rattle.blob_script.specs.declared.reply.Reply.{Reply}
use Rattle.blob_script.specs.Acts.{Act, Configure, act_of}
use Rattle.blob_script.specs.Told as told
use Rattle.blob_script.specs.Told.{Told, refused_by}
use Rattle.blob_lab_model.specs.After.{after_act}
use Rattle.blob_lab_model.specs.Answers.{answer}
use Rattle.blob_lab_model.specs.States.{State}

abbrev pub with_stream : State → Stream → State
with_stream v s = record v { stream = s }

-- the reply to a call, and the state after it, by the refusal that was given
abbrev pub Outcome : Type 0
Outcome = Told × (Option Refusal → Stream → State)

abbrev pub outcome : State → Act → Stream → Outcome × Stream
outcome v act s = let a = answer (with_stream v s) act in ((a.0, after_act (with_stream v s) act), a.1)

-- A partial resize draws a size, which two words don't decide. It never happens if its rate is zero or no resize rate is set.
abbrev pub HasNoPartialResize : Config → Type 0
HasNoPartialResize config = IfSome config.resize_rate (λ c. c.partial_rate.numerator ≡ 0)

abbrev pub SetsNoPartialResize : Act → Type 0
SetsNoPartialResize (Configure config) = HasNoPartialResize config
SetsNoPartialResize act = Unit {0}

-- the refusal of a reply
abbrev pub refusal_in : Told → Option Refusal
refusal_in (told.Failed refusal) = Some refusal
refusal_in t = None

-- the replies to a list of calls, and the state after them, if no allocation fails
abbrev pub run_outcome : State → List Act → Stream → (List Told × (Stream → State)) × Stream
run_outcome v [] s = (([], with_stream v), s)
run_outcome v (act ∷ acts) s =
    let a = outcome v act s in
    let rest = run_outcome (a.0.1 (refusal_in a.0.0) v.stream) acts a.1 in
    ((a.0.0 ∷ rest.0.0, rest.0.1), rest.1)

-- no call sets a rate of partial resizes other than zero
abbrev pub SetNoPartialResize : List Act → Type 0
SetNoPartialResize [] = Unit {0}
SetNoPartialResize (act ∷ acts) = SetsNoPartialResize act × SetNoPartialResize acts

abbrev pub acts_of : List Call → List Act
acts_of [] = []
acts_of (call ∷ calls) = act_of call ∷ acts_of calls

-- no call was refused memory
abbrev pub NoneOutOfMemory : List Reply → Type 0
NoneOutOfMemory [] = Unit {0}
NoneOutOfMemory (reply ∷ replies) = (refused_by reply ≢ Some Memory) × NoneOutOfMemory replies
