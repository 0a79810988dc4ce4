-- Runs of a laboratory.
use Rattle.std.specs.Prelude.{◌≡◌, List, [], ◌∷◌}
use Rattle.rand_core.specs.Stream.{Stream}
use Rattle.blob_script.specs.declared.call.Call.{Call}
use Rattle.blob_script.specs.declared.reply.Reply.{Reply}
use Rattle.blob_script.specs.Acts.{act_of}
use Rattle.blob_script.specs.Told.{refused_by}
use Rattle.blob_lab_model.specs.Answers.{Answers}
use Rattle.blob_lab_model.specs.After.{after_act}
use Rattle.blob_lab_model.specs.States.{State}

-- calls one after another, from one state to another, with these replies
abbrev pub LeadsTo : State → List Call → List Reply → State → Type 0
LeadsTo v [] [] w = v ≡ w
LeadsTo v (call ∷ calls) (reply ∷ replies) w =
    (left : Stream) × Answers v (act_of call) reply left × LeadsTo (after_act v (act_of call) (refused_by reply) left) calls replies w
LeadsTo v calls replies w = ⊥
