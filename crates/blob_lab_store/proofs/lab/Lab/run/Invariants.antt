use Rattle.std.proofs.Common.{◌≡◌, ◌≤◌, take, length, vec_len, vec_capacity}
use Rattle.blob_lab_store.specs.LabStands.{LabStandsFor}
use Rattle.blob_lab_model.specs.Runs.{LeadsTo}
use Rattle.blob_lab_model.specs.States.{State}
use Rattle.blob_lab_store.proofs.lab.Lab.run.Given as goal

abbrev pub invariant-loop-call : goal.invariant-loop-call
invariant-loop-call l = record {
  room : length l.calls ≤ vec_capacity l.replies;
  count : vec_len l.replies ≡ l.call-index;
  stands : (v : State) → LabStandsFor l.fn.self v → (w : State) × LeadsTo v (take l.call-index l.calls) l.replies.items w × LabStandsFor l.self w;
}
