use Rattle.std.proofs.Common.{◌≤◌, ◌-◌, if◌then◌else◌, Some, None}
use Rattle.blob_tree.specs.Trees.{DecisionTree}
use Rattle.blob_choices.specs.Decided.{Decides}
use Rattle.blob_lab_model.specs.States.{State}
use Rattle.blob_lab_store.specs.LabStands.{LabStandsFor}
use Rattle.blob_states.specs.Crashed.{crash_draws}
use Rattle.blob_distinct.specs.Found.{states_in}
use Rattle.blob_states.specs.Recorded.{names_of}
use Rattle.blob_states.proofs.Visiting.{Tried}
use Rattle.blob_states.proofs.states.crash_states.Given as goal

abbrev pub invariant-outcomes : goal.invariant-outcomes
invariant-outcomes l = record {
  most : l.outcomes ≤ l.limit;
  tried : (v : State) → LabStandsFor l.lab v → (t : DecisionTree) → Decides (crash_draws v) t
      → Tried v (names_of l.names) t (if l.is_complete then None else Some l.explorer) l.outcomes (states_in l.states);
}

abbrev pub decreases-outcomes : goal.decreases-outcomes
decreases-outcomes l = l.limit - l.outcomes
