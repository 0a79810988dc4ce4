-- An exploration of a script, and the leaves that it visits.
use Rattle.std.specs.Prelude.{◌≡◌, ℕ, Bool, List, [], ◌∷◌, ◌++◌, if◌then◌else◌, Option, Some, None, IfSome, Vec, String}
use Rattle.std.specs.Global.{Global}
use Rattle.blob_script.specs.declared.call.Call.{Call}
use Rattle.blob_script.specs.declared.reply.Reply.{Reply}
use Rattle.blob_script.specs.Settings.{no_rates}
use Rattle.blob_lab_store.specs.Tables.{images_of}
use Rattle.blob_tree.specs.WordsLeft.{EndsAfter}
use Rattle.blob_lab_model.specs.Runs.{LeadsTo}
use Rattle.blob_lab_model.specs.Scripted.{only}
use Rattle.blob_lab_model.specs.States.{State, start}
use Rattle.blob_tree.specs.Trees.{DecisionTree, depth, extend_path, leaves, left_after, words_of}
use Rattle.blob_choices.specs.Decided.{Decides}
use Rattle.blob_choices.specs.Explored.{RunsAlong}
use Rattle.blob_choices.specs.Outcomes.{SetNoPartialResize, acts_of, run_outcome}
use Rattle.blob_explore.specs.declared.exploration.Exploration.{Exploration}
use Rattle.blob_explore.specs.declared.exploration.Leaf.{Leaf}
use Rattle.blob_explore.specs.declared.script.Script.{Script}
use Rattle.blob_explore.specs.declared.shared.Shared.{Shared}
use Rattle.blob_explore.specs.SharedCalls.{HasShared, IsShared, replies_of}

-- images by partition, name and bytes
abbrev pub Images : Type 0
Images = List (String Global × Vec ℕ Global × Vec ℕ Global)

-- the state in which each run of a script starts, except the words
abbrev pub start_of : Script → State
start_of script = start (images_of script.images.items) (only []) no_rates

-- a run over these words gives these replies, and leaves this number of words
abbrev pub Ran : Images → List Call → List ℕ → List Reply → Option ℕ → Type 0
Ran images calls words replies left =
    (w : State) × LeadsTo (start (images_of images) (only words) no_rates) calls replies w
    × IfSome left (λ n. EndsAfter w.stream n)

-- a run with these words and replies is that of the path, continued by true outcomes, in each tree that decides the run
abbrev pub TakesPath : Script → List Bool → List ℕ → List Reply → Type 0
TakesPath script path words replies =
    (t : DecisionTree) → Decides (run_outcome (start_of script) (acts_of script.calls.items)) t
    → (words ≡ words_of (extend_path (depth t path) path))
    × RunsAlong (start_of script) script.calls.items (extend_path (depth t path) path) replies

-- the same of a leaf, which has the replies after those of the shared calls
abbrev pub Follows : Script → Shared → List Bool → Leaf → Type 0
Follows script shared path leaf =
    IsShared script shared → TakesPath script path leaf.words.items (shared.replies.items ++ leaf.replies.items)

abbrev pub explored_script : Exploration → Script
explored_script e = e.script

-- the path of the next leaf; none at the end
abbrev pub path_of : Exploration → Option (List Bool)
path_of e = if e.is_done then None else Some e.explorer

-- the leaves that are still to visit
abbrev pub remaining_leaves : Exploration → DecisionTree → List (List Bool)
remaining_leaves e t = left_after t (path_of e)

-- the tree decides the draws of its calls
abbrev pub DecidesRun : Exploration → DecisionTree → Type 0
DecidesRun e t = Decides (run_outcome (start_of e.script) (acts_of e.script.calls.items)) t

-- This leaf is the first of those that were left, and the others are left now. Its words are those of its path, and its
-- replies are those of the run along the path.
pub record Visits (e : Exploration) (leaf : Leaf) (e' : Exploration) (t : DecisionTree) : Type 0 where
  pub path : List Bool
  pub first : remaining_leaves e t ≡ path ∷ remaining_leaves e' t
  pub words : leaf.words.items ≡ words_of path
  pub replies : RunsAlong (start_of e.script) e.script.calls.items path (replies_of e leaf)

-- the same in each tree that decides the run
abbrev pub VisitsNext : Exploration → Leaf → Exploration → Type 0
VisitsNext e leaf e' = (t : DecisionTree) → DecidesRun e t → Visits e leaf e' t

-- before its first leaf: the shared calls were made, and all leaves are left
pub record IsBegun (e : Exploration) : Type 0 where
  pub shared : HasShared e
  pub all : (t : DecisionTree) → remaining_leaves e t ≡ leaves t

-- the calls that were added set no rate of partial resizes other than zero
abbrev pub AddsNoPartialResize : List Call → List Call → Type 0
AddsNoPartialResize old new = SetNoPartialResize (acts_of old) → SetNoPartialResize (acts_of new)
