-- What an exploration has found.
use Rattle.std.specs.Prelude.{◌≡◌, ◌↔◌, ◌≤◌, ◌-◌, ℕ, Bool, true, false, List, ◌∷◌, [], ◌++◌, length, map, take, drop, if◌then◌else◌}
use Rattle.std.specs.List.{AllByRecursion, flat_map}
use Rattle.blob_script.specs.declared.reply.Reply.{Reply}
use Rattle.blob_script.specs.Replies.{reply_line}
use Rattle.blob_tree.specs.Trees.{DecisionTree, leaves, words_of}
use Rattle.blob_choices.specs.Decided.{Decides}
use Rattle.blob_choices.specs.Explored.{HoldEveryRun, RunsAlong}
use Rattle.blob_choices.specs.Outcomes.{SetNoPartialResize, acts_of, run_outcome}
use Rattle.blob_distinct.specs.Distinct.{Distinct, LeafText, outcomes_of}
use Rattle.blob_distinct.specs.Explored.{HasCounted, outcomes_found}
use Rattle.blob_distinct.specs.Printed.{exploration_text}
use Rattle.blob_distinct.specs.declared.explored.Explored.{Explored}
use Rattle.blob_explore.specs.Explorations.{remaining_leaves, explored_script, start_of}
use Rattle.blob_explore.specs.ScriptTexts.{IsScriptOf}
use Rattle.blob_explore.specs.declared.exploration.Exploration.{Exploration}
use Rattle.blob_explore.specs.declared.script.Script.{Script}

-- the lines of these replies
abbrev pub reply_lines : List Reply → List ℕ
reply_lines replies = flat_map (λ reply. reply_line reply ++ 10 ∷ []) replies

-- the text of an outcome: the lines of all replies, or of the last one
abbrev pub replies_text : Bool → List Reply → List ℕ
replies_text last replies = reply_lines (drop (if last then length replies - 1 else 0) replies)

-- of these, the lines of the shared replies
abbrev pub shared_text : Bool → List Reply → List ℕ
shared_text last shared = if last then [] else reply_lines shared

-- a visited leaf: its path, and the replies of the run along it
pub record Visited : Type 0 where
  pub path : List Bool
  pub replies : List Reply

abbrev pub path_to : Visited → List Bool
path_to leaf = leaf.path

abbrev pub RunsAlongPath : Script → Visited → Type 0
RunsAlongPath script leaf = RunsAlong (start_of script) script.calls.items leaf.path leaf.replies

-- the words of its path, and the lines of its replies, or of the last one
abbrev pub shown_leaf : Bool → Visited → LeafText
shown_leaf last leaf = record { words = words_of leaf.path; text = replies_text last leaf.replies }

-- An exploration has visited the first leaves of the decision tree of the script's runs, all of them exactly if it is
-- complete. The outcomes are those of these leaves: each with the number of leaves that have it and the words of the
-- first of them.
pub record Explores (script : Script) (last is_complete : Bool) (count : ℕ) (found : List Distinct) : Type 0 where
  pub tree : DecisionTree
  pub decides : Decides (run_outcome (start_of script) (acts_of script.calls.items)) tree
  -- each run is that of a leaf
  pub runs : HoldEveryRun (start_of script) script.calls.items (leaves tree)
  pub visited : List Visited
  pub paths : map path_to visited ≡ take count (leaves tree)
  pub replies : AllByRecursion (RunsAlongPath script) visited
  pub most : count ≤ length (leaves tree)
  pub complete : is_complete ≡ true ↔ count ≡ length (leaves tree)
  pub outcomes : found ≡ outcomes_of (map (shown_leaf last) visited)

-- the result of an exploration, if no call sets a rate of partial resizes
abbrev pub IsExplored : Script → Bool → Explored → Type 0
IsExplored script last found = SetNoPartialResize (acts_of script.calls.items)
    → Explores script last found.is_complete found.leaves (outcomes_found found)

-- The text is that of an exploration of this script, with at most `limit` leaves: all leaves, or the first `limit` of
-- them.
pub record PrintsExploration (script : List ℕ) (limit : ℕ) (last : Bool) (text : List ℕ) : Type 0 where
  pub explored : Script
  pub is : IsScriptOf script explored
  pub found : List Distinct
  pub count : ℕ
  pub is_complete : Bool
  pub explores : Explores explored last is_complete count found
  pub within : count ≤ limit
  pub ended : is_complete ≡ false → count ≡ limit
  pub prints : text ≡ exploration_text found count is_complete

-- an exploration after some leaves: the others are left
pub record Exploring (script : Script) (last : Bool) (e : Exploration) (found : Explored) (t : DecisionTree) : Type 0 where
  pub explored : explored_script e ≡ script
  pub visited : List Visited
  pub paths : map path_to visited ++ remaining_leaves e t ≡ leaves t
  pub replies : AllByRecursion (RunsAlongPath script) visited
  pub counted : HasCounted found (map (shown_leaf last) visited)
