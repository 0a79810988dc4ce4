-- The leaves of a decision tree and the runs of some calls.
use Rattle.std.specs.Prelude.{◌≡◌, ◌<◌, ◌≤◌, ◌+◌, ◌-◌, ◌^◌, ℕ, Bool, List, [], ◌∷◌, ◌++◌, replicate, length, slice_index_or, All, Option}
use Rattle.rand_core.specs.Stream.{Stream}
use Rattle.blob_script.specs.declared.call.Call.{Call}
use Rattle.blob_script.specs.declared.reply.Reply.{Reply}
use Rattle.blob_script.specs.Told.{Told, Tells}
use Rattle.blob_tree.specs.WordsLeft.{EndsAfter}
use Rattle.blob_lab_model.specs.Runs.{LeadsTo}
use Rattle.blob_lab_model.specs.Scripted.{Left, scripted_stream}
use Rattle.blob_lab_model.specs.States.{State}
use Rattle.blob_tree.specs.Trees.{DecisionTree, IsLeaf, depth, extend_path, leaves, words_of}
use Rattle.blob_choices.specs.Decided.{Decides, HasU64Words, path_stream, zeros}
use Rattle.blob_choices.specs.Outcomes.{NoneOutOfMemory, acts_of, run_outcome, with_stream}

-- these replies are those of the specification
abbrev pub RepliesAre : List Reply → List Told → Type 0
RepliesAre [] [] = Unit {0}
RepliesAre (reply ∷ replies) (t ∷ ts) = Tells reply t × RepliesAre replies ts
RepliesAre replies ts = ⊥

-- the words of a path, spare zeros for further draws, and a last word that isn't zero
abbrev pub sentinel_words : List Bool → ℕ → List ℕ
sentinel_words path spare = words_of path ++ (replicate spare 0 ++ (2 ^ 64 - 1) ∷ [])

-- Whatever words follow those of a path, the run of the calls has these replies, and takes exactly the words of the path.
abbrev pub RunsAlong : State → List Call → List Bool → List Reply → Type 0
RunsAlong v calls path replies = (w : State) × ((tail : Left) → LeadsTo (with_stream v (path_stream path tail)) calls replies (with_stream w (scripted_stream tail)))

-- If a run was given the words of a path, spare zeros and a last word that is still left, then the number of words left gives the number of
-- draws, and the run is one along the path, continued by true outcomes.
abbrev pub LeftCountsTaken : Type 0
LeftCountsTaken = (v w : State) (calls : List Call) (replies : List Reply) (t : DecisionTree) (path : List Bool) (spare left : ℕ) → Decides (run_outcome v (acts_of calls)) t
    → NoneOutOfMemory replies → LeadsTo (with_stream v (scripted_stream (sentinel_words path spare, zeros.1))) calls replies w → EndsAfter w.stream left → 0 < left
    → (depth t path + left ≡ length path + spare + 1) × (depth t path ≤ length path + spare) × RunsAlong v calls (extend_path (depth t path) path) replies

-- each run over 64-bit words is one along the path to a leaf
abbrev pub LeavesAreAllRuns : Type 0
LeavesAreAllRuns = (v w : State) (calls : List Call) (replies : List Reply) (t : DecisionTree) → Decides (run_outcome v (acts_of calls)) t → HasU64Words v.stream
    → NoneOutOfMemory replies → LeadsTo v calls replies w
    → (path : List Bool) × IsLeaf t path × ((tail : Left) → LeadsTo (with_stream v (path_stream path tail)) calls replies (with_stream w (scripted_stream tail)))

-- Each run over 64-bit words is the run along one of these paths: the same replies, and the same state except the generator. This doesn't
-- cover runs in which a call fails to allocate.
abbrev pub HoldEveryRun : State → List Call → List (List Bool) → Type 0
HoldEveryRun v calls paths = (s : Stream) (w : State) (replies : List Reply) → HasU64Words s → NoneOutOfMemory replies → LeadsTo (with_stream v s) calls replies w
    → (i : ℕ) × (i < length paths)
    × ((tail : Left) → LeadsTo (with_stream v (path_stream (slice_index_or paths i []) tail)) calls replies (with_stream w (scripted_stream tail)))

-- each run is that of a leaf of a tree that decides the runs
abbrev pub LeavesHoldEveryRun : Type 0
LeavesHoldEveryRun = (v : State) (calls : List Call) (t : DecisionTree) → Decides (run_outcome v (acts_of calls)) t → HoldEveryRun v calls (leaves t)

-- given words that fit in 64 bits, and then zeros or the words of a seed, are a stream of 64-bit words
abbrev pub SeedsHaveU64Words : Type 0
SeedsHaveU64Words = (given : List ℕ) (tail : Option (List ℕ)) → All (λ word. word ≤ 2 ^ 64 - 1) given → HasU64Words (scripted_stream (given, tail))
