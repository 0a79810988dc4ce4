-- The states that a crash leaves, by all its words.
use Rattle.std.specs.Prelude.{◌≡◌, ◌≢◌, ◌≤◌, ℕ, Bool, true, List, [], ◌∷◌, length, take, Option, Some, None, IfSome, string_bytes}
use Rattle.std.specs.List.{All, AllPairs, Contains}
use Rattle.rand_core.specs.Stream.{Stream}
use Rattle.blob_distinct.specs.Found.{LeftState, lines_in, states_in}
use Rattle.blob_header.specs.Refusals.{Memory}
use Rattle.blob_script.specs.declared.call.Call.TheVariants.{Crash}
use Rattle.blob_script.specs.declared.reply.Reply.{Reply}
use Rattle.blob_script.specs.Told.{refused_by}
use Rattle.blob_tree.specs.Trees.{DecisionTree, depth, extend_path, leaves, words_of}
use Rattle.blob_tree.specs.WordsLeft.{EndsAfter}
use Rattle.blob_lab_model.specs.Runs.{LeadsTo}
use Rattle.blob_lab_model.specs.Scripted.{scripted_stream}
use Rattle.blob_lab_model.specs.States.{State}
use Rattle.blob_choices.specs.Decided.{Decides, HasU64Words}
use Rattle.blob_choices.specs.Outcomes.{with_stream}
use Rattle.blob_states.specs.Crashed.{crash_draws, lines_left}
use Rattle.blob_states.specs.Recorded.{HaveEachFile, Name}
use Rattle.blob_states.specs.declared.states.CrashStates.{CrashStates}
use Rattle.blob_states.specs.declared.visit.Leaf.{Leaf}

-- these words, and then zeros
abbrev pub only_words : List ℕ → Stream
only_words words = scripted_stream (words, None)

-- A crash by the words of the state leaves it.
abbrev pub IsLeft : State → List Name → LeftState → Type 0
IsLeft v names state = state.lines ≡ lines_left v names (only_words state.words)

-- the crash along a path leaves one of the states
abbrev pub IsFound : State → List Name → List LeftState → List Bool → Type 0
IsFound v names states path = Contains (lines_in states) (lines_left v names (only_words (words_of path)))

-- These are the states that crashes leave. `count` is how many outcomes of the draws were tried.
pub record AreLeft (v : State) (names : List Name) (is_complete : Bool) (count : ℕ) (states : List LeftState) : Type 0 where
  -- each is left by its words
  pub sound : All (IsLeft v names) states
  -- no two are equal
  pub once : AllPairs (λ a b. a ≢ b) (lines_in states)
  -- each crash, by whatever 64-bit words, leaves one of them
  pub complete : is_complete ≡ true → (s : Stream) → HasU64Words s → Contains (lines_in states) (lines_left v names s)
  -- the outcomes are leaves of a tree that decides the draws
  pub tree : DecisionTree
  pub decides : Decides (crash_draws v) tree
  pub most : count ≤ length (leaves tree)
  pub all : is_complete ≡ true → count ≡ length (leaves tree)
  -- each that was tried leaves one of the states
  pub tried : All (IsFound v names states) (take count (leaves tree))

-- the same with names that have each file: so a state has all that is durable
pub record AreAllLeft (v : State) (is_complete : Bool) (count : ℕ) (states : List LeftState) : Type 0 where
  pub names : List Name
  pub have : HaveEachFile names v.files
  pub left : AreLeft v names is_complete count states

abbrev pub AreStatesOf : State → CrashStates → Type 0
AreStatesOf v found = AreAllLeft v found.is_complete found.outcomes (states_in found.states)

-- a crash by these words leaves the files of these lines, and this number of words
pub record Leaves (v : State) (names : List Name) (words lines : List ℕ) (left : Option ℕ) : Type 0 where
  pub reply : Reply
  pub after : State
  pub memory : refused_by reply ≢ Some Memory
  pub leads : LeadsTo (with_stream v (only_words words)) (Crash ∷ []) (reply ∷ []) after
  pub lines_are : lines ≡ lines_left v names (only_words words)
  pub ends : IfSome left (λ n. EndsAfter after.stream n)

-- the crash along this path, continued by true outcomes, in each tree that decides the draws
abbrev pub TakesPath : State → List Name → List Bool → Leaf → Type 0
TakesPath v names path leaf = (t : DecisionTree) → Decides (crash_draws v) t
    → (leaf.words.items ≡ words_of (extend_path (depth t path) path))
    × (string_bytes leaf.lines ≡ lines_left v names (only_words (words_of (extend_path (depth t path) path))))
