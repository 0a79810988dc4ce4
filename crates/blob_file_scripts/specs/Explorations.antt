-- An exploration of a script of files.
use Rattle.std.specs.Prelude.{◌≡◌, ◌↔◌, ◌≤◌, ◌<◌, ◌+◌, ◌-◌, ℕ, Bool, true, false, List, [], ◌∷◌, ◌++◌, length, map, Option, Some, None}
use Rattle.std.specs.List.{AllByRecursion}
use Rattle.blob_directory.specs.Names.{Same}
use Rattle.blob_tree.specs.Trees.{DecisionTree, depth, extend_path, leaves, left_after, next_path, words_of}
use Rattle.blob_tree.specs.WordsLeft.{EndsAfter}
use Rattle.blob_lab_model.specs.Scripted.{scripted_stream}
use Rattle.blob_script.specs.Scripts.{lines_of}
use Rattle.blob_distinct.specs.Distinct.{LeafText, leaf_text, outcomes_of}
use Rattle.blob_distinct.specs.Printed.{exploration_text}
use Rattle.blob_distinct.specs.Words.{sentinel_words}
use Rattle.blob_fs.specs.Files.{generator_of, names_of}
use Rattle.blob_fs.specs.Fixed.{KeepsFixed}
use Rattle.blob_fs.specs.Forks.{CrashesSame, IsFork, LooksSame}
use Rattle.blob_file_sessions.specs.Held.{fs_of}
use Rattle.blob_file_sessions.specs.declared.kept.KeptFiles.{KeptFiles}
use Rattle.blob_file_scripts.specs.DrawSequences.{BeginsWithOne}
use Rattle.blob_file_scripts.specs.Takes.{TakesLines}

-- Files in the same state. The generator of the fork gives these words and then zeros.
pub record IsForkWith (words : List ℕ) (k fork : KeptFiles) : Type 0 where
  pub same : IsFork (fs_of k) (fs_of fork)
  pub looks : LooksSame (fs_of k) (fs_of fork)
  pub crashes : CrashesSame (fs_of k) (fs_of fork)
  pub fixed : KeepsFixed (fs_of k) (fs_of fork)
  pub words_are : generator_of (fs_of fork) ≡ (words, None)

-- A visited leaf: the path that was given to its run, the path of all draws that the run made, and the text of its replies. The draws
-- after the given ones are true.
pub record Visited : Type 0 where
  pub given : List Bool
  pub path : List Bool
  pub text : List ℕ

-- The generator gives one word that isn't zero, the next one. A draw would take it.
abbrev pub HasOneWord : KeptFiles → Type 0
HasOneWord k = EndsAfter (scripted_stream (generator_of (fs_of k))) 1

-- What all runs share: the first lines were taken on files without names, and took no word. The others are taken by each run.
pub record Start (script : List ℕ) (last : Bool) : Type 0 where
  pub begun : KeptFiles
  pub here : KeptFiles
  pub front : List (List ℕ)
  pub rest : List (List ℕ)
  pub text : List ℕ
  pub lines : lines_of script ≡ front ++ rest
  pub empty : Same (names_of (fs_of begun)) (λ _. None)
  pub one : HasOneWord begun
  pub still : HasOneWord here
  pub first : TakesLines last front begun here [] text

-- The run of a leaf: a fork of the files at the start took the other lines. The generator of the fork gives the words of the given path,
-- zeros and a last word that isn't zero. That word is left, so the number of words that are left says how many were taken: at least
-- those of the given path.
pub record IsRunOf (script : List ℕ) (last : Bool) (start : Start script last) (leaf : Visited) : Type 0 where
  pub fork : KeptFiles
  pub end : KeptFiles
  pub spare : ℕ
  pub left : ℕ
  pub forks : IsForkWith (sentinel_words leaf.given spare) start.here fork
  pub others : TakesLines last start.rest fork end start.text leaf.text
  pub ends : EndsAfter (scripted_stream (generator_of (fs_of end))) left
  pub some : 0 < left
  pub follows : left ≤ spare + 1
  pub path_is : leaf.path ≡ extend_path (length leaf.given + spare + 1 - left) leaf.given

-- All leaves are those of runs from one start. If no leaf was visited, nothing is said: no line may have been read.
abbrev pub AreRuns : List ℕ → Bool → List Visited → Type 0
AreRuns script last [] = Unit {0}
AreRuns script last (leaf ∷ leaves) =
    (start : Start script last) × AllByRecursion (IsRunOf script last start) (leaf ∷ leaves)

-- The first path that is given is empty. Each later one is the next after the path before it, and `next` is the one after the last.
abbrev pub InOrder : Option (List Bool) → List Visited → Option (List Bool) → Type 0
InOrder first [] next = next ≡ first
InOrder first (leaf ∷ leaves) next = (first ≡ Some leaf.given) × InOrder (next_path leaf.path) leaves next

-- the tree has as many draws along the path
abbrev pub HasDraws : DecisionTree → Visited → Type 0
HasDraws t leaf = depth t leaf.given ≡ length leaf.path

abbrev pub path_to : Visited → List Bool
path_to leaf = leaf.path

abbrev pub shown : Visited → LeafText
shown leaf = leaf_text (words_of leaf.path) leaf.text

-- Leaves were visited: the first ones of a decision tree that has the draws of their runs. The paths after them begin with `next`.
pub record HasVisited (script : List ℕ) (last : Bool) (visited : List Visited) (next : Option (List Bool))
    : Type 0 where
  pub runs : AreRuns script last visited
  pub order : InOrder (Some []) visited next
  pub tree : DecisionTree
  pub draws : AllByRecursion (HasDraws tree) visited
  pub paths : map path_to visited ++ left_after tree next ≡ leaves tree
  -- the same in each other tree that has these draws
  pub first : (t : DecisionTree) → AllByRecursion (HasDraws t) visited
      → map path_to visited ++ left_after t next ≡ leaves t
  -- if no leaf is left, each sequence of draws begins with the path of exactly one visited leaf
  pub none_missed : next ≡ None → (sequence : ℕ → Bool) → BeginsWithOne sequence (map path_to visited)

-- The text has the distinct outcomes of the visited leaves, at most `limit`. It says that they are all leaves exactly if none is left. If
-- it says that they are not all, the limit was reached.
pub record PrintsExploration (script : List ℕ) (limit : ℕ) (last : Bool) (text : List ℕ) : Type 0 where
  pub visited : List Visited
  pub next : Option (List Bool)
  pub is_complete : Bool
  pub has : HasVisited script last visited next
  pub all : is_complete ≡ true ↔ next ≡ None
  pub within : length visited ≤ limit
  pub ended : is_complete ≡ false → length visited ≡ limit
  pub prints : text ≡ exploration_text (outcomes_of (map shown visited)) (length visited) is_complete
