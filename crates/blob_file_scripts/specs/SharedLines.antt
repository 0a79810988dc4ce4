-- The first lines of a script of files. They are taken once, and each run begins with a fork of the files after them.
use Rattle.std.specs.Prelude.{◌≡◌, ◌↔◌, ◌≤◌, ◌<◌, ◌+◌, ◌-◌, ℕ, Bool, true, List, [], length, map, if◌then◌else◌, Option, None, string_bytes}
use Rattle.blob_directory.specs.Names.{Same}
use Rattle.blob_tree.specs.Trees.{extend_path, words_of}
use Rattle.blob_tree.specs.WordsLeft.{EndsAfter}
use Rattle.blob_lab_model.specs.Scripted.{scripted_stream}
use Rattle.blob_script.specs.Scripts.{lines_of}
use Rattle.blob_distinct.specs.Explored.{HasCounted}
use Rattle.blob_distinct.specs.Words.{sentinel_words}
use Rattle.blob_distinct.specs.declared.explored.Explored.{Explored}
use Rattle.blob_fs.specs.Files.{generator_of, names_of}
use Rattle.blob_file_sessions.specs.Held.{fs_of}
use Rattle.blob_file_sessions.specs.declared.kept.KeptFiles.{KeptFiles}
use Rattle.blob_file_scripts.specs.Explorations.{HasOneWord, HasVisited, IsForkWith, Visited, shown}
use Rattle.blob_file_scripts.specs.Takes.{TakesFirst, TakesLines}
use Rattle.blob_file_scripts.specs.declared.explored.Leaf.{Leaf}
use Rattle.blob_file_scripts.specs.declared.shared.Shared.{Shared}

-- the first lines of the script were taken on files without names, and took no word
pub record IsShared (script : List ℕ) (last : Bool) (shared : Shared) : Type 0 where
  pub begun : KeptFiles
  pub empty : Same (names_of (fs_of begun)) (λ _. None)
  pub one : HasOneWord begun
  pub still : HasOneWord shared.files
  pub first : TakesFirst last script shared.rest.now begun shared.files [] (string_bytes shared.text)

-- The text that each outcome begins with; and the text that a run has before it takes its own lines. If only the last reply is printed, an
-- outcome begins with no text, and a run that has no reply of its own has the last of the first lines.
abbrev pub front_of : Shared → Bool → List ℕ
front_of shared last = if last then [] else string_bytes shared.text

abbrev pub text_before : Shared → Bool → List ℕ
text_before shared last = if last then string_bytes shared.text else []

-- A fork with a generator of these words took the other lines. That gave this text, and left this number of words.
pub record Ran (shared : Shared) (last : Bool) (words : List ℕ) (text : List ℕ) (left : ℕ) : Type 0 where
  pub fork : KeptFiles
  pub end : KeptFiles
  pub forks : IsForkWith words shared.files fork
  pub others : TakesLines last (lines_of shared.rest.now) fork end (text_before shared last) text
  pub ends : EndsAfter (scripted_stream (generator_of (fs_of end))) left

-- The run along a path. It took at least the words of the path, and the leaf has the words that it took.
pub record Follows (shared : Shared) (last : Bool) (given : List Bool) (leaf : Leaf) : Type 0 where
  pub spare : ℕ
  pub left : ℕ
  pub ran : Ran shared last (sentinel_words given spare) (string_bytes leaf.text) left
  pub some : 0 < left
  pub follows : left ≤ spare + 1
  pub words_are : leaf.words.items ≡ words_of (extend_path (length given + spare + 1 - left) given)

-- the leaves that were visited and counted
pub record HasFound (script : List ℕ) (last : Bool) (found : Explored) : Type 0 where
  pub visited : List Visited
  pub next : Option (List Bool)
  pub has : HasVisited script last visited next
  pub counted : HasCounted found (map shown visited)
  pub all : found.is_complete ≡ true ↔ next ≡ None
