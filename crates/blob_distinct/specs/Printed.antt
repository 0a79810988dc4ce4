-- What is printed of an exploration.
use Rattle.std.specs.Prelude.{◌≡◌, ℕ, Bool, List, [], ◌∷◌, ◌++◌, ◌==◌, length, codes, if◌then◌else◌, String, string_bytes}
use Rattle.std.specs.Global.{Global}
use Rattle.std.specs.List.{flat_map}
use Rattle.std.specs.Fmt.{decimal}
use Rattle.blob_distinct.specs.Distinct.{Distinct, outcomes_in}
use Rattle.blob_distinct.specs.Explored.{outcomes_found}
use Rattle.blob_distinct.specs.declared.explored.Explored.{Explored}

-- a number of leaves, and of outcomes
abbrev pub leaves_text : ℕ → List ℕ
leaves_text leaves = codes "# " ++ decimal leaves ++ codes " " ++ (if leaves == 1 then codes "leaf" else codes "leaves")

abbrev pub count_text : ℕ → List ℕ
count_text outcomes = decimal outcomes ++ codes " " ++ (if outcomes == 1 then codes "outcome" else codes "outcomes")

-- a word, which is 0 or the greatest one
abbrev pub word_text : ℕ → List ℕ
word_text word = if word == 0 then codes " 0" else codes " max"

-- the words of an outcome's first leaf
abbrev pub words_text : List ℕ → List ℕ
words_text [] = codes ", which draws no words"
words_text (word ∷ words) = codes ", first: words" ++ flat_map word_text (word ∷ words)

-- a line with the number of its leaves and the words of the first, and then its own lines
abbrev pub outcome_text : Distinct → List ℕ
outcome_text outcome = leaves_text outcome.leaves ++ words_text outcome.words ++ codes "\n" ++ outcome.text

-- whether these are all
abbrev pub limit_text : Bool → List ℕ
limit_text is_complete = if is_complete then codes "all of them" else codes "not all of them: the limit was reached"

-- the last line: the number of leaves, whether these are all, and the number of outcomes
abbrev pub found_text : ℕ → Bool → List ℕ
found_text outcomes is_complete = codes ", " ++ limit_text is_complete ++ codes "; " ++ count_text outcomes ++ codes "\n"

abbrev pub end_text : List Distinct → ℕ → Bool → List ℕ
end_text outcomes leaves is_complete = leaves_text leaves ++ found_text (length outcomes) is_complete

abbrev pub exploration_text : List Distinct → ℕ → Bool → List ℕ
exploration_text outcomes leaves is_complete = flat_map outcome_text outcomes ++ end_text outcomes leaves is_complete

-- the whole text of what was explored, and its last line
abbrev pub explored_text : Explored → List ℕ
explored_text explored = exploration_text (outcomes_found explored) explored.leaves explored.is_complete

abbrev pub last_line : Explored → List ℕ
last_line explored = end_text (outcomes_in explored.outcomes) explored.leaves explored.is_complete

-- a text grew by these bytes
abbrev pub Appends : String Global → String Global → List ℕ → Type 0
Appends old new bytes = string_bytes new ≡ string_bytes old ++ bytes
