-- States that were found, each once.
use Rattle.std.specs.Prelude.{ℕ, Bool, List, [], ◌∷◌, ◌++◌, map, if◌then◌else◌, String, Vec, string_bytes}
use Rattle.std.specs.Global.{Global}
use Rattle.std.specs.List.{list_any}
use Rattle.std.specs.Str.{bytes_eq}
use Rattle.indexmap.specs.IndexMap.{IndexMap}

-- a state that a crash leaves: the words of such a crash, and the lines that set its files
pub record LeftState : Type 0 where
  pub words : List ℕ
  pub lines : List ℕ

abbrev pub left_by : List ℕ → List ℕ → LeftState
left_by words lines = record { words = words; lines = lines }

-- the states of a table
abbrev pub state_in : String Global × Vec ℕ Global → LeftState
state_in entry = left_by entry.1.items (string_bytes entry.0)

abbrev pub states_in : {S : Type 0} → IndexMap (String Global) (Vec ℕ Global) S → List LeftState
states_in table = map state_in table.entries

abbrev pub lines_of : LeftState → List ℕ
lines_of state = state.lines

abbrev pub lines_in : List LeftState → List (List ℕ)
lines_in states = map lines_of states

-- one of the states has these lines
abbrev pub has_lines : List LeftState → List ℕ → Bool
has_lines states lines = list_any (bytes_eq lines) (lines_in states)

-- a state is left out if an earlier one has the same lines
abbrev pub with_state : List LeftState → LeftState → List LeftState
with_state states state = if has_lines states state.lines then states else states ++ state ∷ []
