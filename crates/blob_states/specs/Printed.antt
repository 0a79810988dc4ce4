-- What is printed of the states of a recorded run.
use Rattle.std.specs.Prelude.{◌≡◌, ◌≤◌, ◌<◌, ◌+◌, ◌-◌, ◌==◌, ◌&&◌, ℕ, zero, suc, Bool, true, false, List, [], ◌∷◌, ◌++◌, length, map, fold, codes, if◌then◌else◌, Option, Some, None}
use Rattle.std.specs.List.{AllByRecursion, flat_map}
use Rattle.std.specs.Fmt.{decimal}
use Rattle.blob_distinct.specs.Found.{LeftState, states_in}
use Rattle.blob_distinct.specs.Printed.{limit_text, word_text}
use Rattle.blob_states.specs.CrashStates.{AreAllLeft}
use Rattle.blob_states.specs.Recorded.{state_after}
use Rattle.blob_states.specs.ScriptTexts.{IsBadAt, IsScriptOf}
use Rattle.blob_states.specs.declared.print.Total.{Total}
use Rattle.blob_states.specs.declared.recorded.Recorded.{Recorded}
use Rattle.blob_states.specs.declared.script.RefusedScript.{RefusedScript}
use Rattle.blob_states.specs.declared.script.RefusedScript.TheVariants.{BadCall, FewCalls, NoMemory}
use Rattle.blob_states.specs.declared.states.CrashStates.{CrashStates}

-- the crash after a number of calls: the states that it leaves, and the outcomes that were tried
pub record Point : Type 0 where
  pub calls : ℕ
  pub states : List LeftState
  pub outcomes : ℕ
  pub is_complete : Bool

abbrev pub point_of : ℕ → CrashStates → Point
point_of calls found = record { calls = calls; states = states_in found.states; outcomes = found.outcomes; is_complete = found.is_complete }

abbrev pub words_text : List ℕ → List ℕ
words_text [] = codes ", no words"
words_text (word ∷ words) = codes ", words" ++ flat_map word_text (word ∷ words)

abbrev pub call_text : ℕ → List ℕ
call_text calls = codes "# crash after call " ++ decimal calls

-- a line with the words of the crash, and then those of the files that it leaves
abbrev pub state_text : ℕ → LeftState → List ℕ
state_text calls state = call_text calls ++ words_text state.words ++ codes "\n" ++ state.lines

abbrev pub point_text : Point → List ℕ
point_text point = flat_map (state_text point.calls) point.states

-- a number of things, and a comma
abbrev pub counted : ℕ → List ℕ → List ℕ → List ℕ
counted count one many = decimal count ++ codes " " ++ (if count == 1 then one else many) ++ codes ", "

-- the counts of all crashes: of the crashes, of the outcomes that were tried and of the states, and whether these are all
abbrev pub with_point : Total → Point → Total
with_point total point = record {
  crashes = total.crashes + 1;
  outcomes = total.outcomes + point.outcomes;
  states = total.states + length point.states;
  is_complete = total.is_complete && point.is_complete;
}

abbrev pub total_of : List Point → Total
total_of points = fold with_point (record { crashes = 0; outcomes = 0; states = 0; is_complete = true }) points

-- the last line
abbrev pub total_line : Total → List ℕ
total_line total =
    codes "# " ++ counted total.crashes (codes "crash") (codes "crashes")
    ++ counted total.outcomes (codes "outcome") (codes "outcomes")
    ++ counted total.states (codes "state") (codes "states")
    ++ limit_text total.is_complete ++ codes "\n"

-- these numbers of calls: as many as `count`, from the first on
abbrev pub calls_from : ℕ → ℕ → List ℕ
calls_from first zero = []
calls_from first (suc count) = first ∷ calls_from (suc first) count

-- after which calls there is a crash: after each one and before the first, or after one only
abbrev pub crash_points : Option ℕ → ℕ → List ℕ
crash_points None calls = calls_from 0 (suc calls)
crash_points (Some at) calls = at ∷ []

-- a crash of a run, within the limit
pub record IsCrashOf (run : Recorded) (limit : ℕ) (point : Point) : Type 0 where
  pub left : AreAllLeft (state_after run point.calls) point.is_complete point.outcomes point.states
  pub within : point.outcomes ≤ limit
  pub ended : point.is_complete ≡ false → point.outcomes ≡ limit

abbrev pub calls_of : Point → ℕ
calls_of point = point.calls

-- the crashes after `first` calls and more, as many as `count`: their states are the text, and the total has their counts
pub record PrintsCrashes (run : Recorded) (limit first count : ℕ) (text : List ℕ) (total : Total) : Type 0 where
  pub points : List Point
  pub calls : map calls_of points ≡ calls_from first count
  pub each : AllByRecursion (IsCrashOf run limit) points
  pub prints : text ≡ flat_map point_text points
  pub total_is : total ≡ total_of points

-- The text has, for each crash of the run of this script, the states that it leaves.
pub record PrintsStates (script : List ℕ) (at : Option ℕ) (limit : ℕ) (text : List ℕ) : Type 0 where
  pub run : Recorded
  pub is : IsScriptOf script run
  pub points : List Point
  pub calls : map calls_of points ≡ crash_points at (length run.calls.items)
  pub each : AllByRecursion (IsCrashOf run limit) points
  pub prints : text ≡ flat_map point_text points ++ total_line (total_of points)

-- from the first of these points to the last, both included
pub record IsCrashRange (at : Option ℕ) (calls first end : ℕ) : Type 0 where
  pub points : calls_from first (end - first) ≡ crash_points at calls
  pub some : first < end
  pub within : end ≤ suc calls

abbrev pub HasFewerCalls : Option ℕ → ℕ → RefusedScript → Type 0
HasFewerCalls at calls (BadCall number) = ⊥
HasFewerCalls None calls (FewCalls count) = ⊥
HasFewerCalls (Some at) calls (FewCalls count) = (count ≡ calls) × (calls < at)
HasFewerCalls at calls NoMemory = Unit {0}

-- the script has fewer calls
abbrev pub HasFewCalls : List ℕ → Option ℕ → ℕ → Type 0
HasFewCalls script None calls = ⊥
HasFewCalls script (Some at) calls = (run : Recorded) × IsScriptOf script run × (length run.calls.items ≡ calls) × (calls < at)

abbrev pub HasNoStates : List ℕ → Option ℕ → RefusedScript → Type 0
HasNoStates script at (BadCall number) = IsBadAt script number
HasNoStates script at (FewCalls calls) = HasFewCalls script at calls
HasNoStates script at NoMemory = Unit {0}
