-- The states of a script's crashes as they are printed, a crash at a time.
use Rattle.std.specs.Prelude.{◌≡◌, ◌<◌, ◌-◌, ◌++◌, ℕ, Bool, true, false, String, List, length, Option, string_bytes}
use Rattle.std.specs.Global.{Global}
use Rattle.blob_lab_store.specs.LabStands.{LabStandsFor}
use Rattle.blob_states.specs.Printed.{IsCrashRange, PrintsCrashes, PrintsStates}
use Rattle.blob_states.specs.Recorded.{HaveNames, names_of, state_after}
use Rattle.blob_states.specs.ScriptTexts.{IsScriptOf}
use Rattle.blob_states.specs.declared.print.StatesText.{StatesText}

-- how many crashes are still to come
abbrev pub crashes_left : StatesText → ℕ
crashes_left s = s.end - s.calls

-- This text was printed for the script: the states of the first crashes. If there is another one, the calls before it were made.
pub record IsPrinting (script : List ℕ) (at : Option ℕ) (limit : ℕ) (s : StatesText) (text : List ℕ) : Type 0 where
  pub is : IsScriptOf script s.run
  pub limit_is : s.limit ≡ limit
  pub range : IsCrashRange at (length s.run.calls.items) s.first s.end
  pub printed : PrintsCrashes s.run limit s.first (s.calls - s.first) text s.total
  pub stands : s.calls < s.end → LabStandsFor s.lab (state_after s.run s.calls)
  pub names : s.calls < s.end → HaveNames (names_of s.names.items) s.run s.calls

-- the same after more text, or all that is to be printed
abbrev pub IsPrinted : Bool → List ℕ → Option ℕ → ℕ → StatesText → List ℕ → Type 0
IsPrinted true script at limit s text = IsPrinting script at limit s text
IsPrinted false script at limit s text = PrintsStates script at limit text

-- what is appended goes on with what was printed before
abbrev pub GoesOn : StatesText → StatesText → Bool → String Global → String Global → Type 0
GoesOn s s' more old new =
    (bytes : List ℕ) × (string_bytes new ≡ string_bytes old ++ bytes)
    × ((script : List ℕ) (at : Option ℕ) (limit : ℕ) (before : List ℕ) → IsPrinting script at limit s before → IsPrinted more script at limit s' (before ++ bytes))
