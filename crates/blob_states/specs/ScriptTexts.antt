-- The script that a text is, and why a text isn't one.
use Rattle.std.specs.Prelude.{◌≡◌, ℕ, suc, List, ◌∷◌, ◌++◌, length, Some, None}
use Rattle.blob_draws.specs.declared.config.Config.{Config}
use Rattle.blob_script.specs.declared.call.Call.{Call}
use Rattle.blob_script.specs.declared.script.preamble.Preamble.{Preamble}
use Rattle.blob_script.specs.Preambles.{images_of, words_of}
use Rattle.blob_script.specs.Readers.{HasRead, config_of, preamble_of}
use Rattle.blob_script.specs.Scripts.{Script, lines_of, script_of, with_line}
use Rattle.blob_choices.specs.Outcomes.{acts_of}
use Rattle.blob_states.specs.declared.recorded.Recorded.{Recorded}
use Rattle.blob_states.specs.declared.script.Reading.{Reading}
use Rattle.blob_states.specs.declared.script.RefusedScript.{RefusedScript}
use Rattle.blob_states.specs.declared.script.RefusedScript.TheVariants.{BadCall, FewCalls, NoMemory}

-- the exit status
abbrev pub status_of : RefusedScript → ℕ
status_of (BadCall number) = 2
status_of (FewCalls calls) = 2
status_of NoMemory = 3

-- a script with this preamble, these settings and these calls
abbrev pub script_with : Preamble → Config → List Call → Script
script_with p config calls = record { images = images_of p.images.items; words = words_of p; config = config; calls = acts_of calls }

-- the lines of the text are this script
abbrev pub IsScriptOf : List ℕ → Recorded → Type 0
IsScriptOf text run = (config : Config) × (script_of (lines_of text) ≡ Some (script_with run.preamble config run.calls.items))

-- the lines so far
abbrev pub script_so_far : Reading → Script
script_so_far reading = script_with (preamble_of reading.reader) (config_of reading.reader) reading.calls.items

abbrev pub IsRead : Reading → Type 0
IsRead reading = HasRead reading.reader (script_so_far reading)

abbrev pub AddsLine : Reading → List ℕ → Reading → Type 0
AddsLine old line new = with_line (script_so_far old) line ≡ Some (script_so_far new)

-- a line that follows the lines so far, by its number
abbrev pub RefusesLine : Reading → List ℕ → ℕ → RefusedScript → Type 0
RefusesLine reading line number (BadCall n) = (n ≡ number) × (with_line (script_so_far reading) line ≡ None)
RefusesLine reading line number (FewCalls calls) = ⊥
RefusesLine reading line number NoMemory = Unit {0}

-- the lines before one are a script, and that one can't follow them. Lines are counted from 1
pub record IsBadAt (text : List ℕ) (number : ℕ) : Type 0 where
  pub front : List (List ℕ)
  pub bad : List ℕ
  pub rest : List (List ℕ)
  pub parts : lines_of text ≡ front ++ bad ∷ rest
  pub numbered : number ≡ suc (length front)
  pub script : Script
  pub is : script_of front ≡ Some script
  pub refused : with_line script bad ≡ None

abbrev pub IsRefused : List ℕ → RefusedScript → Type 0
IsRefused text (BadCall number) = IsBadAt text number
IsRefused text (FewCalls calls) = ⊥
IsRefused text NoMemory = Unit {0}
