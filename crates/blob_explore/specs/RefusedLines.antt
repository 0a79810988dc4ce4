-- Why a text isn't explored.
use Rattle.std.specs.Prelude.{◌≡◌, ◌≢◌, ℕ, suc, List, [], ◌∷◌, ◌++◌, length, Option, Some, None}
use Rattle.blob_script.specs.Acts.{Act}
use Rattle.blob_script.specs.Lines as says
use Rattle.blob_script.specs.Preambles.{only, words_of}
use Rattle.blob_script.specs.Readers.{lines_read, preamble_of}
use Rattle.blob_script.specs.declared.script.reader.Reader.{Reader}
use Rattle.blob_script.specs.Lines.{Said, line_of}
use Rattle.blob_lab.specs.Scripts as lab
use Rattle.blob_lab.specs.Scripts.{lines_of, script_of, with_line, with_said}
use Rattle.blob_choices.specs.Outcomes.{SetNoPartialResize, SetsNoPartialResize}
use Rattle.blob_explore.specs.ScriptTexts.{script_so_far}
use Rattle.blob_explore.specs.declared.script.Reading.{Reading}
use Rattle.blob_explore.specs.declared.script.RefusedScript.{RefusedScript}
use Rattle.blob_explore.specs.declared.script.RefusedScript.TheVariants.{BadCall, PartialResize, NoMemory}

-- the exit status
abbrev pub status_of : RefusedScript → ℕ
status_of (BadCall number) = 2
status_of (PartialResize number) = 2
status_of NoMemory = 3

-- What this line says can't follow the script: it is no line, gives words or a seed, or isn't allowed there.
abbrev pub IsOutOfPlace : lab.Script → Option Said → Type 0
IsOutOfPlace script None = Unit {0}
IsOutOfPlace script (Some (says.Given words)) = Unit {0}
IsOutOfPlace script (Some (says.Seed seed)) = Unit {0}
IsOutOfPlace script (Some said) = with_said script said ≡ None

-- a call of the script sets a rate of partial resizes
abbrev pub SetsPartialResize : Option lab.Script → Type 0
SetsPartialResize None = ⊥
SetsPartialResize (Some script) = SetNoPartialResize script.calls → ⊥

-- what is said is refused, by the number of its line
abbrev pub Refuses : lab.Script → ℕ → Option Said → Option lab.Script → RefusedScript → Type 0
Refuses script line said after (BadCall number) = (number ≡ line) × IsOutOfPlace script said
Refuses script line said after (PartialResize number) = (number ≡ line) × SetsPartialResize after
Refuses script line said after NoMemory = Unit {0}

-- a call is refused, by the number of its line
abbrev pub RefusesCall : ℕ → Act → RefusedScript → Type 0
RefusesCall line act (BadCall number) = ⊥
RefusesCall line act (PartialResize number) = (number ≡ line) × (SetsNoPartialResize act → ⊥)
RefusesCall line act NoMemory = Unit {0}

-- words or a seed are refused, by the number of their line
abbrev pub RefusesWords : Reader → RefusedScript → Type 0
RefusesWords reader refused = (refused ≡ BadCall (lines_read reader)) × (words_of (preamble_of reader) ≢ only [])

-- a line that follows the lines so far
abbrev pub RefusesLine : Reading → List ℕ → ℕ → RefusedScript → Type 0
RefusesLine reading line number refused =
    Refuses (script_so_far reading) number (line_of line) (with_line (script_so_far reading) line) refused

-- the lines before one are a script, and that one is refused by its number, counted from 1
pub record IsRefusedAt (text : List ℕ) (refused : RefusedScript) : Type 0 where
  pub front : List (List ℕ)
  pub bad : List ℕ
  pub rest : List (List ℕ)
  pub parts : lines_of text ≡ front ++ bad ∷ rest
  pub script : lab.Script
  pub is : script_of front ≡ Some script
  pub refuses : Refuses script (suc (length front)) (line_of bad) (with_line script bad) refused

-- or memory ran out
abbrev pub IsRefused : List ℕ → RefusedScript → Type 0
IsRefused text (BadCall number) = IsRefusedAt text (BadCall number)
IsRefused text (PartialResize number) = IsRefusedAt text (PartialResize number)
IsRefused text NoMemory = Unit {0}
