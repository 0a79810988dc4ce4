-- What the run of a whole script prints.
use Rattle.std.specs.Prelude.{◌≡◌, ◌⊎◌, ℕ, List, [], Some, length}
use Rattle.blob_lab.specs.declared.ending.Ending.{Ending}
use Rattle.blob_lab.specs.declared.ending.Ending.TheVariants.{BadCall, Done}
use Rattle.blob_lab.specs.Scripts.{Prints, PrintsBeforeLine, lines_of, script_of}
use Rattle.blob_statuses.specs.declared.ran.TheConstants.{BAD_LINE, DONE, ENDLESS, NO_MEMORY, NO_ROOM}

-- these bytes are a script, and this is its output
abbrev pub PrintsScript : List ℕ → List ℕ → Type 0
PrintsScript script printed = Prints (script_of (lines_of script)) (Some []) (Some printed)

-- this is the output of the lines before the bad line of this number
abbrev pub PrintsUntil : List ℕ → ℕ → List ℕ → Type 0
PrintsUntil script line printed = PrintsBeforeLine line script (Some []) (Some printed)

-- these bytes: of the whole script, with 0 for a line, or before the bad line of this number
abbrev pub RunPrints : List ℕ → ℕ → List ℕ → Type 0
RunPrints script line printed = ((line ≡ 0) × PrintsScript script printed) ⊎ PrintsUntil script line printed

-- the run prints `len` bytes
abbrev pub WantsRoom : List ℕ → ℕ → ℕ → Type 0
WantsRoom script line len = (printed : List ℕ) × RunPrints script line printed × (length printed ≡ len)

-- a run went to its end, with 0 for a line, or ended before the bad line of this number
abbrev pub EndsAt : Ending → ℕ → Type 0
EndsAt ending line = ((line ≡ 0) × (ending ≡ Done)) ⊎ (ending ≡ BadCall line)

-- a run ends with one of these
abbrev pub IsRunStatus : ℕ → Type 0
IsRunStatus status = (status ≡ DONE) ⊎ (status ≡ BAD_LINE) ⊎ (status ≡ NO_ROOM) ⊎ (status ≡ NO_MEMORY) ⊎ (status ≡ ENDLESS)
