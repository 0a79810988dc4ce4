-- How a run of the program ends.
use Rattle.std.specs.Prelude.{◌≡◌, ◌≢◌, ℕ, List, [], ◌++◌, codes, Bool, true, false, Result, Err}
use Rattle.std.specs.Fmt.{decimal}
use Rattle.blob_lab.specs.declared.ending.Ending.{Ending}
use Rattle.blob_lab.specs.declared.ending.Ending.TheVariants.{Done, InputFailed, OutputFailed, BadCall, BadImage, Usage, NoMemory}

-- the exit status
abbrev pub status_of : Ending → ℕ
status_of Done = 0
status_of InputFailed = 1
status_of OutputFailed = 1
status_of (BadCall line) = 2
status_of BadImage = 2
status_of Usage = 2
status_of NoMemory = 3

-- the line for standard error, without its line feed; empty after success
abbrev pub ending_line : Ending → List ℕ
ending_line Done = []
ending_line InputFailed = codes "input failed"
ending_line OutputFailed = codes "output failed"
ending_line (BadCall line) = codes "line " ++ decimal line ++ codes ": bad call"
ending_line BadImage = codes "bad image"
ending_line Usage = codes "usage: blobcrash [resolve]"
ending_line NoMemory = codes "no memory"

-- whether a script can end like this: without an image and with valid arguments
abbrev pub is_of_script : Ending → Bool
is_of_script BadImage = false
is_of_script Usage = false
is_of_script ending = true

-- whether a script's run can fail like this
abbrev pub is_cut : Ending → Bool
is_cut Done = false
is_cut ending = is_of_script ending

-- whether a read or a write can fail like this
abbrev pub is_of_stream : Ending → Bool
is_of_stream InputFailed = true
is_of_stream OutputFailed = true
is_of_stream NoMemory = true
is_of_stream ending = false

-- whether a run of `resolve` can end like this: without a script and with valid arguments
abbrev pub is_of_resolve : Ending → Bool
is_of_resolve (BadCall line) = false
is_of_resolve Usage = false
is_of_resolve ending = true

-- whether a run of `resolve` can fail like this
abbrev pub is_cut_of_resolve : Ending → Bool
is_cut_of_resolve Done = false
is_cut_of_resolve ending = is_of_resolve ending

-- What holds by how a run ended.

-- P holds if the output didn't fail
abbrev pub IfWritten : Ending → Type 0 → Type 0
IfWritten ending P = ending ≢ OutputFailed → P

-- P holds if the output failed
abbrev pub IfWriteFailed : Ending → Type 0 → Type 0
IfWriteFailed ending P = ending ≡ OutputFailed → P

-- P holds if `resolve` ended before its reply: not as Done, nor as OutputFailed
abbrev pub IfNoReply : Ending → Type 0 → Type 0
IfNoReply ending P = ending ≢ Done → ending ≢ OutputFailed → P

-- P holds of the number of the bad line, if the run ended at one
abbrev pub IfBadLine : {T : Type 0} → Result T Ending → (ℕ → Type 0) → Type 0
IfBadLine result P = (number : ℕ) → result ≡ Err (BadCall number) → P number
