-- How the lines of a script are read, if the reader's remaining bytes are known.
use Rattle.std.specs.Prelude.{◌≡◌, ◌⊎◌, ℕ, ◌+◌, List, [], ◌∷◌, ◌++◌, length, map, Option, Some, None, Result, IfErr, IfSome, IsSomeAnd}
use Rattle.std.specs.List.{flat_map}
use Rattle.std.specs.Io.Iter.{u64_saturate}
use Rattle.std.specs.Io.KnownBytes.{Appends}
use Rattle.blob_draws.specs.declared.config.Config.{Config}
use Rattle.blob_script.specs.declared.call.Call.{Call}
use Rattle.blob_script.specs.declared.reply.Reply.{Reply}
use Rattle.blob_script.specs.declared.script.reader.Reader.{Reader}
use Rattle.blob_script.specs.Acts.{Act, act_of}
use Rattle.blob_script.specs.Readers.{HasRead, config_of, has_begun, lines_read, preamble_of, with_preamble}
use Rattle.blob_script.specs.Replies.{reply_line}
use Rattle.blob_script.specs.Scripts.{with_call}
use Rattle.blob_script.specs.Settings.{no_rates}
use Rattle.blob_lab_model.specs.Runs.{LeadsTo}
use Rattle.blob_lab_model.specs.States.{State, start}
use Rattle.blob_lab_store.specs.declared.lab.Lab.{Lab}
use Rattle.blob_lab_store.specs.LabStands.{LabStandsFor, Performs}
use Rattle.blob_lab.specs.declared.ending.Ending.{Ending}
use Rattle.blob_lab.specs.declared.ending.Ending.TheVariants.{BadCall, InputFailed, OutputFailed, NoMemory}
use Rattle.blob_lab.specs.declared.streams.Input.{Input}
use Rattle.blob_lab.specs.declared.streams.Output.{Output}
use Rattle.blob_lab.specs.Scripts.{IsPrinted, Prints, Run, Script, lines_of, no_script, with_line, with_lines}
use Rattle.blob_lab.specs.Streams.{AppendsPart, OfBytes, reader_of}

-- if a reader's bytes before are known, they are known afterwards, and P holds of the lines of both
abbrev pub OfLines : Option (List ℕ) → Option (List ℕ) → (List (List ℕ) → List (List ℕ) → Type 0) → Type 0
OfLines old new P = IfSome old (λ bytes. IsSomeAnd new (λ left. P (lines_of bytes) (lines_of left)))

-- the same for a reader before and after
abbrev pub OfRead : {R : Type 0} → (R → Option (List ℕ)) → Input R → Input R → (List (List ℕ) → List (List ℕ) → Type 0) → Type 0
OfRead remaining i i' P = OfLines (remaining (reader_of i)) (remaining (reader_of i')) P

-- the lines with `part` before the first one, if there is one
abbrev pub with_part_first : List ℕ → List (List ℕ) → List (List ℕ)
with_part_first part [] = []
with_part_first part (line ∷ lines) = (part ++ line) ∷ lines

-- one line was taken, or a part of one, or none
abbrev pub TakesOne : List (List ℕ) → List (List ℕ) → Type 0
TakesOne lines left = ((line : List ℕ) × (lines ≡ line ∷ left)) ⊎ ((part : List ℕ) × (lines ≡ with_part_first part left))

-- this line was taken
abbrev pub TakesLine : List ℕ → List (List ℕ) → List (List ℕ) → Type 0
TakesLine line lines rest = lines ≡ line ∷ rest

-- a line adds this call, and results in this configuration
abbrev pub AddsCall : Script → List ℕ → Act → Config → Type 0
AddsCall s line act config = with_line s line ≡ Some (with_call (record s { config = config }) act)

-- lines were taken that extend script s to t, then one that adds this call; `first` is the number of the first line,
-- `number` of the last
pub record TakesCall (s t : Script) (first number : ℕ) (act : Act) (config : Config) (lines rest : List (List ℕ)) : Type 0 where
  pub front : List (List ℕ)
  pub line : List ℕ
  pub parts : lines ≡ front ++ line ∷ rest
  pub makes : with_lines s front ≡ Some t
  pub adds : AddsCall t line act config
  pub numbered : number ≡ u64_saturate (first + length front)

-- the same, but the last line isn't allowed there
pub record TakesBadCall (s t : Script) (first number : ℕ) (lines rest : List (List ℕ)) : Type 0 where
  pub front : List (List ℕ)
  pub bad : List ℕ
  pub parts : lines ≡ front ++ bad ∷ rest
  pub makes : with_lines s front ≡ Some t
  pub refused : with_line t bad ≡ None
  pub numbered : number ≡ u64_saturate (first + length front)

-- lines were taken that extend s to t, then at most one more or a part of it
pub record TakesPart (s t : Script) (lines left : List (List ℕ)) : Type 0 where
  pub front : List (List ℕ)
  pub rest : List (List ℕ)
  pub parts : lines ≡ front ++ rest
  pub makes : with_lines s front ≡ Some t
  pub in_hand : TakesOne rest left

-- a laboratory was created from a script without calls, then a line that adds this call was taken
pub record Begins (lab : Lab) (s : Script) (line : List ℕ) (act : Act) (config : Config) : Type 0 where
  pub none : s.calls ≡ []
  pub adds : AddsCall s line act config
  pub stands : LabStandsFor lab (start s.images s.words no_rates)

-- What reading up to a call takes, given the streams' reader before and after, and what was read of the script, whatever
-- script that is.

-- the lines up to the next call
abbrev pub ReadsToCall : {R : Type 0} → (R → Option (List ℕ)) → Input R → Input R → Reader → Reader → Call → Type 0
ReadsToCall remaining i i' before after call = (s : Script) → HasRead before s → OfRead remaining i i'
    (TakesCall s (with_preamble (has_begun before) (preamble_of after) s) (lines_read before + 1) (lines_read after) (act_of call) (config_of after))

-- only lines without a call
abbrev pub ReadsToEnd : {R : Type 0} → (R → Option (List ℕ)) → Input R → Input R → Reader → Reader → Type 0
ReadsToEnd remaining i i' before after = (s : Script) → HasRead before s → OfRead remaining i i'
    (λ lines _. with_lines s lines ≡ Some (with_preamble (has_begun before) (preamble_of after) s))

-- such lines, then a line of this number that isn't allowed there
abbrev pub ReadsBadCall : {R : Type 0} → (R → Option (List ℕ)) → Input R → Input R → Reader → Reader → ℕ → Type 0
ReadsBadCall remaining i i' before after number = (s : Script) → HasRead before s → OfRead remaining i i'
    (TakesBadCall s (with_preamble (has_begun before) (preamble_of after) s) (lines_read before + 1) number)

-- such lines, and at most one more or a part of it
abbrev pub ReadsPart : {R : Type 0} → (R → Option (List ℕ)) → Input R → Input R → Reader → Reader → Type 0
ReadsPart remaining i i' before after = (s : Script) → HasRead before s → OfRead remaining i i'
    (TakesPart s (with_preamble (has_begun before) (preamble_of after) s))

-- The output for lines after those of script s.

-- a reply as a line with its line feed
abbrev pub printed_reply : Reply → List ℕ
printed_reply reply = reply_line reply ++ 10 ∷ []

-- a call was made, and this is its reply as a line with its line feed
abbrev pub AnswersCall : Lab → Call → Lab → List ℕ → Type 0
AnswersCall lab call lab' text = (reply : Reply) × Performs lab (act_of call) reply lab' × (text ≡ printed_reply reply)

-- the script's calls may have these printed replies, and may lead to this state
pub record HasReplies (s : Script) (printed : List ℕ) (w : State) : Type 0 where
  pub calls : List Call
  pub replies : List Reply
  pub are : map act_of calls ≡ s.calls
  pub run : LeadsTo (start s.images s.words no_rates) calls replies w
  pub lines : printed ≡ flat_map printed_reply replies

-- the output of the lines before the line with this number was added, and with that line they aren't a script; numbers
-- start at `first`
pub record PrintsBefore (s : Script) (first number : ℕ) (lines : List (List ℕ)) (old new : Option (List ℕ)) : Type 0 where
  pub front : List (List ℕ)
  pub bad : List ℕ
  pub rest : List (List ℕ)
  pub parts : lines ≡ front ++ bad ∷ rest
  pub numbered : number ≡ u64_saturate (first + length front)
  pub refused : with_lines s (front ++ bad ∷ []) ≡ None
  pub prints : Prints (with_lines s front) old new

-- the output of the lines that were taken, except at most one in hand, was added
pub record PrintsFront (s : Script) (Adds : Option (List ℕ) → Option (List ℕ) → List ℕ → Type 0) (lines left : List (List ℕ)) (old new : Option (List ℕ)) : Type 0 where
  pub front : List (List ℕ)
  pub rest : List (List ℕ)
  pub parts : lines ≡ front ++ rest
  pub in_hand : TakesOne rest left
  pub printed : List ℕ
  pub prints : IsPrinted (with_lines s front) printed
  pub added : Adds old new printed

-- which of these holds, by how the run failed
abbrev pub PrintsUpTo : Ending → Script → ℕ → List (List ℕ) → List (List ℕ) → Option (List ℕ) → Option (List ℕ) → Type 0
PrintsUpTo (BadCall number) s first lines left old new = (before : PrintsBefore s first number lines old new) × (before.rest ≡ left)
PrintsUpTo InputFailed s first lines left old new = PrintsFront s Appends lines left old new
PrintsUpTo NoMemory s first lines left old new = PrintsFront s Appends lines left old new
PrintsUpTo OutputFailed s first lines left old new = PrintsFront s AppendsPart lines left old new
PrintsUpTo ending s first lines left old new = Unit {0}

-- the same for a whole script, by the reader's bytes before and after
abbrev pub PrintsScriptUpTo : Ending → List ℕ → List ℕ → Option (List ℕ) → Option (List ℕ) → Type 0
PrintsScriptUpTo ending bytes left old new = PrintsUpTo ending no_script 1 (lines_of bytes) (lines_of left) old new

-- the same for the streams of a run
abbrev pub PrintsInputUpTo : {R W : Type 0} → (R → Option (List ℕ)) → (W → Option (List ℕ)) → Input R → Input R → Output W → Output W → Ending → Type 0
PrintsInputUpTo remaining contents i i' o o' ending = Run remaining contents i i' o o' (PrintsScriptUpTo ending)

-- The output of the calls from the first one on, after the lines that created the laboratory.

-- all of it
abbrev pub PrintsFrom : {R W : Type 0} → (R → Option (List ℕ)) → (W → Option (List ℕ)) → Lab → Call → Reader → Input R → Output W → Output W → Type 0
PrintsFrom remaining contents lab first reader i o o' = (s : Script) (line : List ℕ) → Begins lab s line (act_of first) (config_of reader)
    → OfBytes remaining contents i o o' (λ bytes. Prints (with_lines s (line ∷ lines_of bytes)))

-- up to this failure
abbrev pub PrintsFromUpTo : {R W : Type 0} → (R → Option (List ℕ)) → (W → Option (List ℕ)) → Lab → Call → Reader → Input R → Input R → Output W → Output W → Ending → Type 0
PrintsFromUpTo remaining contents lab first reader i i' o o' ending = (s : Script) (line : List ℕ) → Begins lab s line (act_of first) (config_of reader)
    → Run remaining contents i i' o o' (λ all left. PrintsUpTo ending s (lines_read reader) (line ∷ lines_of all) (lines_of left))

-- if the calls end with a failure, up to it
abbrev pub IfCut : {R W T : Type 0} → (R → Option (List ℕ)) → (W → Option (List ℕ)) → Lab → Call → Reader → Input R → Input R → Output W → Output W → Result T Ending → Type 0
IfCut remaining contents lab first reader i i' o o' result = IfErr result (PrintsFromUpTo remaining contents lab first reader i i' o o')
