-- The output of a script.
use Rattle.std.specs.Prelude.{◌≡◌, ℕ, ◌+◌, List, [], ◌∷◌, ◌++◌, length, map, Option, Some, None, IsSomeAnd}
use Rattle.std.specs.List.{flat_map}
use Rattle.std.specs.Io.{StopsAt}
use Rattle.std.specs.Io.Iter.{u64_saturate}
use Rattle.std.specs.Io.KnownBytes.{Appends}
use Rattle.blob_script.specs.declared.call.Call.{Call}
use Rattle.blob_script.specs.declared.reply.Reply.{Reply}
use Rattle.blob_script.specs.Acts.{act_of}
use Rattle.blob_script.specs.Replies.{reply_line}
use Rattle.blob_script.specs.Settings.{no_rates}
pub use Rattle.blob_script.specs.Scripts.{Script, lines_of, no_script, script_of, with_line, with_lines, with_said}
use Rattle.blob_lab_model.specs.Runs.{LeadsTo}
use Rattle.blob_lab_model.specs.States.{State, start}
use Rattle.blob_lab.specs.declared.streams.Input.{Input}
use Rattle.blob_lab.specs.declared.streams.Output.{Output}
use Rattle.blob_lab.specs.Streams.{AppendsPart, reader_of, writer_of, OfKnown}

-- Its output to a writer with contents `old` before and `new` after.

-- it is a script, and these are lines of replies that its calls may have
abbrev pub IsPrinted : Option Script → List ℕ → Type 0
IsPrinted None printed = ⊥
IsPrinted (Some s) printed = (calls : List Call) × (replies : List Reply) × (w : State) × (map act_of calls ≡ s.calls)
    × LeadsTo (start s.images s.words no_rates) calls replies w × (printed ≡ flat_map (λ reply. reply_line reply ++ 10 ∷ []) replies)

abbrev pub Prints : Option Script → Option (List ℕ) → Option (List ℕ) → Type 0
Prints script old new = (printed : List ℕ) × IsPrinted script printed × Appends old new printed

-- these bytes are a script, and its output was added
abbrev pub PrintsAll : List ℕ → Option (List ℕ) → Option (List ℕ) → Type 0
PrintsAll bytes old new = Prints (script_of (lines_of bytes)) old new

-- the lines before the line with this number, counted from 1, have this output; with that line they aren't a script
pub record PrintsBeforeLine (number : ℕ) (bytes : List ℕ) (old new : Option (List ℕ)) : Type 0 where
  pub front : List (List ℕ)
  pub bad : List ℕ
  pub rest : List (List ℕ)
  pub parts : lines_of bytes ≡ front ++ bad ∷ rest
  pub numbered : number ≡ u64_saturate (1 + length front)
  pub refused : script_of (front ++ bad ∷ []) ≡ None
  pub prints : Prints (script_of front) old new

-- of these bytes, `left` remain; the output is that of the lines that were taken, except at most one line in hand or a
-- part of one
pub record PrintsTaken (Adds : Option (List ℕ) → Option (List ℕ) → List ℕ → Type 0) (bytes left : List ℕ) (old new : Option (List ℕ)) : Type 0 where
  pub front : List (List ℕ)
  pub hand : List ℕ
  pub parts : lines_of bytes ≡ front ++ lines_of (hand ++ left)
  pub one : StopsAt hand 10
  pub printed : List ℕ
  pub prints : IsPrinted (script_of front) printed
  pub added : Adds old new printed

-- the replies to the lines that were taken were written
abbrev pub Replies : List ℕ → List ℕ → Option (List ℕ) → Option (List ℕ) → Type 0
Replies bytes left old new = PrintsTaken Appends bytes left old new

-- a prefix of these replies was written
abbrev pub PartReplies : List ℕ → List ℕ → Option (List ℕ) → Option (List ℕ) → Type 0
PartReplies bytes left old new = PrintsTaken AppendsPart bytes left old new

-- if a reader's bytes before are known, they are known afterwards, and P holds of both and of a writer's contents
-- before and after
abbrev pub KnownRun : {R W : Type 0} → (R → Option (List ℕ)) → (W → Option (List ℕ)) → R → R → W → W → (List ℕ → List ℕ → Option (List ℕ) → Option (List ℕ) → Type 0) → Type 0
KnownRun remaining contents r r' w w' P = OfKnown remaining contents r w w' (λ bytes old new. IsSomeAnd (remaining r') (λ left. P bytes left old new))

-- the same for the reader and the writer of a run
abbrev pub Run : {R W : Type 0} → (R → Option (List ℕ)) → (W → Option (List ℕ)) → Input R → Input R → Output W → Output W
    → (List ℕ → List ℕ → Option (List ℕ) → Option (List ℕ) → Type 0) → Type 0
Run remaining contents i i' o o' P = KnownRun remaining contents (reader_of i) (reader_of i') (writer_of o) (writer_of o') P
