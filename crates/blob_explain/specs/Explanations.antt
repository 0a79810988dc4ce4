-- What is written of a script, by how its run ends.
use Rattle.std.specs.Prelude.{◌≡◌, ◌≢◌, ◌⊎◌, ℕ, List, [], true, Option, Some, IfSome}
use Rattle.std.specs.Io.KnownBytes.{Appends}
use Rattle.blob_lab.specs.declared.ending.Ending.{Ending}
use Rattle.blob_lab.specs.declared.ending.Ending.TheVariants.{Done, BadCall, InputFailed, NoMemory, OutputFailed}
use Rattle.blob_lab.specs.declared.streams.Input.{Input}
use Rattle.blob_lab.specs.declared.streams.Output.{Output}
use Rattle.blob_lab.specs.Endings.{is_of_script}
use Rattle.blob_lab.specs.Scripts.{Prints, PrintsBeforeLine, lines_of, script_of}
use Rattle.blob_lab.specs.Streams.{OfBytes, reader_of}
use Rattle.blob_explain.specs.Explained.{Explains, IsExplained}

-- a text explains what a run of a script of these bytes prints that ends so
pub record IsExplanation (bytes : List ℕ) (ending : Ending) (text : List ℕ) : Type 0 where
  pub printed : List ℕ
  pub explained : IsExplained printed text
  pub done : ending ≡ Done → Prints (script_of (lines_of bytes)) (Some []) (Some printed)
  pub bad_call : (number : ℕ) → ending ≡ BadCall number → PrintsBeforeLine number bytes (Some []) (Some printed)

-- it was written
pub record WritesExplanation (bytes : List ℕ) (ending : Ending) (old new : Option (List ℕ)) : Type 0 where
  pub text : List ℕ
  pub explains : IsExplanation bytes ending text
  pub added : Appends old new text

-- what the run of a whole script has written, explained
abbrev pub ExplainsScript : List ℕ → Option (List ℕ) → Option (List ℕ) → Type 0
ExplainsScript bytes old new = Explains (Prints (script_of (lines_of bytes))) old new

-- what a run that prints so before a line of this number has written, explained
abbrev pub ExplainsBefore : ℕ → List ℕ → Option (List ℕ) → Option (List ℕ) → Type 0
ExplainsBefore number bytes old new = Explains (PrintsBeforeLine number bytes) old new

-- the run of a script ended like this, without a failure of its streams
abbrev pub EndsSound : Ending → Type 0
EndsSound ending = (is_of_script ending ≡ true) × (ending ≢ InputFailed) × (ending ≢ OutputFailed)

-- an explanation wasn't written in full
abbrev pub IsCutShort : Ending → Type 0
IsCutShort ending = (ending ≡ InputFailed) ⊎ (ending ≡ NoMemory) ⊎ (ending ≡ OutputFailed)

-- a text explains what a run of the input prints that ends like this
abbrev pub IsInputExplained : {R : Type 0} → (R → Option (List ℕ)) → Input R → Ending → List ℕ → Type 0
IsInputExplained remaining i ending text = IfSome (remaining (reader_of i)) (λ bytes. IsExplanation bytes ending text)

-- it was written
abbrev pub ExplainsInput : {R W : Type 0} → (R → Option (List ℕ)) → (W → Option (List ℕ)) → Input R → Output W → Output W → Ending → Type 0
ExplainsInput remaining contents i o o' ending = OfBytes remaining contents i o o' (λ bytes. WritesExplanation bytes ending)
