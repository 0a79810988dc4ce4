-- What a session is opened with: a script that makes no call but settings.
use Rattle.std.specs.Prelude.{◌≡◌, ◌⊎◌, ◌+◌, ℕ, suc, List, ◌∷◌, ◌++◌, All, length, Some, None}
use Rattle.blob_script.specs.declared.script.reader.Reader.{Reader}
use Rattle.blob_script.specs.Acts as acts
use Rattle.blob_script.specs.Acts.{Act}
use Rattle.blob_script.specs.Lines.{Call, line_of}
use Rattle.blob_script.specs.Preambles.{images_of, words_of}
use Rattle.blob_script.specs.Readers.{HasRead, MakesCall, MakesNoCall, lines_read, preamble_of}
use Rattle.blob_lab_store.specs.LabStands.{LabStandsFor}
use Rattle.blob_lab.specs.Scripts.{Script, lines_of, script_of, with_line}
use Rattle.blob_lab_model.specs.States.{start}
use Rattle.blob_sessions.specs.Debts.{IsNew}
use Rattle.blob_sessions.specs.Sessions.{settings_of}
use Rattle.blob_sessions.specs.declared.kept.Kept.{Kept}

abbrev pub IsSetting : Act → Type 0
IsSetting (acts.Configure config) = Unit {0}
IsSetting act = ⊥

-- these lines are such a script
pub record AreSettings (lines : List (List ℕ)) (s : Script) : Type 0 where
  pub script : script_of lines ≡ Some s
  pub settings : All IsSetting s.calls

-- a line that can't follow them
abbrev pub IsNoSetting : Script → List ℕ → Type 0
IsNoSetting s line = (with_line s line ≡ None) ⊎ ((act : Act) × (line_of line ≡ Some (Call act)))

-- the line of this number, counted from 1, can't follow those before it
pub record BreaksAt (lines : List (List ℕ)) (number : ℕ) : Type 0 where
  pub front : List (List ℕ)
  pub bad : List ℕ
  pub rest : List (List ℕ)
  pub parts : lines ≡ front ++ bad ∷ rest
  pub numbered : number ≡ suc (length front)
  pub script : Script
  pub are : AreSettings front script
  pub breaks : IsNoSetting script bad

-- a laboratory that was just made of them
pub record IsMadeOf (k : Kept) (lines : List (List ℕ)) : Type 0 where
  pub script : Script
  pub are : AreSettings lines script
  pub stands : LabStandsFor k.lab (start script.images script.words script.config)
  pub settings : settings_of k ≡ script.config
  pub last : k.last ≡ None
  pub debts : IsNew k.debts

-- a reader has read these lines, which are such a script
pub record ReadsSettings (lines : List (List ℕ)) (r : Reader) : Type 0 where
  pub script : Script
  pub are : AreSettings lines script
  pub read : HasRead r script
  pub images : images_of (preamble_of r).images.items ≡ script.images
  pub words : words_of (preamble_of r) ≡ script.words

-- the lines so far were read, this many
pub record IsReadTo (text rest : List ℕ) (r : Reader) : Type 0 where
  pub front : List (List ℕ)
  pub parts : lines_of text ≡ front ++ lines_of rest
  pub numbered : lines_read r ≡ length front
  pub reads : ReadsSettings front r

-- one more line of such a script
abbrev pub AddsSetting : Reader → List ℕ → Reader → Type 0
AddsSetting r line r' = MakesNoCall r (line_of line) r' ⊎ ((act : Act) × IsSetting act × MakesCall r (line_of line) act r')

-- the next line, of this number, can't follow
abbrev pub RefusesSetting : Reader → List ℕ → ℕ → Type 0
RefusesSetting r line number = (number ≡ lines_read r + 1) × ((s : Script) → HasRead r s → IsNoSetting s line)
