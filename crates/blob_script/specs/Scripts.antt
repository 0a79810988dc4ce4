-- A script: the meaning of its lines together.
use Rattle.std.specs.Prelude.{ℕ, List, [], ◌∷◌, ◌++◌, ◌==◌, ◌&&◌, if◌then◌else◌, Option, Some, None, is_none, option_and_then}
use Rattle.std.specs.List.{onto_first}
use Rattle.blob_draws.specs.declared.config.Config.{Config}
use Rattle.blob_script.specs.Acts as acts
use Rattle.blob_script.specs.Acts.{Act}
use Rattle.blob_script.specs.Lines.{Said, Blank, Image, Given, Seed, Configure, Call, line_of}
use Rattle.blob_script.specs.Preambles as preambles
use Rattle.blob_script.specs.Preambles.{Words, only, behind_seeded}
use Rattle.blob_script.specs.Settings.{no_rates, with_setting}
use Rattle.blob_tokens.specs.Tokens.{is_empty}

-- the bytes before each line feed, and those after the last one, if there are any
abbrev pub lines_of : List ℕ → List (List ℕ)
lines_of [] = []
lines_of (byte ∷ bytes) = if byte == 10 then [] ∷ lines_of bytes else onto_first byte (lines_of bytes)

pub record Script : Type 0 where
  pub images : List preambles.Image
  pub words : Words
  pub config : Config  -- the settings so far, applied to no rates
  pub calls : List Act

abbrev pub with_call : Script → Act → Script
with_call s act = record s { calls = s.calls ++ act ∷ [] }

-- adds a line with this meaning: images, words and one seed come before the calls, and a setting is a call with the
-- whole configuration so far
abbrev pub with_said : Script → Said → Option Script
with_said s Blank = Some s
with_said s (Image p n bytes) = if is_empty s.calls then Some (record s { images = s.images ++ (p, n, bytes) ∷ [] }) else None
with_said s (Given words) = if is_empty s.calls then Some (record s { words = record { given = s.words.given ++ words; seed = s.words.seed } }) else None
with_said s (Seed seed) = if is_empty s.calls && is_none s.words.seed then Some (record s { words = behind_seeded s.words.given seed }) else None
with_said s (Configure setting) = Some (record s { config = with_setting s.config setting; calls = s.calls ++ acts.Configure (with_setting s.config setting) ∷ [] })
with_said s (Call act) = Some (record s { calls = s.calls ++ act ∷ [] })

-- None if the line is bad or isn't allowed there
abbrev pub with_line : Script → List ℕ → Option Script
with_line s line = option_and_then (with_said s) (line_of line)

abbrev pub with_lines : Script → List (List ℕ) → Option Script
with_lines s [] = Some s
with_lines s (line ∷ lines) = option_and_then (λ t. with_lines t lines) (with_line s line)

abbrev pub no_script : Script
no_script = record { images = []; words = only []; config = no_rates; calls = [] }

abbrev pub script_of : List (List ℕ) → Option Script
script_of lines = with_lines no_script lines
