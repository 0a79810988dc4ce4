-- The script that a text is.
use Rattle.std.specs.Prelude.{◌≡◌, ℕ, List, [], Some}
use Rattle.blob_draws.specs.declared.config.Config.{Config}
use Rattle.blob_script.specs.declared.call.Call.{Call}
use Rattle.blob_script.specs.Preambles.{Words, images_of, only, words_of}
use Rattle.blob_script.specs.Readers.{HasRead, config_of, preamble_of}
use Rattle.blob_lab.specs.Scripts as lab
use Rattle.blob_lab.specs.Scripts.{lines_of, script_of, with_line}
use Rattle.blob_choices.specs.Outcomes.{acts_of}
use Rattle.blob_explore.specs.Explorations.{Images}
use Rattle.blob_explore.specs.declared.script.Reading.{Reading}
use Rattle.blob_explore.specs.declared.script.Script.{Script}

-- a script with these images, words, settings and calls
abbrev pub script_with : Images → Words → Config → List Call → lab.Script
script_with images words config calls = record { images = images_of images; words = words; config = config; calls = acts_of calls }

-- the lines so far
abbrev pub script_so_far : Reading → lab.Script
script_so_far reading =
    let p = preamble_of reading.reader in script_with p.images.items (words_of p) (config_of reading.reader) reading.calls.items

-- they were read, and none of them gives words or a seed
pub record IsPlain (reading : Reading) : Type 0 where
  pub read : HasRead reading.reader (script_so_far reading)
  pub plain : words_of (preamble_of reading.reader) ≡ only []

abbrev pub AddsLine : Reading → List ℕ → Reading → Type 0
AddsLine old line new = with_line (script_so_far old) line ≡ Some (script_so_far new)

-- The lines of the text are this script. None of them gives words or a seed.
abbrev pub IsScriptOf : List ℕ → Script → Type 0
IsScriptOf text script =
    (config : Config) × (script_of (lines_of text) ≡ Some (script_with script.images.items (only []) config script.calls.items))
