-- The meaning of a script's lines.
use Rattle.std.specs.Prelude.{ℕ, List, [], ◌∷◌, ◌==◌, Option, Some, None, if◌then◌else◌, slice_index, string_bytes, codes}
use Rattle.std.specs.Str.{is_utf8, byte}
use Rattle.blob_script.specs.declared.script.line.Line.{Line}
use Rattle.blob_script.specs.declared.script.line.Line.TheVariants as line
use Rattle.blob_script.specs.declared.script.setting.Setting.{Setting}
use Rattle.blob_script.specs.Acts.{Act, act_of}
use Rattle.blob_script.specs.CallLines.{call}
use Rattle.blob_tokens.specs.Forms.{Form, ◌>>=◌, gives, whole, form_in_table, text, hex, digits, words}
use Rattle.blob_script.specs.SettingLines.{setting}
use Rattle.blob_tokens.specs.Tokens.{tokens}

pub data Said : Type 0 where
  Blank : Said  -- an empty line or a comment
  Image : List ℕ → List ℕ → List ℕ → Said  -- partition, name and bytes of a raw image
  Given : List ℕ → Said  -- further words of the generator
  Seed : ℕ → Said  -- the seed of the words after them
  Configure : Setting → Said
  Call : Act → Said

abbrev pub said_by : Line → Said
said_by line.Blank = Blank
said_by (line.Image partition name bytes) = Image (string_bytes partition) name.items bytes.items
said_by (line.Words words) = Given words.items
said_by (line.Seed seed) = Seed seed
said_by (line.Configure setting) = Configure setting
said_by (line.Call asked) = Call (act_of asked)

-- the tokens after the first word of a line: a preamble line, a configuration or a call
abbrev pub statement : List ℕ → Form Said
statement word = form_in_table (
    (codes "image", do partition ← text; name ← hex; bytes ← hex; gives (Image partition name bytes))
    ∷ (codes "words", do read ← words; gives (Given read))
    ∷ (codes "seed", do read ← digits; gives (Seed read))
    ∷ (codes "config", do set ← setting; gives (Configure set)) ∷ [])
    (do act ← call word; gives (Call act)) word

-- a comment is a line with `#` at the start of its first token
abbrev pub said_of : List (List ℕ) → Option Said
said_of [] = Some Blank
said_of (word ∷ tokens) = if slice_index word 0 == byte "#" then Some Blank else whole (statement word) tokens

-- the meaning of a line without its line feed, or None for a bad line
abbrev pub line_of : List ℕ → Option Said
line_of line = if is_utf8 line then said_of (tokens line) else None
