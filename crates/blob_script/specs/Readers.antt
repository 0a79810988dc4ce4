-- What a reader of a script has read, and what one more line adds to it.
use Rattle.std.specs.Prelude.{◌≡◌, ◌⊎◌, ℕ, Bool, true, not, if◌then◌else◌, Option, Some, None, option_and_then, Result, IfOk, IfSome, IfNone}
use Rattle.blob_draws.specs.declared.config.Config.{Config}
use Rattle.blob_script.specs.declared.script.preamble.Preamble.{Preamble}
use Rattle.blob_script.specs.declared.script.reader.Reader.{Reader}
use Rattle.blob_script.specs.declared.script.setting.Setting.{Setting}
use Rattle.blob_script.specs.Acts as acts
use Rattle.blob_script.specs.Acts.{Act}
use Rattle.blob_script.specs.Lines.{Said, Call, Configure}
use Rattle.blob_script.specs.Preambles.{images_of, words_of}
use Rattle.blob_script.specs.Scripts.{Script, with_call, with_said}
use Rattle.blob_script.specs.Settings.{with_setting}
use Rattle.blob_tokens.specs.Tokens.{is_empty}

abbrev pub preamble_of : Reader → Preamble
preamble_of r = r.preamble

-- the settings so far, applied to no rates
abbrev pub config_of : Reader → Config
config_of r = r.config

-- how many lines were read
abbrev pub lines_read : Reader → ℕ
lines_read r = r.number

-- whether there was a call, or the preamble was taken
abbrev pub has_begun : Reader → Bool
has_begun r = r.has_begun

-- a script with this preamble, unless its calls have begun
abbrev pub with_preamble : Bool → Preamble → Script → Script
with_preamble begun p s = if begun then s else record s { images = images_of p.images.items; words = words_of p }

-- The reader has read this script. Once the calls have begun, its preamble may have been taken.
pub record HasRead (r : Reader) (s : Script) : Type 0 where
  pub config : config_of r ≡ s.config
  pub calls : is_empty s.calls ≡ not (has_begun r)
  pub preamble : with_preamble (has_begun r) (preamble_of r) s ≡ s

-- What a line with this meaning adds, whatever script was read; None is a bad line.

abbrev pub with_meaning : Script → Option Said → Option Script
with_meaning s said = option_and_then (with_said s) said

-- a call
pub record MakesCall (r : Reader) (said : Option Said) (act : Act) (r' : Reader) : Type 0 where
  pub adds : (s : Script) → HasRead r s → with_meaning s said ≡ Some (with_call (record s { config = config_of r' }) act)
  pub begun : has_begun r' ≡ true
  pub preamble : preamble_of r' ≡ preamble_of r

-- no call
pub record MakesNoCall (r : Reader) (said : Option Said) (r' : Reader) : Type 0 where
  pub adds : (s : Script) → HasRead r s → with_meaning s said ≡ Some (with_preamble (has_begun r) (preamble_of r') s)
  pub begun : has_begun r' ≡ has_begun r
  pub preamble : has_begun r ≡ true → preamble_of r' ≡ preamble_of r
  pub config : config_of r' ≡ config_of r

-- with these settings it says this call, and leaves these
abbrev pub SaysCall : Config → Option Said → Act → Config → Type 0
SaysCall c said act d = ((said ≡ Some (Call act)) × (d ≡ c)) ⊎ ((setting : Setting) × (said ≡ Some (Configure setting)) × (d ≡ with_setting c setting) × (act ≡ acts.Configure d))

-- it can't follow
abbrev pub Refuses : Reader → Option Said → Type 0
Refuses r said = (s : Script) → HasRead r s → with_meaning s said ≡ None

-- the same script was read
pub record IsSame (r r' : Reader) : Type 0 where
  pub images : (preamble_of r').images.items ≡ (preamble_of r).images.items
  pub words : words_of (preamble_of r') ≡ words_of (preamble_of r)
  pub config : config_of r' ≡ config_of r
  pub begun : has_begun r' ≡ has_begun r

-- What holds of the call that was read, and if there was none.

abbrev pub IfCall : {T E : Type 0} → Result (Option T) E → (T → Type 0) → Type 0
IfCall result P = IfOk result (λ found. IfSome found P)

abbrev pub IfNoCall : {T E : Type 0} → Result (Option T) E → Type 0 → Type 0
IfNoCall result P = IfOk result (λ found. IfNone found P)
