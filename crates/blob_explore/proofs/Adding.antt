-- One more line of a script.
use Rattle.std.proofs.Common.{◌≡◌, ℕ, List, [], ◌∷◌, ◌++◌, Bool, true, false, if◌then◌else◌, Option, Some, None, Result, Ok, Err, OnOk, refl, sym, ap, ◌∙◌, subst}
use Rattle.blob_draws.specs.declared.config.Config.{Config}
use Rattle.blob_script.specs.declared.call.Call.{Call}
use Rattle.blob_script.specs.declared.script.preamble.Preamble.{Preamble}
use Rattle.blob_script.specs.declared.script.reader.Reader.{Reader}
use Rattle.blob_script.specs.Acts.{Act, act_of}
use Rattle.blob_script.specs.Lines as says
use Rattle.blob_script.specs.Lines.{Said, line_of}
use Rattle.blob_script.specs.Preambles.{Words, only, words_of}
use Rattle.blob_script.specs.Readers.{HasRead, MakesCall, MakesNoCall, config_of, has_begun, lines_read, preamble_of, with_meaning, with_preamble}
use Rattle.blob_script.specs.Scripts.{with_call}
use Rattle.blob_tokens.specs.Tokens.{is_empty}
use Rattle.blob_script.proofs.Readers.{read_call, read_on}
use Rattle.blob_lab.specs.Scripts as lab
use Rattle.blob_lab.specs.Scripts.{lines_of, script_of, with_line}
use Rattle.blob_choices.specs.Outcomes.{SetNoPartialResize, SetsNoPartialResize, acts_of}
use Rattle.blob_explore.specs.declared.script.Reading.{Reading}
use Rattle.blob_explore.specs.declared.script.RefusedScript.{RefusedScript}
use Rattle.blob_explore.specs.declared.script.RefusedScript.TheVariants.{BadCall, PartialResize, NoMemory}
use Rattle.blob_explore.specs.RefusedLines.{IsOutOfPlace, RefusesCall, RefusesLine, RefusesWords, SetsPartialResize}
use Rattle.blob_explore.specs.Explorations.{AddsNoPartialResize}
use Rattle.blob_explore.specs.ScriptTexts.{AddsLine, IsPlain, script_so_far, script_with}
use Rattle.blob_explore.proofs.Reading.{acts_more}

pub one_more_call : (calls : List Call) (call : Call) → SetsNoPartialResize (act_of call) → SetNoPartialResize (acts_of calls) → SetNoPartialResize (acts_of (calls ++ call ∷ []))
one_more_call [] call one all = (one, tt)
one_more_call (x ∷ calls) call one all = (all.0, one_more_call calls call one all.1)

pub last_act : (acts : List Act) (act : Act) → SetNoPartialResize (acts ++ act ∷ []) → SetsNoPartialResize act
last_act [] act all = all.0
last_act (x ∷ acts) act all = last_act acts act all.1

-- The script so far, after one more line.

same_start : (begun : Bool) (p p' : Preamble) (c c' : Config) (calls : List Call) → (begun ≡ true → p' ≡ p) → c' ≡ c
    → script_with p'.images.items (words_of p') c' calls ≡ with_preamble begun p' (script_with p.images.items (words_of p) c calls)
same_start true p p' c c' calls same config =
    ap (λ (q : Preamble). script_with q.images.items (words_of q) c' calls) (same refl) ∙ ap (λ (d : Config). script_with p.images.items (words_of p) d calls) config
same_start false p p' c c' calls same config = ap (λ (d : Config). script_with p'.images.items (words_of p') d calls) config

module _ (old new : Reading) (line : List ℕ) (plain : IsPlain old) where
  pub no_call : MakesNoCall old.reader (line_of line) new.reader → new.calls ≡ old.calls → words_of (preamble_of new.reader) ≡ only [] → IsPlain new × AddsLine old line new
  no_call makes calls none =
      let s = script_so_far old in
      let t = with_preamble (has_begun old.reader) (preamble_of new.reader) s in
      let is : script_so_far new ≡ t =
      ap (λ cs. script_with (preamble_of new.reader).images.items (words_of (preamble_of new.reader)) (config_of new.reader) cs.items) calls
      ∙ same_start (has_begun old.reader) (preamble_of old.reader) (preamble_of new.reader) (config_of old.reader) (config_of new.reader) old.calls.items makes.preamble makes.config in
      (record { read = subst (HasRead new.reader) (sym is) (read_on old.reader new.reader (line_of line) s plain.read makes); plain = none }, makes.adds s plain.read ∙ ap Some (sym is))

  pub a_call : (call : Call) → MakesCall old.reader (line_of line) (act_of call) new.reader → new.calls.items ≡ old.calls.items ++ call ∷ [] → IsPlain new × AddsLine old line new
  a_call call makes calls =
      let s = script_so_far old in
      let t = with_call (record s { config = config_of new.reader }) (act_of call) in
      let is : script_so_far new ≡ t =
      ap (λ (p : Preamble). script_with p.images.items (words_of p) (config_of new.reader) new.calls.items) makes.preamble
      ∙ ap (λ (acts : List Act). record s { config = config_of new.reader; calls = acts }) (ap acts_of calls ∙ acts_more old.calls.items call) in (
        record {
          read = subst (HasRead new.reader) (sym is) (read_call old.reader new.reader (line_of line) (act_of call) s makes);
          plain = ap words_of makes.preamble ∙ plain.plain;
        },
        makes.adds s plain.read ∙ ap Some (sym is),
      )

-- Why a line is refused.

pub out_of_place : (s : lab.Script) (said : Option Said) → with_meaning s said ≡ None → IsOutOfPlace s said
out_of_place s None e = tt
out_of_place s (Some (says.Given words)) e = tt
out_of_place s (Some (says.Seed seed)) e = tt
out_of_place s (Some says.Blank) e = e
out_of_place s (Some (says.Image p n bytes)) e = e
out_of_place s (Some (says.Configure setting)) e = e
out_of_place s (Some (says.Call act)) e = e

same_words : (may : Bool) (s t u : lab.Script) → u.words ≡ s.words → (if may then Some u else None) ≡ Some t → t.words ≡ s.words
same_words false s t u same e = cc
same_words true s t u same e = let is : u ≡ t = cc in ap (λ (x : lab.Script). x.words) (sym is) ∙ same

gives_words : (s t : lab.Script) (said : Option Said) → with_meaning s said ≡ Some t → (t.words ≡ s.words → ⊥) → IsOutOfPlace s said
gives_words s t None e not = tt
gives_words s t (Some (says.Given words)) e not = tt
gives_words s t (Some (says.Seed seed)) e not = tt
gives_words s t (Some says.Blank) e not = absurd (not (same_words true s t s refl e))
gives_words s t (Some (says.Image p n bytes)) e not = absurd (not (same_words (is_empty s.calls) s t (record s { images = s.images ++ (p, n, bytes) ∷ [] }) refl e))
gives_words s t (Some (says.Configure setting)) e not = absurd (not (same_words true s t _ refl e))
gives_words s t (Some (says.Call act)) e not = absurd (not (same_words true s t _ refl e))

other_words : (begun : Bool) (p p' : Preamble) (s : lab.Script) → (begun ≡ true → p' ≡ p) → words_of p ≡ only [] → (words_of p' ≡ only [] → ⊥) → s.words ≡ words_of p → (with_preamble begun p' s).words ≡ s.words → ⊥
other_words true p p' s same plain not is e = not (ap words_of (same refl) ∙ plain)
other_words false p p' s same plain not is e = not (e ∙ is ∙ plain)

-- words or a seed were given
pub words_given : (old : Reading) (r' : Reader) (line : List ℕ) → IsPlain old → MakesNoCall old.reader (line_of line) r' → (words_of (preamble_of r') ≡ only [] → ⊥) → IsOutOfPlace (script_so_far old) (line_of line)
words_given old r' line plain makes not =
    let s = script_so_far old in
    gives_words s (with_preamble (has_begun old.reader) (preamble_of r') s) (line_of line) (makes.adds s plain.read)
    (other_words (has_begun old.reader) (preamble_of old.reader) (preamble_of r') s makes.preamble plain.plain not refl)

-- a call that sets a rate of partial resizes
pub sets_size : (old : Reading) (r' : Reader) (line : List ℕ) (act : Act) → IsPlain old → MakesCall old.reader (line_of line) act r' → (SetsNoPartialResize act → ⊥) → SetsPartialResize (with_line (script_so_far old) line)
sets_size old r' line act plain makes sets =
    subst SetsPartialResize (sym (makes.adds (script_so_far old) plain.read)) (λ all. sets (last_act (acts_of old.calls.items) act all))

pub refuses_call : (old : Reading) (r' : Reader) (line : List ℕ) (act : Act) (number : ℕ) (refused : RefusedScript) → IsPlain old → MakesCall old.reader (line_of line) act r' → RefusesCall number act refused → RefusesLine old line number refused
refuses_call old r' line act number (BadCall n) plain makes e = absurd e
refuses_call old r' line act number (PartialResize n) plain makes e = (e.0, sets_size old r' line act plain makes e.1)
refuses_call old r' line act number NoMemory plain makes e = tt

pub refuses_words : (old : Reading) (r' : Reader) (line : List ℕ) (refused : RefusedScript) → IsPlain old → MakesNoCall old.reader (line_of line) r' → RefusesWords r' refused → RefusesLine old line (lines_read r') refused
refuses_words old r' line (BadCall n) plain makes (is, some) = (cc is, words_given old r' line plain makes some)
refuses_words old r' line (PartialResize n) plain makes (is, some) = cc is
refuses_words old r' line NoMemory plain makes (is, some) = tt

-- a call that sets no rate of partial resizes was added
pub sizes_of : (result : Result Unit RefusedScript) (old new : List Call) (call : Call) → OnOk result (SetsNoPartialResize (act_of call)) → OnOk result (new ≡ old ++ call ∷ []) → OnOk result (AddsNoPartialResize old new)
sizes_of (Ok x) old new call one is = λ all. subst (λ (calls : List Call). SetNoPartialResize (acts_of calls)) (sym is) (one_more_call old call one all)
sizes_of (Err e) old new call one is = tt

-- the whole text was read
pub finished : (r : Reading) (p : Preamble) (text : List ℕ) → IsPlain r → script_of (lines_of text) ≡ Some (script_so_far r) → p ≡ preamble_of r.reader
    → (config : Config) × (script_of (lines_of text) ≡ Some (script_with p.images.items (only []) config r.calls.items))
finished r p text plain is same = (
  config_of r.reader,
  is
      ∙ ap (λ (words : Words). Some (script_with (preamble_of r.reader).images.items words (config_of r.reader) r.calls.items)) plain.plain
      ∙ ap (λ (q : Preamble). Some (script_with q.images.items (only []) (config_of r.reader) r.calls.items)) (sym same),
)
