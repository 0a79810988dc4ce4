-- The lines of a script, one after another.
use Rattle.std.proofs.Common.{◌≡◌, ◌+◌, ℕ, Bool, true, false, List, [], ◌∷◌, ◌++◌, length, Option, Some, None, refl, sym, ap, ◌∙◌, arith, append_assoc, append-nil}
use Rattle.std.proofs.lemmas.List.{length_push}
use Rattle.std.specs.Prelude.{option_and_then}
use Rattle.blob_draws.specs.declared.config.Config.{Config}
use Rattle.blob_script.specs.declared.call.Call.{Call}
use Rattle.blob_script.specs.declared.script.preamble.Preamble.{Preamble}
use Rattle.blob_script.specs.Acts.{Act, act_of}
use Rattle.blob_script.specs.Lines.{line_of}
use Rattle.blob_script.specs.Readers.{MakesCall, MakesNoCall, config_of, has_begun, lines_read, preamble_of, with_preamble}
use Rattle.blob_script.specs.Scripts.{Script, lines_of, no_script, script_of, with_call, with_line, with_lines}
use Rattle.blob_script.proofs.Readers.{read_call, read_on}
use Rattle.blob_choices.specs.Outcomes.{acts_of}
use Rattle.blob_states.specs.ScriptTexts.{AddsLine, IsRead, IsRefused, RefusesLine, script_so_far, script_with}
use Rattle.blob_states.specs.declared.script.Reading.{Reading}
use Rattle.blob_states.specs.declared.script.RefusedScript.{RefusedScript}
use Rattle.blob_states.specs.declared.script.RefusedScript.TheVariants.{BadCall, FewCalls, NoMemory}

acts_more : (calls : List Call) (call : Call) → acts_of (calls ++ call ∷ []) ≡ acts_of calls ++ act_of call ∷ []
acts_more [] call = refl
acts_more (x ∷ calls) call = ap (λ (acts : List Act). act_of x ∷ acts) (acts_more calls call)

-- The script so far, after one more line.

same_start : (begun : Bool) (p p' : Preamble) (c c' : Config) (calls : List Call) → (begun ≡ true → p' ≡ p) → c' ≡ c → script_with p' c' calls ≡ with_preamble begun p' (script_with p c calls)
same_start true p p' c c' calls same config = ap (λ (q : Preamble). script_with q c' calls) (same refl) ∙ ap (λ (d : Config). script_with p d calls) config
same_start false p p' c c' calls same config = ap (λ (d : Config). script_with p' d calls) config

module _ (old new : Reading) (line : List ℕ) (read : IsRead old) where
  pub no_call : MakesNoCall old.reader (line_of line) new.reader → new.calls ≡ old.calls → IsRead new × AddsLine old line new
  no_call makes calls =
      let s = script_so_far old in
      let t = with_preamble (has_begun old.reader) (preamble_of new.reader) s in
      let is : script_so_far new ≡ t =
      ap (λ cs. script_with (preamble_of new.reader) (config_of new.reader) cs.items) calls
      ∙ same_start (has_begun old.reader) (preamble_of old.reader) (preamble_of new.reader) (config_of old.reader) (config_of new.reader) old.calls.items makes.preamble makes.config in
      (rw is (read_on old.reader new.reader (line_of line) s read makes), makes.adds s read ∙ ap Some (sym is))

  pub a_call : (call : Call) → MakesCall old.reader (line_of line) (act_of call) new.reader → new.calls.items ≡ old.calls.items ++ call ∷ [] → IsRead new × AddsLine old line new
  a_call call makes calls =
      let s = script_so_far old in
      let t = with_call (record s { config = config_of new.reader }) (act_of call) in
      let is : script_so_far new ≡ t =
      ap (λ (p : Preamble). script_with p (config_of new.reader) new.calls.items) makes.preamble
      ∙ ap (λ (acts : List Act). record s { config = config_of new.reader; calls = acts }) (ap acts_of calls ∙ acts_more old.calls.items call) in
      (rw is (read_call old.reader new.reader (line_of line) (act_of call) s makes), makes.adds s read ∙ ap Some (sym is))

-- one more line
lines_more : (s t u : Script) (lines : List (List ℕ)) (line : List ℕ) → with_lines s lines ≡ Some t → with_line t line ≡ Some u → with_lines s (lines ++ line ∷ []) ≡ Some u
lines_more s t u [] line before here =
    let same : s ≡ t = cc in
    ap (option_and_then (λ (x : Script). Some x)) (ap (λ (x : Script). with_line x line) same ∙ here)
lines_more s t u (l ∷ lines) line before here = by (with_line s l) before (λ x e. lines_more x t u lines line e here)
  where
    by : (o : Option Script) → option_and_then (λ x. with_lines x lines) o ≡ Some t → ((x : Script) → with_lines x lines ≡ Some t → with_lines x (lines ++ line ∷ []) ≡ Some u)
        → option_and_then (λ x. with_lines x (lines ++ line ∷ [])) o ≡ Some u
    by None e more = absurd (cc)
    by (Some x) e more = more x e

-- the lines up to `rest` are those that were read
pub record IsReadTo (text rest : List ℕ) (reading : Reading) : Type 0 where
  pub front : List (List ℕ)
  pub parts : lines_of text ≡ front ++ lines_of rest
  pub numbered : lines_read reading.reader ≡ length front
  pub is : script_of front ≡ Some (script_so_far reading)

pub begins : (text : List ℕ) (reading : Reading) → lines_read reading.reader ≡ 0 → script_so_far reading ≡ no_script → IsReadTo text text reading
begins text reading number none = record { front = []; parts = refl; numbered = number; is = ap Some (sym none) }

pub goes_on : (text rest line others : List ℕ) (r r' : Reading) → IsReadTo text rest r → lines_of rest ≡ line ∷ lines_of others → AddsLine r line r' → lines_read r'.reader ≡ lines_read r.reader + 1 → IsReadTo text others r'
goes_on text rest line others r r' h first adds number = record {
  front = h.front ++ line ∷ [];
  parts = h.parts ∙ ap (λ ls. h.front ++ ls) first ∙ sym (append_assoc h.front (line ∷ []) (lines_of others));
  numbered = number ∙ ap (λ n. n + 1) h.numbered ∙ (omega arith) ∙ sym (length_push h.front line);
  is = lines_more no_script (script_so_far r) (script_so_far r') h.front line h.is adds;
}

pub refused_at : (text rest line others : List ℕ) (r : Reading) (number : ℕ) (refused : RefusedScript) → IsReadTo text rest r → lines_of rest ≡ line ∷ lines_of others
    → number ≡ lines_read r.reader + 1 → RefusesLine r line number refused → IsRefused text refused
refused_at text rest line others r number (BadCall n) h first next (same, none) = record {
  front = h.front;
  bad = line;
  rest = lines_of others;
  parts = h.parts ∙ ap (λ ls. h.front ++ ls) first;
  numbered = same ∙ next ∙ ap (λ n. n + 1) h.numbered ∙ omega arith;
  script = script_so_far r;
  is = h.is;
  refused = none;
}
refused_at text rest line others r number (FewCalls calls) h first next refuses = refuses
refused_at text rest line others r number NoMemory h first next refuses = tt

pub read_all : (text rest : List ℕ) (r : Reading) → IsReadTo text rest r → rest ≡ [] → script_of (lines_of text) ≡ Some (script_so_far r)
read_all text rest r h none = ap script_of (h.parts ∙ ap (λ (bytes : List ℕ). h.front ++ lines_of bytes) none ∙ append-nil h.front) ∙ h.is

-- the whole text was read
pub finished : (r : Reading) (p : Preamble) (text : List ℕ) → script_of (lines_of text) ≡ Some (script_so_far r) → p ≡ preamble_of r.reader
    → (config : Config) × (script_of (lines_of text) ≡ Some (script_with p config r.calls.items))
finished r p text is same = (config_of r.reader, is ∙ ap (λ (q : Preamble). Some (script_with q (config_of r.reader) r.calls.items)) (sym same))
