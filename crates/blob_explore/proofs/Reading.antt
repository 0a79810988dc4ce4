-- The lines of a script, one after another.
use Rattle.std.proofs.Common.{◌≡◌, ◌+◌, ℕ, suc, List, [], ◌∷◌, ◌++◌, length, Option, Some, None, refl, sym, ap, ◌∙◌, arith, subst, append_assoc, append-nil}
use Rattle.std.proofs.lemmas.List.{length_push}
use Rattle.std.specs.Prelude.{option_and_then}
use Rattle.blob_script.specs.declared.call.Call.{Call}
use Rattle.blob_script.specs.Acts.{Act, act_of}
use Rattle.blob_script.specs.Lines.{line_of}
use Rattle.blob_script.specs.Readers.{lines_read}
use Rattle.blob_choices.specs.Outcomes.{acts_of}
use Rattle.blob_lab.specs.Scripts as lab
use Rattle.blob_lab.specs.Scripts.{lines_of, no_script, script_of, with_line, with_lines}
use Rattle.blob_explore.specs.RefusedLines.{IsRefused, IsRefusedAt, Refuses, RefusesLine}
use Rattle.blob_explore.specs.ScriptTexts.{AddsLine, script_so_far}
use Rattle.blob_explore.specs.declared.script.Reading.{Reading}
use Rattle.blob_explore.specs.declared.script.RefusedScript.{RefusedScript}
use Rattle.blob_explore.specs.declared.script.RefusedScript.TheVariants.{BadCall, PartialResize, NoMemory}

pub acts_more : (calls : List Call) (call : Call) → acts_of (calls ++ call ∷ []) ≡ acts_of calls ++ act_of call ∷ []
acts_more [] call = refl
acts_more (x ∷ calls) call = ap (λ (acts : List Act). act_of x ∷ acts) (acts_more calls call)

-- one more line
pub lines_more : (s t u : lab.Script) (lines : List (List ℕ)) (line : List ℕ) → with_lines s lines ≡ Some t → with_line t line ≡ Some u → with_lines s (lines ++ line ∷ []) ≡ Some u
lines_more s t u [] line before here =
    let same : s ≡ t = cc in
    ap (option_and_then (λ (x : lab.Script). Some x)) (ap (λ (x : lab.Script). with_line x line) same ∙ here)
lines_more s t u (l ∷ lines) line before here = by (with_line s l) before (λ x e. lines_more x t u lines line e here)
  where
    by : (o : Option lab.Script) → option_and_then (λ x. with_lines x lines) o ≡ Some t → ((x : lab.Script) → with_lines x lines ≡ Some t → with_lines x (lines ++ line ∷ []) ≡ Some u)
        → option_and_then (λ x. with_lines x (lines ++ line ∷ [])) o ≡ Some u
    by None e more = absurd (cc)
    by (Some x) e more = more x e

-- the lines up to `rest` are those that were read
pub record IsReadTo (text rest : List ℕ) (reading : Reading) : Type 0 where
  pub front : List (List ℕ)
  pub parts : lines_of text ≡ front ++ lines_of rest
  pub numbered : lines_read reading.reader ≡ length front
  pub is : script_of front ≡ Some (script_so_far reading)

pub begins : (text : List ℕ) (reading : Reading) → lines_read reading.reader ≡ 0 → script_so_far reading ≡ no_script → IsReadTo text text reading
begins text reading number none = record { front = []; parts = refl; numbered = number; is = ap Some (sym none) }

pub goes_on : (text rest line others : List ℕ) (r r' : Reading) → IsReadTo text rest r → lines_of rest ≡ line ∷ lines_of others → AddsLine r line r' → lines_read r'.reader ≡ lines_read r.reader + 1 → IsReadTo text others r'
goes_on text rest line others r r' h first adds number = record {
  front = h.front ++ line ∷ [];
  parts = h.parts ∙ ap (λ ls. h.front ++ ls) first ∙ sym (append_assoc h.front (line ∷ []) (lines_of others));
  numbered = number ∙ ap (λ n. n + 1) h.numbered ∙ (omega arith) ∙ sym (length_push h.front line);
  is = lines_more no_script (script_so_far r) (script_so_far r') h.front line h.is adds;
}

pub refused_at : (text rest line others : List ℕ) (r : Reading) (number : ℕ) (refused : RefusedScript) → IsReadTo text rest r → lines_of rest ≡ line ∷ lines_of others
    → number ≡ lines_read r.reader + 1 → RefusesLine r line number refused → IsRefused text refused
refused_at text rest line others r number refused h first next refuses = by refused at
  where
    is_next : number ≡ suc (length h.front)
    is_next = next ∙ ap (λ n. n + 1) h.numbered ∙ omega arith

    at : IsRefusedAt text refused
    at = record {
      front = h.front;
      bad = line;
      rest = lines_of others;
      parts = h.parts ∙ ap (λ ls. h.front ++ ls) first;
      script = script_so_far r;
      is = h.is;
      refuses = subst (λ n. Refuses (script_so_far r) n (line_of line) (with_line (script_so_far r) line) refused) is_next refuses;
    }

    by : (e : RefusedScript) → IsRefusedAt text e → IsRefused text e
    by (BadCall n) h = h
    by (PartialResize n) h = h
    by NoMemory h = tt

pub read_all : (text rest : List ℕ) (r : Reading) → IsReadTo text rest r → rest ≡ [] → script_of (lines_of text) ≡ Some (script_so_far r)
read_all text rest r h none =
    ap script_of (h.parts ∙ ap (λ (bytes : List ℕ). h.front ++ lines_of bytes) none ∙ append-nil h.front) ∙ h.is
