-- The crashes that were printed.
use Rattle.std.proofs.Common.{◌≡◌, ℕ, true, zero, suc, ◌+◌, ◌-◌, ◌++◌, List, [], ◌∷◌, fold, length, Option, Some, None, refl, sym, ap, ◌∙◌, arith, append-nil}
use Rattle.std.specs.List.{flat_map}
use Rattle.std.proofs.lemmas.List.{map-append}
use Rattle.std.proofs.lemmas.List.Concat.{flat_map-append}
use Rattle.blob_states.specs.Printed.{HasFewerCalls, HasNoStates, IsCrashOf, Point, PrintsCrashes, PrintsStates, calls_from, calls_of, point_text, total_line, total_of, with_point}
use Rattle.blob_states.specs.Streams.{IsPrinting}
use Rattle.blob_states.specs.declared.print.StatesText.{StatesText}
use Rattle.blob_states.specs.declared.print.Total.{Total}
use Rattle.blob_states.specs.declared.recorded.Recorded.{Recorded}
use Rattle.blob_states.specs.declared.script.RefusedScript.{RefusedScript}
use Rattle.blob_states.specs.declared.script.RefusedScript.TheVariants.{BadCall, FewCalls, NoMemory}
use Rattle.blob_states.specs.ScriptTexts.{IsScriptOf}
use Rattle.blob_states.proofs.NamesSoFar.{all_more}

-- one more of some numbers in a row
pub one_more_call : (first count : ℕ) → calls_from first (suc count) ≡ calls_from first count ++ (first + count) ∷ []
one_more_call first zero = ap (λ (n : ℕ). n ∷ []) (omega arith)
one_more_call first (suc count) = ap (λ (ns : List ℕ). first ∷ ns) (one_more_call (suc first) count ∙ ap (λ (n : ℕ). calls_from (suc first) count ++ n ∷ []) (omega arith))

folded : {A B : Type 0} (f : B → A → B) (b : B) (xs : List A) (x : A) → fold f b (xs ++ x ∷ []) ≡ f (fold f b xs) x
folded f b [] x = refl
folded f b (y ∷ xs) x = folded f (f b y) xs x

pub total_more : (points : List Point) (point : Point) → total_of (points ++ point ∷ []) ≡ with_point (total_of points) point
total_more points point = folded with_point (record { crashes = 0; outcomes = 0; states = 0; is_complete = true }) points point

pub none_printed : (run : Recorded) (limit first count : ℕ) (text : List ℕ) (total : Total) → count ≡ 0 → text ≡ [] → total ≡ total_of [] → PrintsCrashes run limit first count text total
none_printed run limit first count text total none empty is = record {
  points = [];
  calls = ap (calls_from first) (sym none);
  each = tt;
  prints = empty;
  total_is = is;
}

pub one_printed : (run : Recorded) (limit first count count' : ℕ) (text text' : List ℕ) (total total' : Total) (point : Point) → PrintsCrashes run limit first count text total
    → point.calls ≡ first + count → count' ≡ suc count → IsCrashOf run limit point → text' ≡ text ++ point_text point → total' ≡ with_point total point
    → PrintsCrashes run limit first count' text' total'
one_printed run limit first count count' text text' total total' point before at more crash prints counts = record {
  points = before.points ++ point ∷ [];
  calls = map-append calls_of before.points (point ∷ []) ∙ ap (λ (ns : List ℕ). ns ++ point.calls ∷ []) before.calls ∙ ap (λ (n : ℕ). calls_from first count ++ n ∷ []) at
      ∙ sym (one_more_call first count) ∙ ap (calls_from first) (sym more);
  each = all_more (IsCrashOf run limit) before.points point before.each crash;
  prints = prints ∙ ap (λ (bytes : List ℕ). bytes ++ point_text point) before.prints ∙ ap (λ (bytes : List ℕ). flat_map point_text before.points ++ bytes) (sym (append-nil (point_text point)))
      ∙ sym (flat_map-append point_text before.points (point ∷ []));
  total_is = counts ∙ ap (λ (t : Total). with_point t point) before.total_is ∙ sym (total_more before.points point);
}

-- the line after the last crash
pub last_printed : (script : List ℕ) (at : Option ℕ) (limit : ℕ) (s : StatesText) (before : List ℕ) → IsPrinting script at limit s before → s.calls - s.first ≡ s.end - s.first
    → PrintsStates script at limit (before ++ total_line s.total)
last_printed script at limit s before p ended = record {
  run = s.run;
  is = p.is;
  points = p.printed.points;
  calls = p.printed.calls ∙ ap (calls_from s.first) ended ∙ p.range.points;
  each = p.printed.each;
  prints = ap (λ (bytes : List ℕ). bytes ++ total_line s.total) p.printed.prints
      ∙ ap (λ (total : Total). flat_map point_text p.printed.points ++ total_line total) p.printed.total_is;
}

-- a script that has too few calls
pub few_calls : (script : List ℕ) (at : Option ℕ) (run : Recorded) (refused : RefusedScript) → IsScriptOf script run → HasFewerCalls at (length run.calls.items) refused → HasNoStates script at refused
few_calls script at run (BadCall number) is h = absurd h
few_calls script None run (FewCalls calls) is h = absurd h
few_calls script (Some at) run (FewCalls calls) is h = (run, is, sym h.0, omega (arith, h.0, h.1))
few_calls script at run NoMemory is h = tt
