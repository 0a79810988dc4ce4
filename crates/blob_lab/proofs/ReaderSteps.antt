-- A line that a reader was given, after lines that made no call.
use Rattle.std.proofs.Common.{◌≡◌, ℕ, ◌+◌, List, Bool, false, Option, ap, sym, subst, ◌∙◌}
use Rattle.std.specs.Io.Iter.{u64_saturate}
use Rattle.blob_draws.specs.declared.config.Config.{Config}
use Rattle.blob_script.specs.declared.call.Call.{Call}
use Rattle.blob_script.specs.declared.script.preamble.Preamble.{Preamble}
use Rattle.blob_script.specs.declared.script.reader.Reader.{Reader}
use Rattle.blob_script.specs.Acts.{Act, act_of}
use Rattle.blob_script.specs.Lines.{line_of}
use Rattle.blob_script.specs.Preambles.{images_of, words_of}
use Rattle.blob_script.specs.Readers.{HasRead, IsSame, MakesCall, MakesNoCall, Refuses, config_of, has_begun, lines_read, preamble_of, with_preamble}
use Rattle.blob_script.specs.Settings.{no_rates}
use Rattle.blob_script.proofs.Readers.{reads_on, same_script}
use Rattle.blob_lab_model.specs.States.{start}
use Rattle.blob_lab_store.specs.declared.lab.Lab.{Lab}
use Rattle.blob_lab_store.specs.LabStands.{LabStandsFor}
use Rattle.blob_lab.specs.ScriptReading.{OfLines, TakesBadCall, TakesCall, TakesLine, TakesPart}
use Rattle.blob_lab.specs.Scripts.{Script, no_script}
use Rattle.blob_lab.proofs.ScriptLines.{taken_whole}
use Rattle.blob_lab.proofs.ScriptSteps.{TakesFront, line_bad, line_call, line_more, line_part, no_line}

-- the script so far: s with the preamble of the reader r'
abbrev pub so_far : Reader → Reader → Script → Script
so_far r r' s = with_preamble (has_begun r) (preamble_of r') s

-- r' after the lines so far, which is m when the line comes, and r'' after it
module _ (r r' m r'' : Reader) (same : m ≡ r') (s : Script) (line : List ℕ) (old mid new : Option (List ℕ)) (begun : has_begun r' ≡ has_begun r)
    (taken : OfLines old mid (TakesFront s (so_far r r' s) (lines_read r + 1) (lines_read r' + 1))) (read : HasRead r' (so_far r r' s))
    (is : OfLines mid new (TakesLine line)) (number : lines_read r'' ≡ u64_saturate (lines_read m + 1)) where
  counted : lines_read r'' ≡ u64_saturate (lines_read r' + 1)
  counted = number ∙ ap (λ (x : Reader). u64_saturate (lines_read x + 1)) same

  on : MakesNoCall m (line_of line) r'' → MakesNoCall r' (line_of line) r''
  on makes = subst (λ (x : Reader). MakesNoCall x (line_of line) r'') same makes

  pub no_call : MakesNoCall m (line_of line) r'' → OfLines old new (TakesFront s (so_far r r'' s) (lines_read r + 1) (lines_read r'' + 1))
  no_call makes =
      line_more s (so_far r r' s) (lines_read r + 1) (lines_read r') (lines_read r'') line old mid new (so_far r r'' s) taken is
      (reads_on r' r'' (line_of line) (has_begun r) (preamble_of r') s begun read (on makes)).0 counted

  pub still_read : MakesNoCall m (line_of line) r'' → HasRead r'' (so_far r r'' s)
  still_read makes = (reads_on r' r'' (line_of line) (has_begun r) (preamble_of r') s begun read (on makes)).1

  pub a_call : (act : Act) → MakesCall m (line_of line) act r'' → OfLines old new (TakesCall s (so_far r r'' s) (lines_read r + 1) (lines_read r'') act (config_of r''))
  a_call act asked =
      let makes = subst (λ (x : Reader). MakesCall x (line_of line) act r'') same asked in
      subst (λ (p : Preamble). OfLines old new (TakesCall s (with_preamble (has_begun r) p s) (lines_read r + 1) (lines_read r'') act (config_of r''))) (sym makes.preamble)
      (line_call s (so_far r r' s) (lines_read r + 1) (lines_read r') (lines_read r'') line old mid new act (config_of r'') taken is (makes.adds (so_far r r' s) read) counted)

  pub bad_call : Refuses m (line_of line) → IsSame m r'' → OfLines old new (TakesBadCall s (so_far r r'' s) (lines_read r + 1) (lines_read r''))
  bad_call refused kept =
      let refuses = subst (λ (x : Reader). Refuses x (line_of line)) same refused in
      subst (λ (u : Script). OfLines old new (TakesBadCall s u (lines_read r + 1) (lines_read r''))) (same_script r' r'' (has_begun r) s (subst (λ (x : Reader). IsSame x r'') same kept))
      (line_bad s (so_far r r' s) (lines_read r + 1) (lines_read r') (lines_read r'') line old mid new taken is (refuses (so_far r r' s) read) counted)

  pub in_hand : IsSame m r'' → OfLines old new (TakesPart s (so_far r r'' s))
  in_hand kept =
      subst (λ (u : Script). OfLines old new (TakesPart s u)) (same_script r' r'' (has_begun r) s (subst (λ (x : Reader). IsSame x r'') same kept))
      (line_part s (so_far r r' s) (lines_read r + 1) (lines_read r' + 1) old mid new taken (taken_whole mid new line is))

-- a laboratory that was created from the preamble that a new reader has read
pub starts : (r r' : Reader) (lab : Lab) (p : Preamble) (config : Config) → has_begun r ≡ false → p ≡ preamble_of r' → config ≡ no_rates
    → LabStandsFor lab (start (images_of p.images.items) (words_of p) config) → LabStandsFor lab (start (so_far r r' no_script).images (so_far r r' no_script).words no_rates)
starts r r' lab p config new is none stands =
    subst (λ (b : Bool). LabStandsFor lab (start (with_preamble b (preamble_of r') no_script).images (with_preamble b (preamble_of r') no_script).words no_rates)) (sym new)
    (subst (λ (q : Preamble). LabStandsFor lab (start (images_of q.images.items) (words_of q) no_rates)) is
    (subst (λ (c : Config). LabStandsFor lab (start (images_of p.images.items) (words_of p) c)) none stands))

-- the first call, by the reader whose preamble was taken then
pub next_of : (r r' r'' : Reader) (call : Call) (a b : Option (List ℕ)) → lines_read r'' ≡ lines_read r' → config_of r'' ≡ config_of r'
    → OfLines a b (TakesCall no_script (so_far r r' no_script) (lines_read r + 1) (lines_read r') (act_of call) (config_of r'))
    → OfLines a b (TakesCall no_script (so_far r r' no_script) (lines_read r + 1) (lines_read r'') (act_of call) (config_of r''))
next_of r r' r'' call a b number config taken =
    subst (λ (n : ℕ). OfLines a b (TakesCall no_script (so_far r r' no_script) (lines_read r + 1) n (act_of call) (config_of r''))) (sym number)
    (subst (λ (c : Config). OfLines a b (TakesCall no_script (so_far r r' no_script) (lines_read r + 1) (lines_read r') (act_of call) c)) (sym config) taken)

-- no line was read
pub none_taken : (old : Option (List ℕ)) (r : Reader) (s : Script) → HasRead r s → OfLines old old (TakesFront s (so_far r r s) (lines_read r + 1) (lines_read r + 1))
none_taken old r s read = subst (λ (t : Script). OfLines old old (TakesFront s t (lines_read r + 1) (lines_read r + 1))) (sym read.preamble) (no_line old s (lines_read r + 1))

pub none_read : (r : Reader) (s : Script) → HasRead r s → HasRead r (so_far r r s)
none_read r s read = subst (HasRead r) (sym read.preamble) read
