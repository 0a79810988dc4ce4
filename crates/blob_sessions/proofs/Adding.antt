-- What one more line does to the settings that a session is opened with.
use Rattle.std.proofs.Common.{◌≡◌, ℕ, ◌+◌, List, [], ◌∷◌, ◌++◌, All, Bool, true, false, Some, None, Result, Ok, Err, IfErr, refl, sym, ap, ◌∙◌, append_assoc, arith, inl, inr, subst}
use Rattle.std.proofs.lemmas.List.{length_push}
use Rattle.std.proofs.lemmas.List.Elements.{All-push}
use Rattle.blob_draws.specs.declared.config.Config.{Config}
use Rattle.blob_script.specs.declared.script.preamble.Preamble.{Preamble}
use Rattle.blob_script.specs.declared.script.reader.Reader.{Reader}
use Rattle.blob_script.specs.Acts.{Act}
use Rattle.blob_script.specs.Lines.{line_of}
use Rattle.blob_script.specs.Preambles.{Image, Words, images_of, words_of}
use Rattle.blob_script.specs.Readers.{HasRead, MakesCall, MakesNoCall, config_of, has_begun, lines_read, preamble_of, with_preamble}
use Rattle.blob_script.specs.Scripts.{with_call}
use Rattle.blob_script.proofs.Readers.{calls_kept, read_call, read_on}
use Rattle.blob_lab.specs.Scripts.{Script, no_script, lines_of, with_line}
use Rattle.blob_lab.proofs.ScriptSteps.{more_lines, one_line}
use Rattle.blob_lab_model.specs.States.{start}
use Rattle.blob_lab_store.specs.LabStands.{LabStandsFor}
use Rattle.blob_sessions.specs.Debts.{IsNew}
use Rattle.blob_sessions.specs.Sessions.{settings_of}
use Rattle.blob_sessions.specs.declared.kept.Kept.{Kept}
use Rattle.blob_sessions.specs.declared.preamble.RefusedPreamble.{RefusedPreamble}
use Rattle.blob_sessions.specs.declared.preamble.RefusedPreamble.TheVariants.{BadLine}
use Rattle.blob_sessions.proofs.LineCalls.{call_said}
use Rattle.blob_sessions.specs.Preambles.{AddsSetting, AreSettings, IsSetting, IsNoSetting, BreaksAt, IsMadeOf, IsReadTo, ReadsSettings, RefusesSetting}

-- The images and the words of a reader are those of the script.
pub record GivesStart (r : Reader) (s : Script) : Type 0 where
  pub images : images_of (preamble_of r).images.items ≡ s.images
  pub words : words_of (preamble_of r) ≡ s.words

start_on : (begun : Bool) (r r' : Reader) (s : Script) → (begun ≡ true → preamble_of r' ≡ preamble_of r) → GivesStart r s → GivesStart r' (with_preamble begun (preamble_of r') s)
start_on true r r' s same gives = record { images = ap (λ p. images_of p.images.items) (same refl) ∙ gives.images; words = ap words_of (same refl) ∙ gives.words }
start_on false r r' s same gives = record { images = refl; words = refl }

-- One more line.

more : (lines : List (List ℕ)) (line : List ℕ) (s t : Script) → AreSettings lines s → with_line s line ≡ Some t → All IsSetting t.calls → AreSettings (lines ++ line ∷ []) t
more lines line s t are adds settings = record { script = more_lines no_script s lines (line ∷ []) are.script ∙ one_line s line ∙ adds; settings = settings }

settings_more : (lines : List (List ℕ)) (line : List ℕ) (r r' : Reader) → ReadsSettings lines r → MakesNoCall r (line_of line) r' → ReadsSettings (lines ++ line ∷ []) r'
settings_more lines line r r' reads makes =
    let s = reads.script in
    let t = with_preamble (has_begun r) (preamble_of r') s in
    let start = start_on (has_begun r) r r' s makes.preamble (record { images = reads.images; words = reads.words }) in record {
      script = t;
      are = more lines line s t reads.are (makes.adds s reads.read) (subst (All IsSetting) (sym (calls_kept (has_begun r) (preamble_of r') s)) reads.are.settings);
      read = read_on r r' (line_of line) s reads.read makes;
      images = start.images;
      words = start.words;
    }

setting_more : (lines : List (List ℕ)) (line : List ℕ) (r r' : Reader) (act : Act) → IsSetting act → ReadsSettings lines r → MakesCall r (line_of line) act r' → ReadsSettings (lines ++ line ∷ []) r'
setting_more lines line r r' act is reads makes =
    let s = reads.script in
    let t = with_call (record s { config = config_of r' }) act in record {
      script = t;
      are = more lines line s t reads.are (makes.adds s reads.read) (All-push IsSetting s.calls act reads.are.settings is);
      read = read_call r r' (line_of line) act s makes;
      images = ap (λ p. images_of p.images.items) makes.preamble ∙ reads.images;
      words = ap words_of makes.preamble ∙ reads.words;
    }

-- Lines one after another.

pub begins : (text : List ℕ) (r : Reader) → HasRead r no_script → has_begun r ≡ false → lines_read r ≡ 0 → IsReadTo text text r
begins text r read new number =
    let same : with_preamble false (preamble_of r) no_script ≡ no_script = ap (λ b. with_preamble b (preamble_of r) no_script) (sym new) ∙ read.preamble in record {
      front = [];
      parts = refl;
      numbered = number;
      reads = record {
        script = no_script;
        are = record { script = refl; settings = λ k d h. absurd (omega (arith, h)) };
        read = read;
        images = ap (λ (s : Script). s.images) same;
        words = ap (λ (s : Script). s.words) same;
      };
    }

module _ (text rest line others : List ℕ) (r r' : Reader) (to : IsReadTo text rest r) (first : lines_of rest ≡ line ∷ lines_of others) where
  goes_on : lines_read r' ≡ lines_read r + 1 → ReadsSettings (to.front ++ line ∷ []) r' → IsReadTo text others r'
  goes_on number reads = record {
    front = to.front ++ line ∷ [];
    parts = to.parts ∙ ap (λ ls. to.front ++ ls) first ∙ sym (append_assoc to.front (line ∷ []) (lines_of others));
    numbered = number ∙ ap (λ n. n + 1) to.numbered ∙ sym (length_push to.front line);
    reads = reads;
  }

  pub goes_on_by : lines_read r' ≡ lines_read r + 1 → AddsSetting r line r' → IsReadTo text others r'
  goes_on_by number (inl makes) = goes_on number (settings_more to.front line r r' to.reads makes)
  goes_on_by number (inr (act, is, makes)) = goes_on number (setting_more to.front line r r' act is to.reads makes)

  breaks : (last : ℕ) → last ≡ lines_read r + 1 → IsNoSetting to.reads.script line → BreaksAt (lines_of text) last
  breaks last is bad =
      let n = to.numbered in record {
        front = to.front;
        bad = line;
        rest = lines_of others;
        parts = to.parts ∙ ap (λ ls. to.front ++ ls) first;
        numbered = omega (arith, is, n);
        script = to.reads.script;
        are = to.reads.are;
        breaks = bad;
      }

  pub bad_line : (last : ℕ) → RefusesSetting r line last → BreaksAt (lines_of text) last
  bad_line last (is, refuses) = breaks last is (refuses to.reads.script to.reads.read)

-- a call that is no setting can't follow
pub no_setting : (r r' : Reader) (line : List ℕ) (act : Act) → (IsSetting act → ⊥) → MakesCall r (line_of line) act r' → (s : Script) → HasRead r s → IsNoSetting s line
no_setting r r' line act not makes s read = inr (call_said s (line_of line) act (config_of r') (makes.adds s read) not)

refused_setting : {T : Type 0} (result : Result T RefusedPreamble) (last : ℕ) (act : Act) → IfErr result (λ refused. (refused ≡ BadLine last) × (IsSetting act → ⊥)) → (number : ℕ) → result ≡ Err (BadLine number)
    → (number ≡ last) × (IsSetting act → ⊥)
refused_setting (Ok x) last act refused number e = absurd (cc)
refused_setting (Err refusal) last act (is, not) number e = let same : refusal ≡ BadLine number = cc in ((cc), not)

pub refuses_call : {T : Type 0} (result : Result T RefusedPreamble) (r r' : Reader) (line : List ℕ) (last : ℕ) (act : Act) → lines_read r' ≡ lines_read r + 1 → last ≡ lines_read r' → MakesCall r (line_of line) act r'
    → IfErr result (λ refused. (refused ≡ BadLine last) × (IsSetting act → ⊥)) → (number : ℕ) → result ≡ Err (BadLine number) → RefusesSetting r line number
refuses_call result r r' line last act next is makes refused number e =
    let (same, not) = refused_setting result last act refused number e in (same ∙ is ∙ next, no_setting r r' line act not makes)

-- a laboratory that was made of what was read
pub made : (k : Kept) (lines : List (List ℕ)) (r : Reader) (p : Preamble) (config : Config) → ReadsSettings lines r → p ≡ preamble_of r → config ≡ config_of r
    → LabStandsFor k.lab (start (images_of p.images.items) (words_of p) config) → settings_of k ≡ config_of r → k.last ≡ None → IsNew k.debts → IsMadeOf k lines
made k lines r p config reads is same stands settings last debts = record {
  script = reads.script;
  are = reads.are;
  stands = subst (λ (c : Config). LabStandsFor k.lab (start reads.script.images reads.script.words c)) (same ∙ reads.read.config)
      (subst (λ (w : Words). LabStandsFor k.lab (start reads.script.images w config)) (ap words_of is ∙ reads.words)
      (subst (λ (images : List Image). LabStandsFor k.lab (start images (words_of p) config)) (ap (λ (q : Preamble). images_of q.images.items) is ∙ reads.images) stands));
  settings = settings ∙ reads.read.config;
  last = last;
  debts = debts;
}
