-- A reader and the script that it has read.
use Rattle.std.proofs.Common.{◌≡◌, ◌≢◌, List, [], ◌∷◌, ◌++◌, Bool, true, false, not, Option, Some, refl, sym, ap, ◌∙◌, subst}
use Rattle.blob_script.specs.declared.script.preamble.Preamble.{Preamble}
use Rattle.blob_script.specs.declared.script.reader.Reader.{Reader}
use Rattle.blob_script.specs.Acts.{Act}
use Rattle.blob_script.specs.Lines.{Said}
use Rattle.blob_script.specs.Preambles.{images_of, words_of}
use Rattle.blob_script.specs.Readers.{HasRead, IsSame, MakesCall, MakesNoCall, config_of, has_begun, preamble_of, with_meaning, with_preamble}
use Rattle.blob_script.specs.Scripts.{Script, with_call}
use Rattle.blob_tokens.specs.Tokens.{is_empty}

-- A preamble changes no call and no setting.

pub calls_kept : (begun : Bool) (p : Preamble) (s : Script) → (with_preamble begun p s).calls ≡ s.calls
calls_kept true p s = refl
calls_kept false p s = refl

config_kept : (begun : Bool) (p : Preamble) (s : Script) → (with_preamble begun p s).config ≡ s.config
config_kept true p s = refl
config_kept false p s = refl

-- the later preamble replaces the earlier one
replaced : (begun : Bool) (p q : Preamble) (s : Script) → with_preamble begun q (with_preamble begun p s) ≡ with_preamble begun q s
replaced true p q s = refl
replaced false p q s = refl

pub same_script : (r r' : Reader) (begun : Bool) (s : Script) → IsSame r r' → with_preamble begun (preamble_of r) s ≡ with_preamble begun (preamble_of r') s
same_script r r' true s same = refl
same_script r r' false s same =
    ap (λ images. record s { images = images_of images; words = words_of (preamble_of r) }) (sym same.images)
    ∙ ap (λ words. record s { images = images_of (preamble_of r').images.items; words = words }) (sym same.words)

-- once the calls have begun, the preamble says nothing
pub at_begun : (P : Script → Type 0) (begun : Bool) (p : Preamble) (s : Script) → begun ≡ true → P (with_preamble begun p s) → P s
at_begun P begun p s is h = subst (λ (b : Bool). P (with_preamble b p s)) is h

some_calls : (calls : List Act) → calls ≢ [] → is_empty calls ≡ false
some_calls [] some = absurd (some refl)
some_calls (act ∷ acts) some = refl

one_more : (calls : List Act) (act : Act) → is_empty (calls ++ act ∷ []) ≡ false
one_more [] act = refl
one_more (first ∷ calls) act = refl

-- What was read.

pub read_begun : (r : Reader) (s : Script) → has_begun r ≡ true → s.config ≡ config_of r → s.calls ≢ [] → HasRead r s
read_begun r s begun config some = record {
  config = sym config;
  calls = some_calls s.calls some ∙ ap not (sym begun);
  preamble = ap (λ b. with_preamble b (preamble_of r) s) begun;
}

pub read_call : (r r' : Reader) (said : Option Said) (act : Act) (s : Script) → MakesCall r said act r' → HasRead r' (with_call (record s { config = config_of r' }) act)
read_call r r' said act s makes = record {
  config = refl;
  calls = one_more s.calls act ∙ ap not (sym makes.begun);
  preamble = ap (λ b. with_preamble b (preamble_of r') (with_call (record s { config = config_of r' }) act)) makes.begun;
}

pub read_on : (r r' : Reader) (said : Option Said) (s : Script) → HasRead r s → MakesNoCall r said r' → HasRead r' (with_preamble (has_begun r) (preamble_of r') s)
read_on r r' said s read makes =
    let t = with_preamble (has_begun r) (preamble_of r') s in record {
      config = makes.config ∙ read.config ∙ sym (config_kept (has_begun r) (preamble_of r') s);
      calls = ap is_empty (calls_kept (has_begun r) (preamble_of r') s) ∙ read.calls ∙ ap not (sym makes.begun);
      preamble = ap (λ b. with_preamble b (preamble_of r') t) makes.begun ∙ replaced (has_begun r) (preamble_of r') (preamble_of r') s;
    }

-- the same after an earlier preamble
pub reads_on : (r r' : Reader) (said : Option Said) (begun : Bool) (p : Preamble) (s : Script) → has_begun r ≡ begun → HasRead r (with_preamble begun p s) → MakesNoCall r said r'
    → (with_meaning (with_preamble begun p s) said ≡ Some (with_preamble begun (preamble_of r') s)) × HasRead r' (with_preamble begun (preamble_of r') s)
reads_on r r' said begun p s is read makes =
    let same : with_preamble (has_begun r) (preamble_of r') (with_preamble begun p s) ≡ with_preamble begun (preamble_of r') s = ap (λ b. with_preamble b (preamble_of r') (with_preamble begun p s)) is ∙ replaced begun p (preamble_of r') s in
    (makes.adds (with_preamble begun p s) read ∙ ap Some same, subst (HasRead r') same (read_on r r' said (with_preamble begun p s) read makes))
