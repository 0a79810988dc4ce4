-- What a line says, by what it adds to a script.
use Rattle.std.proofs.Common.{◌≡◌, ◌≢◌, ℕ, List, [], ◌∷◌, ◌++◌, Bool, true, false, Option, Some, None, Result, Ok, Err, rules, refl, sym, ap, ◌∙◌, subst}
use Rattle.std.specs.Prelude.{◌&&◌, if◌then◌else◌, is_none}
use Rattle.blob_draws.specs.declared.config.Config.{Config}
use Rattle.blob_script.specs.Acts as acts
use Rattle.blob_script.specs.Acts.{Act}
use Rattle.blob_script.specs.Lines.{Said, Blank, Image, Given, Seed, Configure, Call, line_of}
use Rattle.blob_script.specs.declared.script.reader.Reader.{Reader}
use Rattle.blob_script.specs.Readers.{IfNoCall, MakesNoCall, Refuses, config_of, has_begun, preamble_of, with_meaning}
use Rattle.blob_script.proofs.Readers.{at_begun, read_begun}
use Rattle.blob_script.specs.Preambles.{behind_seeded, only}
use Rattle.blob_script.specs.Scripts.{with_call}
use Rattle.blob_script.specs.Settings.{with_setting}
use Rattle.blob_tokens.specs.Tokens.{is_empty}
use Rattle.blob_lab.specs.Scripts.{Script}
use Rattle.blob_sessions.specs.Preambles.{IsSetting}

longer : (calls : List Act) (act : Act) → calls ≡ calls ++ act ∷ [] → ⊥
longer [] act e = cc
longer (first ∷ calls) act e = longer calls act (cc)

last_same : (calls : List Act) (a b : Act) → calls ++ a ∷ [] ≡ calls ++ b ∷ [] → a ≡ b
last_same [] a b e = cc
last_same (first ∷ calls) a b e = last_same calls a b (cc)

abbrev calls_in : Option Script → List Act
calls_in None = []
calls_in (Some s) = s.calls

-- a script without another call isn't one with another call
not_more : (may : Bool) (s t u : Script) (act : Act) → t.calls ≡ s.calls → u.calls ≡ s.calls ++ act ∷ [] → (if may then Some t else None) ≡ Some u → ⊥
not_more false s t u act same one e = cc
not_more true s t u act same one e =
    let is : t ≡ u = cc in
    longer s.calls act (sym same ∙ ap (λ (x : Script). x.calls) is ∙ one)

-- a call that is added and sets nothing is said
pub call_said : (s : Script) (said : Option Said) (act : Act) (config : Config) → with_meaning s said ≡ Some (with_call (record s { config = config }) act) → (IsSetting act → ⊥) → (asked : Act) × (said ≡ Some (Call asked))
call_said s None act config e not = cc
call_said s (Some Blank) act config e not = absurd (not_more true s s (with_call (record s { config = config }) act) act refl refl e)
call_said s (Some (Image p n bytes)) act config e not =
    absurd (not_more (is_empty s.calls) s (record s { images = s.images ++ (p, n, bytes) ∷ [] }) (with_call (record s { config = config }) act) act refl refl e)
call_said s (Some (Given words)) act config e not =
    absurd (not_more (is_empty s.calls) s (record s { words = record { given = s.words.given ++ words; seed = s.words.seed } }) (with_call (record s { config = config }) act) act refl refl e)
call_said s (Some (Seed seed)) act config e not =
    absurd (not_more (is_empty s.calls && is_none s.words.seed) s (record s { words = record { given = s.words.given; seed = Some seed } }) (with_call (record s { config = config }) act) act refl refl e)
call_said s (Some (Configure setting)) act config e not =
    let same : s.calls ++ acts.Configure (with_setting s.config setting) ∷ [] ≡ s.calls ++ act ∷ [] = ap calls_in e in
    absurd (not (subst IsSetting (last_same s.calls (acts.Configure (with_setting s.config setting)) act same) tt))
call_said s (Some (Call asked)) act config e not = (asked, refl)

-- What a line says after the first call.

none_after : (calls : List Act) (more : Bool) (t : Script) → calls ≢ [] → (if is_empty calls && more then Some t else None) ≡ None
none_after [] more t some = absurd (some refl)
none_after (act ∷ acts) more t some = refl

image_after : (calls : List Act) (t : Script) → calls ≢ [] → (if is_empty calls then Some t else None) ≡ None
image_after [] t some = absurd (some refl)
image_after (act ∷ acts) t some = refl

-- a line that adds nothing says nothing
blank_said : (s : Script) (said : Option Said) → s.calls ≢ [] → with_meaning s said ≡ Some s → said ≡ Some Blank
blank_said s None some e = absurd (cc)
blank_said s (Some Blank) some e = refl
blank_said s (Some (Image p n bytes)) some e = let none = image_after s.calls (record s { images = s.images ++ (p, n, bytes) ∷ [] }) some in absurd (cc)
blank_said s (Some (Given words)) some e = let none = image_after s.calls (record s { words = record { given = s.words.given ++ words; seed = s.words.seed } }) some in absurd (cc)
blank_said s (Some (Seed seed)) some e = let none = none_after s.calls (is_none s.words.seed) (record s { words = behind_seeded s.words.given seed }) some in absurd (cc)
blank_said s (Some (Configure setting)) some e = absurd (longer s.calls (acts.Configure (with_setting s.config setting)) (sym (ap calls_in e)))
blank_said s (Some (Call act)) some e = absurd (longer s.calls act (sym (ap calls_in e)))

-- a line that can't follow one script with calls can follow none
refused_alike : (s t : Script) (said : Option Said) → t.calls ≢ [] → with_meaning s said ≡ None → with_meaning t said ≡ None
refused_alike s t None some e = refl
refused_alike s t (Some Blank) some e = absurd (cc)
refused_alike s t (Some (Image p n bytes)) some e = image_after t.calls (record t { images = t.images ++ (p, n, bytes) ∷ [] }) some
refused_alike s t (Some (Given words)) some e = image_after t.calls (record t { words = record { given = t.words.given ++ words; seed = t.words.seed } }) some
refused_alike s t (Some (Seed seed)) some e = none_after t.calls (is_none t.words.seed) (record t { words = behind_seeded t.words.given seed }) some
refused_alike s t (Some (Configure setting)) some e = absurd (cc)
refused_alike s t (Some (Call act)) some e = absurd (cc)

-- a script with a call and these settings
abbrev begun_with : Config → Script
begun_with config = record { images = []; words = only []; config = config; calls = acts.Configure config ∷ [] }

blank_line : (r r' : Reader) (said : Option Said) → has_begun r ≡ true → MakesNoCall r said r' → said ≡ Some Blank
blank_line r r' said begun makes =
    let s = begun_with (config_of r) in
    blank_said s said (λ e. absurd (cc))
    (at_begun (λ t. with_meaning s said ≡ Some t) (has_begun r) (preamble_of r') s begun (makes.adds s (read_begun r s begun refl (λ e. absurd (cc)))))

pub no_line : (r : Reader) (said : Option Said) → has_begun r ≡ true → Refuses r said → (s : Script) → s.calls ≢ [] → with_meaning s said ≡ None
no_line r said begun refuses s some =
    let t = begun_with (config_of r) in refused_alike t s said some (refuses t (read_begun r t begun refl (λ e. absurd (cc))))

pub if_blank : {T E : Type 0} (result : Result (Option T) E) (r r' : Reader) (line : List ℕ) (said : Said) → has_begun r ≡ true → line_of line ≡ Some said → IfNoCall result (MakesNoCall r (Some said) r')
    → IfNoCall result (line_of line ≡ Some Blank)
if_blank (Ok None) r r' line said begun is makes = is ∙ blank_line r r' (Some said) begun makes
if_blank (Ok (Some call)) r r' line said begun is makes = search rules
if_blank (Err refused) r r' line said begun is makes = search rules
