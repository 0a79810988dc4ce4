-- A settled edit counts, and later edits of other entries don't change what it made of its own.
use Rattle.std.proofs.Common.{◌≡◌, ℕ, Bool, true, false, ◌||◌, not, List, [], ◌∷◌, ◌++◌, Some, None, refl, sym, ap, ◌∙◌, ⊎_elim}
use Rattle.std.specs.Str.{bytes_eq}
use Rattle.std.proofs.lemmas.Bool.{cases_Bool, cond-false, cond-true, or_cases, or_parts, both_ways}
use Rattle.blob_directory.specs.Names.{Edit, Names, all_edited, changed, edited}
use Rattle.blob_directory.specs.Profiles.{Rule, kept_edits, with_seen}
use Rattle.blob_directory.specs.Records.{Found, found_in}
use Rattle.blob_directory.specs.Settled.{IsBeside, SettledIsFound, changes_entry}
use Rattle.blob_directory.proofs.Rules.{seen_beside, seen_parts}

-- the edits that count, in two parts
kept_parts : (rule : Rule) (lost : Bool) (before rest : List Found)
    → (later : Bool) × (kept_edits rule lost (before ++ rest) ≡ kept_edits rule lost before ++ kept_edits rule later rest)
kept_parts rule lost [] rest = (lost, refl)
kept_parts rule lost (None ∷ before) rest = kept_parts rule (lost || rule.is_prefix) before rest
kept_parts rule lost (Some (edit, settled) ∷ before) rest =
    let h = kept_parts rule lost before rest in
    let counts : Bool = settled || not lost in
    let more : List Edit = kept_edits rule lost (before ++ rest) in
    let front : List Edit = kept_edits rule lost before in
    let back : List Edit = kept_edits rule h.0 rest in (
      h.0,
      ⊎_elim
          (λ y. cond-true counts (edit ∷ more) more y ∙ ap (λ l. edit ∷ l) h.1 ∙ ap (λ l. l ++ back) (sym (cond-true counts (edit ∷ front) front y)))
          (λ n. cond-false counts (edit ∷ more) more n ∙ h.1 ∙ ap (λ l. l ++ back) (sym (cond-false counts (edit ∷ front) front n)))
          (cases_Bool counts),
    )

all_parts : (names : Names) (front back : List Edit) → all_edited names (front ++ back) ≡ all_edited (all_edited names front) back
all_parts names [] back = refl
all_parts names (edit ∷ front) back = all_parts (edited names edit) front back

-- an edit of other entries
edit_beside : (names : Names) (edit : Edit) (e : List ℕ) → changes_entry e edit ≡ false → edited names edit e ≡ names e
edit_beside names [] e other = refl
edit_beside names (c ∷ edit) e other =
    let parts = or_parts (bytes_eq c.0 e) (changes_entry e edit) other in
    edit_beside (changed names c) edit e parts.1 ∙ cond-false (bytes_eq c.0 e) c.1 (names e) parts.0

-- an edit of this entry, whatever it was bound to before
edit_here : (a b : Names) (edit : Edit) (e : List ℕ) → changes_entry e edit ≡ true → edited a edit e ≡ edited b edit e
edit_here a b [] e here = absurd (both_ways false refl here)
edit_here a b (c ∷ edit) e here = ⊎_elim
    (λ more. edit_here (changed a c) (changed b c) edit e more)
    (λ none.
    let now : bytes_eq c.0 e ≡ true = ⊎_elim (λ x. x) (λ x. absurd (both_ways (changes_entry e edit) none x)) (or_cases (bytes_eq c.0 e) (changes_entry e edit) here) in
    edit_beside (changed a c) edit e none ∙ cond-true (bytes_eq c.0 e) c.1 (a e) now
    ∙ sym (edit_beside (changed b c) edit e none ∙ cond-true (bytes_eq c.0 e) c.1 (b e) now))
    (cases_Bool (changes_entry e edit))

-- edits after it
behind_beside : (rule : Rule) (lost : Bool) (found : List Found) (names : Names) (e : List ℕ) → IsBeside e found → all_edited names (kept_edits rule lost found) e ≡ names e
behind_beside rule lost [] names e beside = refl
behind_beside rule lost (None ∷ found) names e beside = behind_beside rule (lost || rule.is_prefix) found names e beside
behind_beside rule lost (Some (edit, settled) ∷ found) names e (other, beside) =
    let counts : Bool = settled || not lost in
    let more : List Edit = kept_edits rule lost found in
    ⊎_elim
    (λ y. ap (λ l. all_edited names l e) (cond-true counts (edit ∷ more) more y) ∙ behind_beside rule lost found (edited names edit) e beside ∙ edit_beside names edit e other)
    (λ n. ap (λ l. all_edited names l e) (cond-false counts (edit ∷ more) more n) ∙ behind_beside rule lost found names e beside)
    (cases_Bool counts)

-- of any edits that were found
settled_counts : (rule : Rule) (found before after : List Found) (edit : Edit) (e : List ℕ) → found ≡ before ++ Some (edit, true) ∷ after → changes_entry e edit ≡ true → IsBeside e after
    → all_edited (λ _. None) (kept_edits rule false found) e ≡ edited (λ _. None) edit e
settled_counts rule found before after edit e is changes beside =
    let none : Names = λ _. None in
    let rest : List Found = Some (edit, true) ∷ after in
    let parts = kept_parts rule false before rest in
    let front : List Edit = kept_edits rule false before in
    let back : List Edit = kept_edits rule parts.0 after in
    let edits : kept_edits rule false found ≡ front ++ edit ∷ back = ap (kept_edits rule false) is ∙ parts.1 in
    ap (λ l. all_edited none l e) edits
    ∙ ap (λ (n : Names). n e) (all_parts none front (edit ∷ back))
    ∙ behind_beside rule parts.0 after (edited (all_edited none front) edit) e beside
    ∙ edit_here (all_edited none front) none edit e changes

-- and by a rule
pub settled_by : (rule : Rule) (found before after : List Found) (edit : Edit) (e : List ℕ) → found ≡ before ++ Some (edit, true) ∷ after → changes_entry e edit ≡ true → IsBeside e after
    → all_edited (λ _. None) (kept_edits rule false (with_seen rule false 0 found)) e ≡ edited (λ _. None) edit e
settled_by rule found before after edit e is changes beside =
    let p = seen_parts rule false 0 before after edit in
    settled_counts rule (with_seen rule false 0 found) p.0 (with_seen rule p.1 p.2 after) edit e (ap (with_seen rule false 0) is ∙ p.3) changes (seen_beside rule p.1 p.2 e after beside)

pub settled_is_found : SettledIsFound
settled_is_found rule journal edit e last = settled_by rule (found_in journal) last.before last.after edit e last.found last.changes last.beside
