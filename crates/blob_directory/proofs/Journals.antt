-- The names of a journal, record by record.
use Rattle.std.proofs.Common.{◌≡◌, ℕ, zero, suc, ◌+◌, ◌-◌, ◌≤◌, List, [], ◌∷◌, ◌++◌, length, map, replicate, Bool, true, false, not, ◌||◌, ◌&&◌, Option, Some, None, refl, sym, ap, ap₂, ◌∙◌, append_assoc, arith, length-append, if◌then◌else◌}
use Rattle.std.specs.Str.{bytes_eq}
use Rattle.std.proofs.lemmas.List.{length-replicate}
use Rattle.blob_packed.specs.Records.{Record, found_from}
use Rattle.blob_directory.specs.Names.{Change, Edit, Names, Same, all_edited, changed, edited}
use Rattle.blob_directory.specs.Profiles.{Rule, all_counts, counts, kept_edits, lost_behind, with_found}
use Rattle.blob_directory.specs.Records.{Found, edit_found, edits_from}

same_changed : (a b : Names) (c : Change) → Same a b → Same (changed a c) (changed b c)
same_changed a b c h = λ e. ap (λ x. if bytes_eq c.0 e then c.1 else x) (h e)

pub same_edited : (a b : Names) (edit : Edit) → Same a b → Same (edited a edit) (edited b edit)
same_edited a b [] h = h
same_edited a b (c ∷ edit) h = same_edited (changed a c) (changed b c) edit (same_changed a b c h)

-- the same edits of the same names
pub same_all : (a b : Names) (edits : List Edit) → Same a b → Same (all_edited a edits) (all_edited b edits)
same_all a b [] h = h
same_all a b (edit ∷ edits) h = same_all (edited a edit) (edited b edit) edits (same_edited a b edit h)

and_false : (a : Bool) → (a && false) ≡ false
and_false true = refl
and_false false = refl

and_true : (a : Bool) → (a && true) ≡ a
and_true true = refl
and_true false = refl

or_false : (a : Bool) → (a || false) ≡ a
or_false true = refl
or_false false = refl

-- an edit that counts loses none behind it
still_lost : (rule : Rule) (lost : Bool) → (lost || (rule.is_prefix && false)) ≡ lost
still_lost rule lost = ap (λ (b : Bool). lost || b) (and_false rule.is_prefix) ∙ or_false lost

apply_one : (rule : Rule) (lost : Bool) (names : Names) (f : Found) (found : List Found)
    → all_edited (with_found names lost f) (kept_edits rule (lost || (rule.is_prefix && not (counts lost f))) found) ≡ all_edited names (kept_edits rule lost (f ∷ found))
apply_one rule lost names None found = ap (λ (b : Bool). all_edited names (kept_edits rule (lost || b) found)) (and_true rule.is_prefix)
apply_one rule lost names (Some (edit, true)) found = ap (λ (b : Bool). all_edited (edited names edit) (kept_edits rule b found)) (still_lost rule lost)
apply_one rule true names (Some (edit, false)) found = refl
apply_one rule false names (Some (edit, false)) found = ap (λ (b : Bool). all_edited (edited names edit) (kept_edits rule b found)) (still_lost rule false)

flag_one : (rule : Rule) (lost : Bool) (f : Found) (found : List Found)
    → counts lost f ∷ all_counts rule (lost || (rule.is_prefix && not (counts lost f))) found ≡ all_counts rule lost (f ∷ found)
flag_one rule lost None found = ap (λ (b : Bool). false ∷ all_counts rule (lost || b) found) (and_true rule.is_prefix)
flag_one rule lost (Some (edit, true)) found = ap (λ (b : Bool). true ∷ all_counts rule b found) (still_lost rule lost)
flag_one rule true (Some (edit, false)) found = refl
flag_one rule false (Some (edit, false)) found = ap (λ (b : Bool). true ∷ all_counts rule b found) (still_lost rule false)

-- Records that are passed over.

lost_more : (rule : Rule) (lost : Bool) (k : ℕ) → lost_behind rule (lost || rule.is_prefix) k ≡ (lost || rule.is_prefix)
lost_more rule lost zero = refl
lost_more rule true (suc k) = refl
lost_more rule false (suc k) = twice rule.is_prefix
  where
    twice : (a : Bool) → (a || a) ≡ a
    twice true = refl
    twice false = refl

flags_behind : (rule : Rule) (lost : Bool) (k : ℕ) (found : List Found)
    → replicate k false ++ all_counts rule (lost_behind rule lost k) found ≡ all_counts rule lost (replicate k None ++ found)
flags_behind rule lost zero found = refl
flags_behind rule lost (suc k) found =
    ap (λ (l : Bool). false ∷ (replicate k false ++ all_counts rule l found)) (sym (lost_more rule lost k))
    ∙ ap (λ l. false ∷ l) (flags_behind rule (lost || rule.is_prefix) k found)

kept_behind : (rule : Rule) (lost : Bool) (k : ℕ) (found : List Found)
    → kept_edits rule (lost_behind rule lost k) found ≡ kept_edits rule lost (replicate k None ++ found)
kept_behind rule lost zero found = refl
kept_behind rule lost (suc k) found =
    ap (λ (l : Bool). kept_edits rule l found) (sym (lost_more rule lost k)) ∙ kept_behind rule (lost || rule.is_prefix) k found

edits_behind : (k : ℕ) (found : List (Option Record)) → map edit_found (replicate k None ++ found) ≡ replicate k None ++ map edit_found found
edits_behind zero found = refl
edits_behind (suc k) found = ap (λ l. None ∷ l) (edits_behind k found)

-- the edits of bytes, from those of the first record on
pub edits_next : (next number : ℕ) (left behind : List ℕ) (r : Record)
    → found_from next left ≡ replicate (number - next) None ++ (Some r ∷ found_from (number + 1) behind)
    → edits_from next left ≡ replicate (number - next) None ++ (edit_found (Some r) ∷ edits_from (number + 1) behind)
edits_next next number left behind r is = ap (map edit_found) is ∙ edits_behind (number - next) (Some r ∷ found_from (number + 1) behind)

-- how many flags there are then
pub flags_long : (flags between flags' : List Bool) (kept : Bool) (number : ℕ) → length flags ≤ number
    → between ≡ flags ++ replicate (number - length flags) false → flags' ≡ between ++ kept ∷ [] → length flags' ≡ number + 1
flags_long flags between flags' kept number low eb ef =
    let some : length between ≡ length flags + (number - length flags) =
    ap length eb ∙ length-append flags (replicate (number - length flags) false) ∙ ap (λ n. length flags + n) (length-replicate (number - length flags) false) in
    let all : length flags' ≡ length between + 1 = ap length ef ∙ length-append between (kept ∷ []) in
    omega (arith, low, some, all)

-- the flag of one more record
pub one_flag : (rule : Rule) (lost passed lost' kept : Bool) (flags between flags' : List Bool) (k : ℕ) (here more : List Found) (f : Found) (all : List Bool)
    → here ≡ replicate k None ++ (f ∷ more)
    → between ≡ flags ++ replicate k false → passed ≡ lost_behind rule lost k
    → kept ≡ counts passed f → lost' ≡ (passed || (rule.is_prefix && not (counts passed f))) → flags' ≡ between ++ kept ∷ []
    → flags ++ all_counts rule lost here ≡ all
    → flags' ++ all_counts rule lost' more ≡ all
one_flag rule lost passed lost' kept flags between flags' k here more f all step eb ep ek el ef before =
    ap (λ l. l ++ all_counts rule lost' more) ef
    ∙ append_assoc between (kept ∷ []) (all_counts rule lost' more)
    ∙ ap₂ (λ k l. between ++ k ∷ all_counts rule l more) ek el
    ∙ ap (λ l. between ++ l) (flag_one rule passed f more)
    ∙ ap₂ (λ b p. b ++ all_counts rule p (f ∷ more)) eb ep
    ∙ append_assoc flags (replicate k false) (all_counts rule (lost_behind rule lost k) (f ∷ more))
    ∙ ap (λ l. flags ++ l) (flags_behind rule lost k (f ∷ more))
    ∙ ap (λ l. flags ++ all_counts rule lost l) (sym step)
    ∙ before

-- the names after one more record
pub one_record : (rule : Rule) (lost passed lost' : Bool) (names names' : Names) (k : ℕ) (here more : List Found) (f : Found) (told : Names)
    → here ≡ replicate k None ++ (f ∷ more)
    → passed ≡ lost_behind rule lost k
    → Same names' (with_found names passed f) → lost' ≡ (passed || (rule.is_prefix && not (counts passed f)))
    → Same (all_edited names (kept_edits rule lost here)) told
    → Same (all_edited names' (kept_edits rule lost' more)) told
one_record rule lost passed lost' names names' k here more f told step ep same el before =
    λ e.
    ap (λ l. all_edited names' (kept_edits rule l more) e) el
    ∙ same_all names' (with_found names passed f) (kept_edits rule (passed || (rule.is_prefix && not (counts passed f))) more) same e
    ∙ ap (λ x. x e) (apply_one rule passed names f more)
    ∙ ap (λ p. all_edited names (kept_edits rule p (f ∷ more)) e) ep
    ∙ ap (λ l. all_edited names l e) (kept_behind rule lost k (f ∷ more))
    ∙ ap (λ l. all_edited names (kept_edits rule lost l) e) (sym step)
    ∙ before e
