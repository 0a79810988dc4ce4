-- The edits that may be found of a journal are those that it was told, without some that nothing settled.
use Rattle.std.proofs.Common.{◌≡◌, ℕ, zero, suc, ◌+◌, Bool, true, false, ◌||◌, List, [], ◌∷◌, ◌++◌, Some, None, get_or, is_some, map, refl, sym, ◌∙◌, ap, ap₂, arith}
use Rattle.std.specs.Prelude.{replicate, not, if◌then◌else◌}
use Rattle.blob_packed.specs.Losses as losses
use Rattle.blob_packed.specs.Losses.{HasThese}
use Rattle.blob_packed.specs.Records.{Record, found_from}
use Rattle.blob_packed.specs.Records as packed
use Rattle.blob_directory.specs.Names.{Edit}
use Rattle.blob_directory.specs.Profiles.{Rule, edits_of, kept_edits, with_seen}
use Rattle.blob_directory.specs.Records.{Found, edit_found, edit_told, found_in, has_edit}
use Rattle.blob_directory.proofs.Rules.{seen_before}
use Rattle.blob_journal.specs.Told.{after_loss, edits_kept}
use Rattle.blob_journal.proofs.Records.{told_of}

-- those of the edits that were found
pub chosen_of : List Found → ℕ → Bool
chosen_of found n = is_some (get_or found n None)

-- what is left of an edit
abbrev left_of : Bool → Found → Found
left_of chosen None = None
left_of chosen (Some (edit, settled)) = if settled || chosen then Some (edit, settled) else None

loses_one : (f : ℕ → Bool) (n : ℕ) (found : Found) (told : List Found) → after_loss f n (found ∷ told) ≡ left_of (f n) found ∷ after_loss f (suc n) told
loses_one f n None told = refl
loses_one f n (Some (edit, settled)) told = refl

-- The edits of the records that are left.

abbrev one_if : Bool → Edit → Bool → Found
one_if has edit settled = if has then Some (edit, settled) else None

edit_left : (has kept : Bool) (edit : Edit) (settled : Bool) → (if kept then one_if has edit settled else None) ≡ (if has then one_if kept edit settled else None)
edit_left true true edit settled = refl
edit_left true false edit settled = refl
edit_left false true edit settled = refl
edit_left false false edit settled = refl

of_record : (kept : Bool) (r : Record) → edit_found (if kept then Some r else None) ≡ (if kept then edit_found (Some r) else None)
of_record true r = refl
of_record false r = refl

of_edit : (has chosen : Bool) (edit : Edit) (settled : Bool) → (if has then one_if (settled || chosen) edit settled else None) ≡ left_of chosen (one_if has edit settled)
of_edit true chosen edit settled = refl
of_edit false chosen edit settled = refl

one_left : (chosen : Bool) (r : Record) → edit_found (if r.1 || chosen then Some r else None) ≡ left_of chosen (edit_found (Some r))
one_left chosen r = of_record (r.1 || chosen) r ∙ edit_left (has_edit r.0) (r.1 || chosen) (edit_told r.0) r.1 ∙ of_edit (has_edit r.0) chosen (edit_told r.0) r.1

all_left : (f : ℕ → Bool) (n : ℕ) (rs : List Record) → map edit_found (losses.after_loss f n rs) ≡ after_loss f n (told_of rs)
all_left f n [] = refl
all_left f n (r ∷ rs) = ap₂ (λ (x : Found) (l : List Found). x ∷ l) (one_left (f n) r) (all_left f (suc n) rs) ∙ sym (loses_one f n (edit_found (Some r)) (told_of rs))

-- lost ones behind the last that was found
with_lost : (found : List packed.Found) (last : ℕ) → map edit_found (found ++ replicate last None) ≡ map edit_found found ++ replicate last None
with_lost [] zero = refl
with_lost [] (suc last) = ap (λ (l : List Found). None ∷ l) (with_lost [] last)
with_lost (x ∷ found) last = ap (λ (l : List Found). edit_found x ∷ l) (with_lost found last)

kept_before : (rule : Rule) (lost : Bool) (found : List Found) (last : ℕ) → kept_edits rule lost (found ++ replicate last None) ≡ kept_edits rule lost found
kept_before rule lost [] zero = refl
kept_before rule lost [] (suc last) = kept_before rule (lost || rule.is_prefix) [] last
kept_before rule lost (None ∷ found) last = kept_before rule (lost || rule.is_prefix) found last
kept_before rule lost (Some (edit, settled) ∷ found) last =
    ap (λ (l : List Edit). if settled || not lost then edit ∷ l else l) (kept_before rule lost found last)

-- The same is lost if the choice is of those that were found.

same_left : (f : Found) (chosen picked : Bool) (left : Found) → left ≡ left_of chosen f → picked ≡ is_some left → left_of picked f ≡ left_of chosen f
same_left None chosen picked left is same = refl
same_left (Some (edit, true)) chosen picked left is same = refl
same_left (Some (edit, false)) true picked left is same = ap (λ (b : Bool). left_of b (Some (edit, false))) (same ∙ ap is_some is)
same_left (Some (edit, false)) false picked left is same = ap (λ (b : Bool). left_of b (Some (edit, false))) (same ∙ ap is_some is)

parts : (x y : Found) (xs ys : List Found) → x ∷ xs ≡ y ∷ ys → (x ≡ y) × (xs ≡ ys)
parts x y xs ys is = (cc, cc)

none_left : (x : Found) (xs : List Found) → [] ≡ x ∷ xs → ⊥
none_left x xs is = cc

same_lost : (f pick : ℕ → Bool) (n last : ℕ) (found told : List Found) → found ++ replicate last None ≡ after_loss f n told → ((i : ℕ) → pick (n + i) ≡ is_some (get_or found i None))
    → after_loss pick n told ≡ after_loss f n told
same_lost f pick n last found [] is picks = refl
same_lost f pick n zero [] (x ∷ told) is picks = absurd (none_left (left_of (f n) x) (after_loss f (suc n) told) (is ∙ loses_one f n x told))
same_lost f pick n (suc last) [] (x ∷ told) is picks =
    let both = parts None (left_of (f n) x) (replicate last None) (after_loss f (suc n) told) (is ∙ loses_one f n x told) in
    loses_one pick n x told
    ∙ ap₂ (λ (a : Found) (l : List Found). a ∷ l)
    (same_left x (f n) (pick n) None both.0 (ap pick (omega arith) ∙ picks 0))
    (same_lost f pick (suc n) last [] told both.1 (λ i. ap pick (omega arith) ∙ picks (suc i)))
    ∙ sym (loses_one f n x told)
same_lost f pick n last (y ∷ found) (x ∷ told) is picks =
    let both = parts y (left_of (f n) x) (found ++ replicate last None) (after_loss f (suc n) told) (is ∙ loses_one f n x told) in
    loses_one pick n x told
    ∙ ap₂ (λ (a : Found) (l : List Found). a ∷ l)
    (same_left x (f n) (pick n) y both.0 (ap pick (omega arith) ∙ picks 0))
    (same_lost f pick (suc n) last found told both.1 (λ i. ap pick (omega arith) ∙ picks (suc i)))
    ∙ sym (loses_one f n x told)

-- the edits that count of bytes that may be found
pub found_edits : (rule : Rule) (rs : List Record) (bytes : List ℕ) → HasThese rs bytes → edits_of rule bytes ≡ edits_kept rule (chosen_of (found_in bytes)) (told_of rs)
unfolding chosen_of
found_edits rule rs bytes h =
    let found : List Found = found_in bytes in
    let all : found ++ replicate h.last None ≡ after_loss h.chosen 0 (told_of rs) =
    sym (with_lost (found_from 0 bytes) h.last) ∙ ap (map edit_found) h.is ∙ all_left h.chosen 0 rs in
    sym (kept_before rule false (with_seen rule false 0 found) h.last)
    ∙ ap (kept_edits rule false) (sym (seen_before rule false 0 h.last found))
    ∙ ap (λ (l : List Found). kept_edits rule false (with_seen rule false 0 l)) (all ∙ sym (same_lost h.chosen (chosen_of found) 0 h.last found (told_of rs) all (λ i. ap (chosen_of found) (omega arith))))
