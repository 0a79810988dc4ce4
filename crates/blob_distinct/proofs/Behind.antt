-- The shared text before that of each outcome.
use Rattle.std.proofs.Common.{◌≡◌, ◌<◌, ◌-◌, ◌^◌, ℕ, arith, Bool, true, false, List, [], ◌∷◌, ◌++◌, length, map, refl, sym, ap, ◌∙◌, subst}
use Rattle.std.specs.Str.{bytes_eq}
use Rattle.std.proofs.lemmas.List.{length-map}
use Rattle.blob_distinct.specs.Distinct.{CountsFit, Distinct, LeafText, behind, leaf_text, outcomes_of, with_leaf}
use Rattle.blob_distinct.specs.Printed.{end_text, found_text, leaves_text}
use Rattle.blob_distinct.proofs.Distinct.{counts_fit, one_more}

same_behind : (front a b : List ℕ) → bytes_eq (front ++ a) (front ++ b) ≡ bytes_eq a b
same_behind [] a b = refl
same_behind (x ∷ front) a b = grind (arith, same_behind front a b)

with_behind : (front words text : List ℕ) (os : List Distinct) → map (behind front) (with_leaf os (leaf_text words text)) ≡ with_leaf (map (behind front) os) (leaf_text words (front ++ text))
with_behind front words text [] = refl
with_behind front words text (o ∷ os) = by (bytes_eq text o.text) refl (with_behind front words text os)
  where
    by : (b : Bool) → bytes_eq text o.text ≡ b → map (behind front) (with_leaf os (leaf_text words text)) ≡ with_leaf (map (behind front) os) (leaf_text words (front ++ text))
        → map (behind front) (with_leaf (o ∷ os) (leaf_text words text)) ≡ with_leaf (map (behind front) (o ∷ os)) (leaf_text words (front ++ text))
    by true e rest = let same = same_behind front text o.text in grind arith
    by false e rest = let same = same_behind front text o.text in grind arith

fit_behind : (front : List ℕ) (os : List Distinct) → CountsFit (map (behind front) os) → CountsFit os
fit_behind front [] fit = fit
fit_behind front (o ∷ os) fit = (fit.0, fit_behind front os fit.1)

-- one more leaf
adds_behind : (front words text : List ℕ) (old new : List Distinct) → (CountsFit old → new ≡ with_leaf old (leaf_text words text))
    → CountsFit (map (behind front) old) → map (behind front) new ≡ with_leaf (map (behind front) old) (leaf_text words (front ++ text))
adds_behind front words text old new adds fit = ap (map (behind front)) (adds (fit_behind front old fit)) ∙ with_behind front words text old

pub same_end : (front : List ℕ) (os : List Distinct) (leaves : ℕ) (is_complete : Bool) → end_text os leaves is_complete ≡ end_text (map (behind front) os) leaves is_complete
same_end front os leaves is_complete =
    ap (λ (n : ℕ). leaves_text leaves ++ found_text n is_complete) (sym (length-map os (behind front)))

-- the outcomes of some leaves and one more
pub counts_more : (front words text : List ℕ) (old new : List Distinct) (leaves : List LeafText) → (CountsFit old → new ≡ with_leaf old (leaf_text words text)) → map (behind front) old ≡ outcomes_of leaves
    → length leaves < 2 ^ 64 - 1 → map (behind front) new ≡ outcomes_of (leaves ++ leaf_text words (front ++ text) ∷ [])
counts_more front words text old new leaves adds before few =
    let leaf : LeafText = leaf_text words (front ++ text) in
    let fit : CountsFit (map (behind front) old) = subst CountsFit (sym before) (counts_fit (2 ^ 64 - 1) leaves few) in
    adds_behind front words text old new adds fit ∙ ap (λ (os : List Distinct). with_leaf os leaf) before ∙ sym (one_more leaves leaf)
