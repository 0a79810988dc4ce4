-- One more hole in a sorted list.
use Rattle.std.proofs.Common.{◌≡◌, ℕ, zero, suc, ◌+◌, ◌<◌, ◌≤◌, min, max, ltb, List, [], ◌∷◌, ◌++◌, length, get_or, take, drop, refl, sym, ◌∙◌, ap, arith}
use Rattle.std.proofs.lemmas.Bool.{cond-true, cond-false, lt-ltb, le-ltb}
use Rattle.std.proofs.lemmas.List.{at_drop_more, at_drop_all}
use Rattle.std.specs.List.Sorted.{IsNonDecreasingBy}
use Rattle.blob_model.specs.Holes.{Holes, AreApart, with_hole}
use Rattle.blob_pending.specs.declared.extent.Extent.{Extent}
use Rattle.blob_pending.specs.Ranges.{range_of, ranges}

-- separate and sorted holes end one after another
ends_after : (from : ℕ) (hs : List Extent) (end : ℕ) → AreApart from (ranges hs) end → (k : ℕ) (d : Extent) → k < length hs → from ≤ (get_or hs k d).end
ends_after from [] end a k d l = absurd (omega arith)
ends_after from (h ∷ hs) end a zero d l = omega (arith, a.0, a.1)
ends_after from (h ∷ hs) end a (suc k) d l = omega (arith, a.0, a.1, ends_after (suc h.end) hs end a.3 k d (omega arith))

pub ends_rise : (from : ℕ) (hs : List Extent) (end : ℕ) → AreApart from (ranges hs) end → IsNonDecreasingBy (λ (h : Extent). h.end) hs
ends_rise from [] end a i j d l h = absurd (omega arith)
ends_rise from (h ∷ hs) end a zero zero d l m = omega arith
ends_rise from (h ∷ hs) end a zero (suc j) d l m = omega (arith, ends_after (suc h.end) hs end a.3 j d (omega arith))
ends_rise from (h ∷ hs) end a (suc i) zero d l m = absurd (omega arith)
ends_rise from (h ∷ hs) end a (suc i) (suc j) d l m = ends_rise (suc h.end) hs end a.3 i j d (omega arith) (omega arith)

-- those that end before the range stay before it
pub before_hole : (start end : ℕ) (hs : List Extent) (i : ℕ) → ((k : ℕ) (d : Extent) → k < length hs → k < i → (get_or hs k d).end < start) → with_hole start end (ranges hs) ≡ ranges (take i hs) ++ with_hole start end (ranges (drop i hs))
before_hole start end hs zero below = refl
before_hole start end [] (suc i) below = refl
before_hole start end (h ∷ hs) (suc i) below =
    cond-true (ltb h.end start) _ _ (lt-ltb _ _ (below 0 h (omega arith) (omega arith)))
    ∙ ap (λ (r : Holes). range_of h ∷ r) (before_hole start end hs i (λ k d l m. below (suc k) d (omega arith) (omega arith)))

-- one that the range overlaps or touches joins it
pub joined_hole : (start end : ℕ) (hs : List Extent) (i : ℕ) (h : Extent) → i < length hs → h ≡ get_or hs i h → start ≤ h.end → h.start ≤ end →
    with_hole start end (ranges (drop i hs)) ≡ with_hole (min start h.start) (max end h.end) (ranges (drop (i + 1) hs))
joined_hole start end hs i h inside at low high =
    at_drop_more (λ (l : List Extent). with_hole start end (ranges l)) hs i h inside
    ∙ ap (λ (x : Extent). with_hole start end (ranges (x ∷ drop (i + 1) hs))) (sym at)
    ∙ cond-false (ltb h.end start) _ _ (le-ltb _ _ low) ∙ cond-false (ltb end h.start) _ _ (le-ltb _ _ high)

-- one that begins after the range stays after it
pub after_hole : (start end : ℕ) (hs : List Extent) (i : ℕ) (h : Extent) → i < length hs → h ≡ get_or hs i h → start ≤ h.end → end < h.start →
    with_hole start end (ranges (drop i hs)) ≡ (start, end) ∷ ranges (drop i hs)
after_hole start end hs i h inside at low high =
    let more : with_hole start end (ranges (drop i hs)) ≡ with_hole start end (ranges (h ∷ drop (i + 1) hs)) = at_drop_more (λ (l : List Extent). with_hole start end (ranges l)) hs i h inside ∙ ap (λ (x : Extent). with_hole start end (ranges (x ∷ drop (i + 1) hs))) (sym at) in
    let same : ranges (h ∷ drop (i + 1) hs) ≡ ranges (drop i hs) = ap (λ (x : Extent). ranges (x ∷ drop (i + 1) hs)) at ∙ sym (at_drop_more (λ (l : List Extent). ranges l) hs i h inside) in
    more ∙ cond-false (ltb h.end start) _ _ (le-ltb _ _ low) ∙ cond-true (ltb end h.start) _ _ (lt-ltb _ _ high) ∙ ap (λ (r : Holes). (start, end) ∷ r) same

pub last_hole : (start end : ℕ) (hs : List Extent) (i : ℕ) → length hs ≤ i → with_hole start end (ranges (drop i hs)) ≡ (start, end) ∷ ranges (drop i hs)
last_hole start end hs i past = at_drop_all (λ (l : List Extent). with_hole start end (ranges l)) hs i past ∙ ap (λ (r : Holes). (start, end) ∷ r) (sym (at_drop_all (λ (l : List Extent). ranges l) hs i past))
