-- The test whether one hole is the whole write.
use Rattle.std.proofs.Common.{◌≡◌, ⊎_elim, ℕ, ◌+◌, ◌<◌, ◌≤◌, Bool, true, false, not, List, [], ◌∷◌, length, get_or, eqb, refl, sym, ◌∙◌, ap, ap₂, subst, arith}
use Rattle.std.proofs.lemmas.Bool.{cases_Bool, cases_eq, eq-eqb, ne_eqb}
use Rattle.std.proofs.lemmas.List.{length-map}
use Rattle.blob_model.specs.Log.{Write, has_bare}
use Rattle.blob_model.specs.Holes.{Holes, AreApart, need_in}
use Rattle.blob_model.proofs.Shape.{covered_is, covered_by}
use Rattle.blob_pending.specs.declared.extent.Extent.{Extent}
use Rattle.blob_pending.specs.declared.write.PendingWrite.{PendingWrite}
use Rattle.blob_pending.specs.Ranges.{range_of, ranges}
use Rattle.blob_pending.specs.Views.{write_of}

-- the first pair of a list
front : Holes → ℕ × ℕ → ℕ × ℕ
front [] d = d
front (h ∷ hs) d = h

same_front : (a b : ℕ × ℕ) → ◌≡◌ {A = Holes} (a ∷ []) (b ∷ []) → a ≡ b
unfolding front
same_front a b e = ap (λ (hs : Holes). front hs a) e

bare_unless : (w : Write) (hs : Holes) → 0 < length w.bytes → AreApart w.offset hs (w.offset + length w.bytes) → (hs ≡ (w.offset, w.offset + length w.bytes) ∷ [] → ⊥) → false ≡ not (has_bare (need_in w hs))
bare_unless w hs some a other = ⊎_elim (λ t. ap not (sym t)) (λ f. absurd (other (covered_is w hs some a f))) (cases_Bool (has_bare (need_in w hs)))

one_of : (hs : List Extent) (d : Extent) → 1 ≤ length hs → length hs < 2 → ranges hs ≡ range_of (get_or hs 0 d) ∷ []
one_of [] d h k = absurd (omega arith)
one_of (x ∷ []) d h k = refl
one_of (x ∷ y ∷ hs) d h k = absurd (omega arith)

-- one hole, from the write's start
pub covered_one : (w : Write) (hs : List Extent) (d : Extent) → 0 < length w.bytes → AreApart w.offset (ranges hs) (w.offset + length w.bytes) → 1 ≤ length hs → length hs < 2 → (get_or hs 0 d).start ≡ w.offset →
    eqb (get_or hs 0 d).end (w.offset + length w.bytes) ≡ not (has_bare (need_in w (ranges hs)))
covered_one w hs d some a h k is = ⊎_elim
    (λ e. eq-eqb _ _ e ∙ sym (ap not (ap (λ l. has_bare (need_in w l)) (one_of hs d h k ∙ ap₂ (λ (s z : ℕ). pair s z ∷ []) is e) ∙ covered_by w)))
    (λ ne. ne_eqb _ _ ne ∙ bare_unless w (ranges hs) some a (λ e. ne (ap (λ (p : ℕ × ℕ). p.1) (same_front _ _ (sym (one_of hs d h k) ∙ e)))))
    (cases_eq (get_or hs 0 d).end (w.offset + length w.bytes))
  where
    pair : ℕ → ℕ → ℕ × ℕ
    pair s z = (s, z)

-- one that starts elsewhere
pub covered_not : (w : Write) (hs : List Extent) (d : Extent) → 0 < length w.bytes → AreApart w.offset (ranges hs) (w.offset + length w.bytes) → 1 ≤ length hs → length hs < 2 → ((get_or hs 0 d).start ≡ w.offset → ⊥) →
    eqb (get_or hs 0 d).start w.offset ≡ not (has_bare (need_in w (ranges hs)))
covered_not w hs d some a h k isnt = ne_eqb _ _ isnt ∙ bare_unless w (ranges hs) some a (λ e. isnt (ap (λ (p : ℕ × ℕ). p.0) (same_front _ _ (sym (one_of hs d h k) ∙ e))))

-- none, or more than one
pub covered_other : (w : Write) (hs : List Extent) → 0 < length w.bytes → AreApart w.offset (ranges hs) (w.offset + length w.bytes) → (length hs ≡ 1 → ⊥) → false ≡ not (has_bare (need_in w (ranges hs)))
covered_other w hs some a other = bare_unless w (ranges hs) some a (λ e. other (sym (length-map hs range_of) ∙ ap length e))

-- no hole at all
pub whole_left : (w : PendingWrite) → w.holes.items ≡ [] → has_bare (need_in (write_of w) (ranges w.holes.items)) ≡ true
whole_left w none = ⊎_elim
    (λ y. y)
    (λ n. let one = covered_is (write_of w) (ranges w.holes.items) w.some w.apart n in let no = ap ranges none in absurd (cc))
    (cases_Bool (has_bare (need_in (write_of w) (ranges w.holes.items))))

-- the same over a copy of the list, as a slice gives it, and an end that is told otherwise
AreHoles : Write → List Extent → Type 0
AreHoles w hs = AreApart w.offset (ranges hs) (w.offset + length w.bytes)

over : (w : Write) (xs hs : List Extent) (b : Bool) → xs ≡ hs → b ≡ not (has_bare (need_in w (ranges xs))) → b ≡ not (has_bare (need_in w (ranges hs)))
over w xs hs b v e = e ∙ ap (λ l. not (has_bare (need_in w (ranges l)))) v

pub slice_one : (w : Write) (xs hs : List Extent) (d : Extent) (end : ℕ) → 0 < length w.bytes → AreApart w.offset (ranges hs) (w.offset + length w.bytes) → xs ≡ hs → end ≡ w.offset + length w.bytes → 1 ≤ length xs → length xs < 2 → (get_or xs 0 d).start ≡ w.offset →
    eqb (get_or xs 0 d).end end ≡ not (has_bare (need_in w (ranges hs)))
unfolding AreHoles
slice_one w xs hs d end some a v e h k is = ap (λ n. eqb (get_or xs 0 d).end n) e ∙ over w xs hs _ v (covered_one w xs d some (subst (λ (l : List Extent). AreHoles w l) (sym v) a) h k is)

pub slice_not : (w : Write) (xs hs : List Extent) (d : Extent) → 0 < length w.bytes → AreApart w.offset (ranges hs) (w.offset + length w.bytes) → xs ≡ hs → 1 ≤ length xs → length xs < 2 → ((get_or xs 0 d).start ≡ w.offset → ⊥) →
    eqb (get_or xs 0 d).start w.offset ≡ not (has_bare (need_in w (ranges hs)))
unfolding AreHoles
slice_not w xs hs d some a v h k isnt = over w xs hs _ v (covered_not w xs d some (subst (λ (l : List Extent). AreHoles w l) (sym v) a) h k isnt)

pub slice_other : (w : Write) (xs hs : List Extent) → 0 < length w.bytes → AreApart w.offset (ranges hs) (w.offset + length w.bytes) → xs ≡ hs → 2 ≤ length xs → false ≡ not (has_bare (need_in w (ranges hs)))
slice_other w xs hs some a v h = covered_other w hs some a (λ e. let l = ap length v in absurd (omega arith))
