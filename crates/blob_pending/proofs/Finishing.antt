-- A started sync is finished: what its marker's place in a list says.
use Rattle.std.proofs.Common.{◌≡◌, ℕ, zero, suc, ◌+◌, ◌<◌, ◌≤◌, Bool, true, false, List, [], ◌∷◌, length, get_or, drop, sym, ◌∙◌, refl, ap, ap₂, arith, add-one, ◌||◌}
use Rattle.std.proofs.lemmas.Bool.{cond-true, cond-false}
use Rattle.blob_model.specs.Pending.{finish, is_mark, has_mark, entries_after}
use Rattle.blob_pending.specs.declared.entry.Entry.{Entry}
use Rattle.blob_pending.specs.Views.{view, views}

-- the marker at i is the first
marks_at : (m : ℕ) (q : List Entry) (i : ℕ) (d : Entry) → ((k : ℕ) (e : Entry) → k < i → is_mark m (view (get_or q k e)) ≡ false) → i < length q → is_mark m (view (get_or q i d)) ≡ true →
    (has_mark m (views q) ≡ true) × (entries_after m (views q) ≡ views (drop (suc i) q))
marks_at m [] i d before h is = absurd (omega arith)
marks_at m (x ∷ q) zero d before h is = (ap (λ b. b || has_mark m (views q)) is, cond-true (is_mark m (view x)) _ _ is)
marks_at m (x ∷ q) (suc i) d before h is =
    let ih = marks_at m q i d (λ k e l. before (suc k) e (omega arith)) (omega arith) is in
    let not_x = before 0 x (omega arith) in
    (ap₂ (λ (a b : Bool). a || b) not_x ih.0, cond-false (is_mark m (view x)) _ _ not_x ∙ ih.1)

pub finished_at : (m : ℕ) (q : List Entry) (i : ℕ) (d : Entry) → ((k : ℕ) (e : Entry) → k < i → is_mark m (view (get_or q k e)) ≡ false) → i < length q → is_mark m (view (get_or q i d)) ≡ true → views (drop (i + 1) q) ≡ finish m (views q)
finished_at m q i d before h is = let r = marks_at m q i d before h is in rw add-one (sym (cond-true (has_mark m (views q)) _ _ r.0 ∙ r.1))

no_mark : (m : ℕ) (q : List Entry) (i : ℕ) → length q ≤ i → ((k : ℕ) (e : Entry) → k < i → is_mark m (view (get_or q k e)) ≡ false) → has_mark m (views q) ≡ false
no_mark m [] i l before = refl
no_mark m (x ∷ q) zero l before = absurd (omega arith)
no_mark m (x ∷ q) (suc i) l before = ap₂ (λ (a b : Bool). a || b) (before 0 x (omega arith)) (no_mark m q i (omega arith) (λ k e h. before (suc k) e (omega arith)))

pub finished_not : (m : ℕ) (q : List Entry) (i : ℕ) → length q ≤ i → ((k : ℕ) (e : Entry) → k < i → is_mark m (view (get_or q k e)) ≡ false) → views q ≡ finish m (views q)
finished_not m q i l before = sym (cond-false (has_mark m (views q)) _ _ (no_mark m q i l before))
