-- The numbers of the markers of a pending list, step by step.
use Rattle.std.proofs.Common.{◌≡◌, ⊎_elim, ℕ, zero, suc, ◌+◌, ◌<◌, Bool, true, false, eqb, ◌||◌, List, [], ◌∷◌, ◌++◌, length, get_or, take, drop, position, Some, None, refl, sym, ◌∙◌, ap, ap₂, arith, add-one}
use Rattle.std.proofs.lemmas.List.{take-append-drop}
use Rattle.std.specs.List.{position_from}
use Rattle.std.proofs.lemmas.Bool.{cases_Bool, cond_both, cond-true, cond-false}
use Rattle.std.proofs.lemmas.List.Quantifiers.{position-Some}
use Rattle.std.proofs.lemmas.Iterator.Adapters.{position_from-zero}
use Rattle.blob_model.specs.Log.{has_bare}
use Rattle.blob_model.specs.Pending.{Pending, Waiting, Cut, Again, Marker, is_marker, has_mark, entries_after, finish, cut_by, pared_one}
use Rattle.std.specs.List.{filter}
use Rattle.blob_pending.specs.Views.{is_left}
use Rattle.blob_pending.specs.Marks.{marks_of}

-- the number at i is the first that is sought
marked_at : (m : ℕ) (q : List Pending) (i d : ℕ) → i < length (marks_of q) → eqb (get_or (marks_of q) i d) m ≡ true → ((k : ℕ) → k < i → eqb (get_or (marks_of q) k d) m ≡ false) →
    (has_mark m q ≡ true) × (marks_of (entries_after m q) ≡ drop (suc i) (marks_of q))
marked_at m [] i d h is before = absurd (omega arith)
marked_at m (Waiting n ∷ q) i d h is before = marked_at m q i d h is before
marked_at m (Cut n ∷ q) i d h is before = marked_at m q i d h is before
marked_at m (Again o b ∷ q) i d h is before = marked_at m q i d h is before
marked_at m (Marker j ∷ q) zero d h is before = (ap (λ b. b || has_mark m q) is, ap marks_of (cond-true (eqb j m) q (entries_after m q) is))
marked_at m (Marker j ∷ q) (suc i) d h is before =
    let not_j : eqb j m ≡ false = before 0 (omega arith) in
    let rest = marked_at m q i d (omega (arith, h)) is (λ k l. before (suc k) (omega (arith, l))) in
    (ap₂ (λ (a b : Bool). a || b) not_j rest.0, ap marks_of (cond-false (eqb j m) q (entries_after m q) not_j) ∙ rest.1)

pub finished_marks : (m : ℕ) (q : List Pending) (ms : List ℕ) (i : ℕ) → ms ≡ marks_of q → Some i ≡ position (λ k. eqb k m) ms → drop (i + 1) ms ≡ marks_of (finish m q)
finished_marks m q ms i are at =
    let found = position-Some (λ k. eqb k m) (marks_of q) i 0 (sym (at ∙ ap (position (λ k. eqb k m)) are)) in
    let r = marked_at m q i 0 found.0 found.1 found.2 in
    rw add-one (ap (drop (suc i)) are ∙ sym r.1 ∙ sym (ap marks_of (cond-true (has_mark m q) (entries_after m q) q r.0)))

-- no number is the one that is sought
unmarked : (m : ℕ) (q : List Pending) (i : ℕ) → position_from (λ k. eqb k m) i (marks_of q) ≡ None → has_mark m q ≡ false
unmarked m [] i none = refl
unmarked m (Waiting n ∷ q) i none = unmarked m q i none
unmarked m (Cut n ∷ q) i none = unmarked m q i none
unmarked m (Again o b ∷ q) i none = unmarked m q i none
unmarked m (Marker j ∷ q) i none = ⊎_elim
    (λ yes. let some : position_from (λ k. eqb k m) i (j ∷ marks_of q) ≡ Some i = cond-true (eqb j m) _ _ yes in cc)
    (λ no. ap₂ (λ (a b : Bool). a || b) no (unmarked m q (i + 1) (sym (cond-false (eqb j m) _ _ no) ∙ none)))
    (cases_Bool (eqb j m))

pub finished_none : (m : ℕ) (q : List Pending) (ms : List ℕ) → ms ≡ marks_of q → None ≡ position (λ k. eqb k m) ms → q ≡ finish m q
finished_none m q ms are at =
    sym (cond-false (has_mark m q) (entries_after m q) q (unmarked m q 0 (sym (position_from-zero (λ k. eqb k m) (marks_of q)) ∙ sym (at ∙ ap (position (λ k. eqb k m)) are))))

-- the numbers that it drops, and then those that are left
pub finished_front : (m : ℕ) (q : List Pending) (ms : List ℕ) (i : ℕ) → ms ≡ marks_of q → Some i ≡ position (λ k. eqb k m) ms → take (i + 1) ms ++ marks_of (finish m q) ≡ ms
finished_front m q ms i are at = ap (λ (rest : List ℕ). take (i + 1) ms ++ rest) (sym (finished_marks m q ms i are at)) ∙ take-append-drop (i + 1) ms

pub finished_all : (m : ℕ) (q : List Pending) (ms : List ℕ) → ms ≡ marks_of q → None ≡ position (λ k. eqb k m) ms → take 0 ms ++ marks_of (finish m q) ≡ ms
finished_all m q ms are none = ap marks_of (sym (finished_none m q ms are none)) ∙ sym are

-- one entry more
pub marks-push : (q : List Pending) (e : Pending) → is_marker e ≡ false → marks_of (q ++ e ∷ []) ≡ marks_of q
marks-push [] (Waiting n) other = refl
marks-push [] (Cut n) other = refl
marks-push [] (Again o b) other = refl
marks-push [] (Marker k) other = cc
marks-push (Waiting n ∷ q) e other = marks-push q e other
marks-push (Cut n ∷ q) e other = marks-push q e other
marks-push (Again o b ∷ q) e other = marks-push q e other
marks-push (Marker k ∷ q) e other = ap (λ (ms : List ℕ). k ∷ ms) (marks-push q e other)

pub marks-mark : (q : List Pending) (k : ℕ) → marks_of (q ++ Marker k ∷ []) ≡ marks_of q ++ k ∷ []
marks-mark [] k = refl
marks-mark (Waiting n ∷ q) k = marks-mark q k
marks-mark (Cut n ∷ q) k = marks-mark q k
marks-mark (Again o b ∷ q) k = marks-mark q k
marks-mark (Marker j ∷ q) k = ap (λ (ms : List ℕ). j ∷ ms) (marks-mark q k)

-- a durable range takes no marker
pub marks-cut : (o n : ℕ) (q : List Pending) → marks_of (cut_by o n q) ≡ marks_of q
marks-cut o n [] = refl
marks-cut o n (Waiting m ∷ q) = cond_both (has_bare (pared_one o n m)) (Waiting (pared_one o n m) ∷ cut_by o n q) (cut_by o n q) (λ r. marks_of r ≡ marks_of q) (λ _. marks-cut o n q) (λ _. marks-cut o n q)
marks-cut o n (Cut m ∷ q) = marks-cut o n q
marks-cut o n (Again p b ∷ q) = marks-cut o n q
marks-cut o n (Marker k ∷ q) = ap (λ (ms : List ℕ). k ∷ ms) (marks-cut o n q)

-- one of which nothing is left is no marker
pub marks-left : (q : List Pending) → marks_of (filter is_left q) ≡ marks_of q
marks-left [] = refl
marks-left (Waiting m ∷ q) = cond_both (has_bare m) (Waiting m ∷ filter is_left q) (filter is_left q) (λ r. marks_of r ≡ marks_of q) (λ _. marks-left q) (λ _. marks-left q)
marks-left (Cut n ∷ q) = marks-left q
marks-left (Again o b ∷ q) = marks-left q
marks-left (Marker k ∷ q) = ap (λ (ms : List ℕ). k ∷ ms) (marks-left q)
