-- Lists without the entries of which nothing is left.
use Rattle.std.proofs.Common.{◌≡◌, ⊎_elim, ℕ, zero, suc, eqb, max, Bool, true, false, cond, not, ◌&&◌, ◌||◌, List, [], ◌∷◌, ◌++◌, map, length, get_or, drop, set, refl, sym, ◌∙◌, ap, ap₂, subst, ◌+◌, ◌<◌, ◌≤◌, arith}
use Rattle.std.specs.List.{filter}
use Rattle.std.proofs.lemmas.Bool.{cases_Bool, cond_both, cond-true, cond-false}
use Rattle.std.proofs.lemmas.List.{at_drop_more, length-append}
use Rattle.std.proofs.lemmas.List.Elements.{filter-append}
use Rattle.blob_model.specs.Bytes.{lies}
use Rattle.blob_model.specs.Log.{has_bare}
use Rattle.blob_model.specs.Pending.{Pending, Waiting, Cut, Again, Marker, is_marker, has_marker, has_barrier, has_mark, is_mark, entries_after, finish, cut_by, pared_one}
use Rattle.blob_model.proofs.Needs.{fewer_at}
use Rattle.blob_pending.specs.Marks.{marks_of}
use Rattle.blob_pending.specs.Replays.{unmarked}
use Rattle.blob_pending.specs.Views.{view, pared_by, is_left, left_in, CountsCovered}
use Rattle.blob_pending.specs.declared.entry.Entry.{Entry}
use Rattle.blob_pending.proofs.Bounded.{barrier_cut}
use Rattle.blob_pending.proofs.Marking.{marks-cut, marks-left}
use Rattle.blob_pending.proofs.Unmarked.{unmarked_all}

-- such an entry is no barrier and no marker
pub barrier_left : (q : List Pending) → has_barrier (filter is_left q) ≡ has_barrier q
barrier_left [] = refl
barrier_left (Waiting m ∷ q) = cond_both (has_bare m) (Waiting m ∷ filter is_left q) (filter is_left q) (λ r. has_barrier r ≡ has_barrier q) (λ _. barrier_left q) (λ _. barrier_left q)
barrier_left (Cut n ∷ q) = refl
barrier_left (Again o b ∷ q) = refl
barrier_left (Marker k ∷ q) = barrier_left q

marker_left : (q : List Pending) → has_marker (filter is_left q) ≡ has_marker q
marker_left [] = refl
marker_left (Waiting m ∷ q) = cond_both (has_bare m) (Waiting m ∷ filter is_left q) (filter is_left q) (λ r. has_marker r ≡ has_marker q) (λ _. marker_left q) (λ _. marker_left q)
marker_left (Cut n ∷ q) = marker_left q
marker_left (Again o b ∷ q) = marker_left q
marker_left (Marker k ∷ q) = refl

mark_left : (k : ℕ) (q : List Pending) → has_mark k (filter is_left q) ≡ has_mark k q
mark_left k [] = refl
mark_left k (Waiting m ∷ q) = cond_both (has_bare m) (Waiting m ∷ filter is_left q) (filter is_left q) (λ r. has_mark k r ≡ has_mark k q) (λ _. mark_left k q) (λ _. mark_left k q)
mark_left k (Cut n ∷ q) = mark_left k q
mark_left k (Again o b ∷ q) = mark_left k q
mark_left k (Marker j ∷ q) = ap (λ (b : Bool). eqb j k || b) (mark_left k q)

behind_left : (k : ℕ) (q : List Pending) → entries_after k (filter is_left q) ≡ filter is_left (entries_after k q)
behind_left k [] = refl
behind_left k (Waiting m ∷ q) = cond_both (has_bare m) (Waiting m ∷ filter is_left q) (filter is_left q) (λ r. entries_after k r ≡ filter is_left (entries_after k q)) (λ _. behind_left k q) (λ _. behind_left k q)
behind_left k (Cut n ∷ q) = behind_left k q
behind_left k (Again o b ∷ q) = behind_left k q
behind_left k (Marker j ∷ q) = cond_both (eqb j k) q (entries_after k q) (λ r. cond (eqb j k) (filter is_left q) (entries_after k (filter is_left q)) ≡ filter is_left r)
    (λ y. cond-true (eqb j k) _ _ y) (λ n. cond-false (eqb j k) _ _ n ∙ behind_left k q)

-- a started sync is finished
pub finished_left : (k : ℕ) (q : List Pending) → finish k (filter is_left q) ≡ filter is_left (finish k q)
finished_left k q =
    ap₂ (λ (b : Bool) (r : List Pending). cond b r (filter is_left q)) (mark_left k q) (behind_left k q)
    ∙ cond_both (has_mark k q) (entries_after k q) q (λ r. cond (has_mark k q) (filter is_left (entries_after k q)) (filter is_left q) ≡ filter is_left r) (λ y. cond-true (has_mark k q) _ _ y) (λ n. cond-false (has_mark k q) _ _ n)

-- those behind the last marker
pub unmarked_left : (q : List Pending) → unmarked (filter is_left q) ≡ filter is_left (unmarked q)
unmarked_left [] = refl
unmarked_left (e ∷ q) = ⊎_elim
    (λ y. let rest : unmarked (filter is_left q) ≡ filter is_left (unmarked (e ∷ q)) = unmarked_left q ∙ ap (filter is_left) (sym (cond-true (has_marker (e ∷ q)) (unmarked q) (e ∷ q) y)) in
    cond_both (is_left e) (e ∷ filter is_left q) (filter is_left q) (λ r. unmarked r ≡ filter is_left (unmarked (e ∷ q)))
    (λ _. cond-true (has_marker (e ∷ filter is_left q)) _ _ (ap (λ (b : Bool). is_marker e || b) (marker_left q) ∙ y) ∙ rest)
    (λ _. rest))
    (λ n. unmarked_all (filter is_left (e ∷ q)) (marker_left (e ∷ q) ∙ n) ∙ ap (filter is_left) (sym (unmarked_all (e ∷ q) n)))
    (cases_Bool (has_marker (e ∷ q)))

-- a durable range
pub cut_left : (o n : ℕ) (q : List Pending) → cut_by o n (filter is_left q) ≡ filter is_left (map (pared_by o n) q)
cut_left o n [] = refl
cut_left o n (Waiting m ∷ q) =
    let later : List Pending = filter is_left (map (pared_by o n) q) in
    cond_both (has_bare m) (Waiting m ∷ filter is_left q) (filter is_left q) (λ r. cut_by o n r ≡ cond (has_bare (pared_one o n m)) (Waiting (pared_one o n m) ∷ later) later)
    (λ _. ap (λ (r : List Pending). cond (has_bare (pared_one o n m)) (Waiting (pared_one o n m) ∷ r) r) (cut_left o n q))
    (λ none. cut_left o n q ∙ sym (cond-false (has_bare (pared_one o n m)) _ _ (fewer_at m.write.offset (length m.write.bytes) m.bare (λ p. not (lies o n p)) none)))
cut_left o n (Cut m ∷ q) = ap (λ (r : List Pending). Cut m ∷ r) (cut_left o n q)
cut_left o n (Again p b ∷ q) = ap (λ (r : List Pending). Again p b ∷ r) (cut_left o n q)
cut_left o n (Marker k ∷ q) = ap (λ (r : List Pending). Marker k ∷ r) (cut_left o n q)

-- once more, nothing goes
pub left_again : (q : List Pending) → filter is_left (filter is_left q) ≡ filter is_left q
left_again [] = refl
left_again (e ∷ q) = cond_both (is_left e) (e ∷ filter is_left q) (filter is_left q) (λ r. filter is_left r ≡ r)
    (λ y. cond-true (is_left e) _ _ y ∙ ap (λ (r : List Pending). e ∷ r) (left_again q)) (λ _. left_again q)

-- one entry further
left_more : {X : Type 0} (F : List Pending → X) (q : List Entry) (i : ℕ) (d : Entry) → i < length q → F (left_in (drop i q)) ≡ F (left_in (get_or q i d ∷ drop (i + 1) q))
left_more F q i d h = at_drop_more (λ (l : List Entry). F (left_in l)) q i d h

-- a greatest number over entries: that of an entry and of those behind it
module _ (of : Pending → ℕ) (most : List Pending → ℕ) (of_none : most [] ≡ 0) (of_more : (e : Pending) (r : List Pending) → most (e ∷ r) ≡ max (of e) (most r)) where
  of_two : (e : Pending) (r : List Pending) → most (cond (is_left e) (e ∷ r) r) ≡ max (most (cond (is_left e) (e ∷ []) [])) (most r)
  of_two e r = cond_both (is_left e) (e ∷ []) [] (λ l. most (cond (is_left e) (e ∷ r) r) ≡ max (most l) (most r))
      (λ y. ap most (cond-true (is_left e) (e ∷ r) r y) ∙ omega (arith, of_none, of_more e r, of_more e [])) (λ n. ap most (cond-false (is_left e) (e ∷ r) r n) ∙ omega (arith, of_none))

  pub greatest_more : (q : List Entry) (i : ℕ) (d : Entry) → i < length q → most (left_in (drop i q)) ≡ max (most (left_in (get_or q i d ∷ []))) (most (left_in (drop (i + 1) q)))
  greatest_more q i d h = left_more most q i d h ∙ of_two (view (get_or q i d)) (left_in (drop (i + 1) q))

-- the greatest so far, one further
pub greatest : (before one now rest later all : ℕ) → now ≡ max before one → rest ≡ max one later → max before rest ≡ all → max now later ≡ all
greatest before one now rest later all is more so_far = omega arith

-- a durable range, and those may go of which nothing is left
compacted_is : (old cut new : List Pending) (o n : ℕ) → cut ≡ map (pared_by o n) old → filter is_left new ≡ filter is_left cut → filter is_left new ≡ cut_by o n (filter is_left old)
compacted_is old cut new o n is same = same ∙ ap (λ (r : List Pending). filter is_left r) is ∙ sym (cut_left o n old)

pub compacted_barrier : (old cut new : List Pending) (o n : ℕ) → cut ≡ map (pared_by o n) old → filter is_left new ≡ filter is_left cut → has_barrier new ≡ has_barrier old
compacted_barrier old cut new o n is same =
    sym (barrier_left new) ∙ ap has_barrier (compacted_is old cut new o n is same) ∙ barrier_cut o n (filter is_left old) ∙ barrier_left old

pub compacted_marks : (old cut new : List Pending) (o n : ℕ) → cut ≡ map (pared_by o n) old → filter is_left new ≡ filter is_left cut → marks_of new ≡ marks_of old
compacted_marks old cut new o n is same =
    sym (marks-left new) ∙ ap marks_of (compacted_is old cut new o n is same) ∙ marks-cut o n (filter is_left old) ∙ marks-left old

-- how many are left, an entry before others
abbrev pub bit : Bool → ℕ
bit b = cond b 1 0

pub left_size : (e : Pending) (r : List Pending) → length (cond (is_left e) (e ∷ r) r) ≡ bit (is_left e) + length r
left_size e r = cond_both (is_left e) (e ∷ r) r (λ l. length l ≡ bit (is_left e) + length r)
    (λ y. let one = cond-true {A = ℕ} (is_left e) 1 0 y in omega (arith, one)) (λ n. let none = cond-false {A = ℕ} (is_left e) 1 0 n in omega (arith, none))

pub bit_le : (b : Bool) → bit b ≤ 1
bit_le true = omega arith
bit_le false = omega arith

-- where an entry is written, and it is told whether nothing is left of it now
bits : (a b r : Bool) (n : ℕ) → r ≡ (a && not b) → bit a + n ≤ bit b + n + bit r
bits a b r n is = subst (λ (x : Bool). bit a + n ≤ bit b + n + bit x) (sym is) (go a b)
  where
    go : (a b : Bool) → bit a + n ≤ bit b + n + bit (a && not b)
    go true true = omega arith
    go true false = omega arith
    go false true = omega arith
    go false false = omega arith

pub set_left : (q : List Entry) (i : ℕ) (d e : Entry) (r : Bool) → i < length q → r ≡ (is_left (view (get_or q i d)) && not (is_left (view e))) → length (left_in q) ≤ length (left_in (set q i e)) + cond r 1 0
set_left [] i d e r h is = absurd (omega arith)
set_left (x ∷ q) zero d e r h is = omega (arith, left_size (view x) (left_in q), left_size (view e) (left_in q), bits (is_left (view x)) (is_left (view e)) r (length (left_in q)) is)
set_left (x ∷ q) (suc i) d e r h is = omega (arith, left_size (view x) (left_in q), left_size (view x) (left_in (set q i e)), set_left q i d e r (omega arith) is)

-- where the first goes
counts_rest : (n : ℕ) (e : Pending) (q : List Pending) → CountsCovered n (e ∷ q) → CountsCovered n q
counts_rest n e q h = omega (arith, h, left_size e (filter is_left q), bit_le (is_left e))

counts_behind : (n k : ℕ) (q : List Pending) → CountsCovered n q → CountsCovered n (entries_after k q)
counts_behind n k [] h = h
counts_behind n k (e ∷ q) h = cond_both (is_mark k e) q (entries_after k q) (λ r. CountsCovered n r) (λ _. counts_rest n e q h) (λ _. counts_behind n k q (counts_rest n e q h))

pub counts_finished : (n k : ℕ) (q : List Pending) → CountsCovered n q → CountsCovered n (finish k q)
counts_finished n k q h = cond_both (has_mark k q) (entries_after k q) q (λ r. CountsCovered n r) (λ _. counts_behind n k q h) (λ _. h)

-- one more
pub counts_push : (n m : ℕ) (q : List Pending) (e : Pending) → CountsCovered n q → (is_left e ≡ false → suc n ≤ m) → n ≤ m → CountsCovered m (q ++ e ∷ [])
counts_push n m q e h covered more =
    let left : length (filter is_left (q ++ e ∷ [])) ≡ length (filter is_left q) + length (cond (is_left e) (e ∷ []) []) =
    ap length (filter-append is_left q (e ∷ [])) ∙ length-append (filter is_left q) (cond (is_left e) (e ∷ []) []) in
    ⊎_elim
    (λ y. omega (arith, h, more, left, ap length (cond-true (is_left e) (e ∷ []) [] y), length-append q (e ∷ [])))
    (λ n. omega (arith, h, covered n, left, length-append q (e ∷ [])))
    (cases_Bool (is_left e))
