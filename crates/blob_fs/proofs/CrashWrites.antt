-- Which pending writes a crash's rows are of, by the files that the layer represents.
use Rattle.std.proofs.Common.{◌≡◌, ◌⊎◌, ◌<◌, ◌≤◌, ◌∙◌, ◌||◌, ℕ, suc, Bool, true, false, cond, inl, inr, ⊎_elim, List, [], ◌∷◌, ◌++◌, length, map, Option, Some, None, is_some, refl, sym, ap, subst, arith}
use Rattle.std.specs.BTreeMap.{BTreeMap, get}
use Rattle.std.specs.Cmp.{eq_by_cmp_equiv, nat_cmp_total}
use Rattle.std.specs.List.{AllByRecursion, IsDistinct, list_any}
use Rattle.std.specs.Ordering.{is_eq, nat_cmp}
use Rattle.std.proofs.lemmas.Bool.{cases_Bool, cond_both, cond-false, cond-true, false≢true}
use Rattle.std.proofs.lemmas.Map.Steps.{length-le_from_keys}
use Rattle.rand_core.specs.Stream.{Stream}
use Rattle.blob_model.specs.Draws.{Row, draw_rows, positions}
use Rattle.blob_model.specs.Files.{Logged, all_needs, log_of, need_at}
use Rattle.blob_model.specs.Log.{Entry, Kept, Loose, Resized, Need, has_bare, need_of, needs}
use Rattle.blob_model.specs.Order.{In, ListAt, Rise, held_at, need_number, waiting_of_all}
use Rattle.blob_model.specs.Pending.{Pending, waiting}
use Rattle.blob_model.specs.Places.{Place as Origin, same_place}
use Rattle.blob_model.specs.SamePlace.{same_self}
use Rattle.blob_model.specs.Stands.{StandsAt}
use Rattle.blob_fs.proofs.Recovering.{key_is}

-- Members of lists.

pub in_left : (w : Need) (xs ys : List Need) → In w xs → In w (xs ++ ys)
in_left w [] ys none = absurd none
in_left w (x ∷ xs) ys (inl e) = inl e
in_left w (x ∷ xs) ys (inr later) = inr (in_left w xs ys later)

pub in_right : (w : Need) (xs ys : List Need) → In w ys → In w (xs ++ ys)
in_right w [] ys there = there
in_right w (x ∷ xs) ys there = inr (in_right w xs ys there)

pub in_split : (w : Need) (xs ys : List Need) → In w (xs ++ ys) → In w xs ⊎ In w ys
in_split w [] ys there = inr there
in_split w (x ∷ xs) ys (inl e) = inl (inl e)
in_split w (x ∷ xs) ys (inr later) = ⊎_elim (λ i. inl (inr i)) (λ i. inr i) (in_split w xs ys later)

-- a write of an incarnation's list is one of all lists
pub held_in_all : (hs : List ListAt) (o : Origin) (w : Need) → In w (waiting (held_at hs o)) → In w (waiting_of_all hs)
held_in_all [] o w none = absurd none
held_in_all (h ∷ hs) o w there = ⊎_elim
    (λ y. in_left w (waiting h.1) (waiting_of_all hs) (subst (λ (q : List Pending). In w (waiting q)) (cond-true (same_place h.0 o) h.1 (held_at hs o) y) there))
    (λ n. in_right w (waiting h.1) (waiting_of_all hs) (held_in_all hs o w (subst (λ (q : List Pending). In w (waiting q)) (cond-false (same_place h.0 o) h.1 (held_at hs o) n) there)))
    (cases_Bool (same_place h.0 o))

-- The log.

in_more : (d : Entry) (l : List Entry) (w : Need) → In w (needs l) → In w (needs (d ∷ l))
in_more (Kept p b) l w i = i
in_more (Loose x) l w i = cond_both (has_bare (need_of x l)) (need_of x l ∷ needs l) (needs l) (λ r. In w r) (λ _. inr i) (λ _. i)
in_more (Resized n) l w i = i

in_first : (d : Entry) (l : List Entry) (rest : List Need) (w : Need) → In w (need_at d l rest) → In w (needs (d ∷ l)) ⊎ In w rest
in_first (Kept p b) l rest w i = inr i
in_first (Loose x) l rest w i = go (has_bare (need_of x l)) i
  where
    go : (b : Bool) → In w (cond b (need_of x l ∷ rest) rest) → In w (cond b (need_of x l ∷ needs l) (needs l)) ⊎ In w rest
    go true (inl e) = inl (inl e)
    go true (inr j) = inr j
    go false j = inr j
in_first (Resized n) l rest w i = inr i

-- a write that the files need is one of some incarnation's log
pub in_log : (log : List Logged) (w : Need) → In w (all_needs log) → (o : Origin) × In w (needs (log_of log o))
in_log [] w none = absurd none
in_log (e ∷ log) w there = ⊎_elim
    (λ i. (e.place, subst (λ (l : List Entry). In w (needs l)) (sym (cond-true (same_place e.place e.place) (e.entry ∷ log_of log e.place) (log_of log e.place) (same_self e.place))) i))
    (λ i. let l = in_log log w i in
    (l.0, cond_both (same_place e.place l.0) (e.entry ∷ log_of log l.0) (log_of log l.0) (λ r. In w (needs r)) (λ _. in_more e.entry (log_of log l.0) w l.1) (λ _. l.1)))
    (in_first e.entry (log_of log e.place) (all_needs log) w there)

pub needs_here : (x : Option (List ℕ)) (q : List Pending) (b : List ℕ) (log : List Entry) → StandsAt x q b log → waiting q ≡ needs log
needs_here None q b log s = s
needs_here (Some x) q b log s = s.needs

-- Numbers.

pub row_numbers : (s : Stream) (ns : List Need) → map (λ (r : Row). r.0) (draw_rows s ns).0 ≡ map need_number ns
row_numbers s [] = refl
row_numbers s (n ∷ ns) = ap (λ (l : List ℕ). n.write.number ∷ l) (row_numbers (positions n.write.mode n.write.rate n.write.offset (length n.write.bytes) s).1 ns)

above : (from : ℕ) (ns : List Need) (k : ℕ) → k < from → Rise from ns → AllByRecursion (λ y. is_eq (nat_cmp k y) ≡ false) (map need_number ns)
above from [] k low rise = tt
above from (n ∷ ns) k low rise = (
  ⊎_elim (λ y. let e : k ≡ n.write.number = key_is k n.write.number y in absurd (omega (arith, rise.0))) (λ no. no) (cases_Bool (is_eq (nat_cmp k n.write.number))),
  above (suc n.write.number) ns k (omega (arith, rise.0)) rise.1,
)

distinct : (from : ℕ) (ns : List Need) → Rise from ns → IsDistinct (λ a b. is_eq (nat_cmp a b)) (map need_number ns)
unfolding IsDistinct
distinct from [] rise = tt
distinct from (n ∷ ns) rise = (above (suc n.write.number) ns n.write.number (omega arith) rise.1, distinct (suc n.write.number) ns rise.1)

among : (ns : List Need) (q : ℕ) → list_any (λ b. is_eq (nat_cmp q b)) (map need_number ns) ≡ true → (w : Need) × In w ns × (w.write.number ≡ q)
among [] q none = absurd (false≢true none)
among (n ∷ ns) q any = ⊎_elim
    (λ y. (n, inl refl, sym (key_is q n.write.number y)))
    (λ no. let later = among ns q (sym (ap (λ (b : Bool). b || list_any (λ b. is_eq (nat_cmp q b)) (map need_number ns)) no) ∙ any) in (later.0, inr later.1, later.2))
    (cases_Bool (is_eq (nat_cmp q n.write.number)))

-- writes with rising numbers, each of which a map has, are at most as many as the map's entries
pub as_many : {X : Type 0} (m : BTreeMap ℕ X) (from : ℕ) (ns : List Need) → Rise from ns → ((w : Need) → In w ns → is_some (get nat_cmp m w.write.number) ≡ true) → length (map need_number ns) ≤ length m.entries
as_many m from ns rise each = length-le_from_keys (eq_by_cmp_equiv nat_cmp_total) (map need_number ns) m.entries (distinct from ns rise)
    (λ q any. let w = among ns q any in subst (λ (n : ℕ). is_some (get nat_cmp m n) ≡ true) w.2 (each w.0 w.1))
