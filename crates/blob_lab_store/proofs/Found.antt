-- What slots hold by number.
use Rattle.std.proofs.Common.{◌≡◌, ◌≢◌, ℕ, zero, suc, ◌+◌, ◌<◌, ◌≤◌, ◌==◌, ◌++◌, List, [], ◌∷◌, map, set, Option, None, cond, length, get_or, refl, sym, ap, ap₂, ◌∙◌, arith, subst, ⊎_elim}
use Rattle.std.specs.List.{range_with_len}
use Rattle.std.specs.List.Sorted.{IsNonDecreasingBy}
use Rattle.std.proofs.lemmas.Bool.{cond-true, cond-false, eq-eqb, ne_eqb, cases_lt}
use Rattle.std.proofs.lemmas.List.{get_or-set_same, length-set}
use Rattle.blob_lab_model.specs.Answers.{kept_at}
use Rattle.blob_lab_store.specs.Numbers.{IsAscending, IsBelow}
use Rattle.blob_lab_store.specs.Slots.{found, by_number}
use Rattle.blob_lab_store.proofs.ByNumber.{same_values, one_more, set_value, value_at, value_past}

rest_ascends : (n : ℕ) (ns : List ℕ) → IsAscending (n ∷ ns) → IsAscending ns
rest_ascends n ns a = λ i j d l m. a (suc i) (suc j) d (omega (arith, l)) (omega (arith, m))

-- no slot has the number
pub found_none : {X : Type 0} (ns : List ℕ) (vs : List (Option X)) (k : ℕ) → ((i : ℕ) → i < length ns → get_or ns i 0 ≢ k) → found ns vs k ≡ None
found_none [] vs k h = refl
found_none (n ∷ ns) [] k h = refl
found_none (n ∷ ns) (v ∷ vs) k h = cond-false (n == k) _ _ (ne_eqb n k (h 0 (omega arith))) ∙ found_none ns vs k (λ i l. h (suc i) (omega (arith, l)))

-- the slot with this index has the number
pub found_at : {X : Type 0} (ns : List ℕ) (vs : List (Option X)) (i k : ℕ) → IsAscending ns → length vs ≡ length ns → i < length ns → get_or ns i 0 ≡ k → found ns vs k ≡ get_or vs i None
found_at [] vs i k a len l e = absurd (omega arith)
found_at (n ∷ ns) [] i k a len l e = absurd (omega arith)
found_at (n ∷ ns) (v ∷ vs) zero k a len l e = cond-true (n == k) _ _ (eq-eqb n k e)
found_at (n ∷ ns) (v ∷ vs) (suc i) k a len l e =
    let less = a 0 (suc i) 0 (omega arith) l in
    cond-false (n == k) _ _ (ne_eqb n k (λ x. omega (arith, less, e, x))) ∙ found_at ns vs i k (rest_ascends n ns a) (omega (arith, len)) (omega (arith, l)) e

-- another slot is set
pub found_other : {X : Type 0} (ns : List ℕ) (vs : List (Option X)) (i k : ℕ) (v : Option X) → k ≢ get_or ns i 0 → found ns (set vs i v) k ≡ found ns vs k
found_other [] vs i k v h = refl
found_other (n ∷ ns) [] i k v h = refl
found_other (n ∷ ns) (w ∷ ws) zero k v h = let no = ne_eqb n k (λ e. h (sym e)) in cond-false (n == k) _ _ no ∙ sym (cond-false (n == k) _ _ no)
found_other {X} (n ∷ ns) (w ∷ ws) (suc i) k v h = ap (λ (o : Option X). cond (n == k) w o) (found_other ns ws i k v h)

-- a slot is added
pub found_before : {X : Type 0} (ns : List ℕ) (vs : List (Option X)) (g k : ℕ) (v : Option X) → length vs ≡ length ns → k ≢ g → found (ns ++ g ∷ []) (vs ++ v ∷ []) k ≡ found ns vs k
found_before [] [] g k v len h = cond-false (g == k) _ _ (ne_eqb g k (λ e. h (sym e)))
found_before [] (w ∷ ws) g k v len h = absurd (omega arith)
found_before (n ∷ ns) [] g k v len h = absurd (omega arith)
found_before {X} (n ∷ ns) (w ∷ ws) g k v len h = ap (λ (o : Option X). cond (n == k) w o) (found_before ns ws g k v (omega (arith, len)) h)

pub found_added : {X : Type 0} (ns : List ℕ) (vs : List (Option X)) (g : ℕ) (v : Option X) → length vs ≡ length ns → IsBelow ns g → found (ns ++ g ∷ []) (vs ++ v ∷ []) g ≡ v
found_added [] [] g v len b = cond-true (g == g) _ _ (eq-eqb g g refl)
found_added [] (w ∷ ws) g v len b = absurd (omega arith)
found_added (n ∷ ns) [] g v len b = absurd (omega arith)
found_added (n ∷ ns) (w ∷ ws) g v len b =
    let less = b 0 0 (omega arith) in
    cond-false (n == g) _ _ (ne_eqb n g (λ e. omega (arith, less, e))) ∙ found_added ns ws g v (omega (arith, len)) (λ i d l. b (suc i) d (omega (arith, l)))

-- By number.

pub kept_found : {X : Type 0} (ns : List ℕ) (vs : List (Option X)) (g k : ℕ) → IsBelow ns g → kept_at (by_number ns vs g) k ≡ found ns vs k
kept_found ns vs g k b = ⊎_elim
    (λ l. value_at (found ns vs) g k l)
    (λ l. value_past (found ns vs) g k l ∙ sym (found_none ns vs k (λ i m e. let less = b i 0 m in omega (arith, less, l, e))))
    (cases_lt k g)

pub kept_by : {X : Type 0} (ns : List ℕ) (vs : List (Option X)) (g i k : ℕ) → IsAscending ns → IsBelow ns g → length vs ≡ length ns → i < length ns → get_or ns i 0 ≡ k → kept_at (by_number ns vs g) k ≡ get_or vs i None
kept_by ns vs g i k a b len l e = kept_found ns vs g k b ∙ found_at ns vs i k a len l e

pub kept_none : {X : Type 0} (ns : List ℕ) (vs : List (Option X)) (g k : ℕ) → IsBelow ns g → ((i : ℕ) → i < length ns → get_or ns i 0 ≢ k) → kept_at (by_number ns vs g) k ≡ None
kept_none ns vs g k b h = kept_found ns vs g k b ∙ found_none ns vs k h

pub set_by : {X : Type 0} (ns : List ℕ) (vs : List (Option X)) (g i k : ℕ) (v : Option X) → IsAscending ns → IsBelow ns g → length vs ≡ length ns → i < length ns → get_or ns i 0 ≡ k → by_number ns (set vs i v) g ≡ set (by_number ns vs g) k v
set_by ns vs g i k v a b len l e =
    let less = b i 0 l in
    set_value (found ns vs) (found ns (set vs i v)) 0 g k v (omega (arith, less, e)) (λ j h. found_other ns vs i j v (λ x. h (omega (arith, x, e))))
    (found_at ns (set vs i v) i (0 + k) a (length-set vs i v ∙ len) l (omega (arith, e)) ∙ get_or-set_same vs i v None (omega (arith, len, l)))

pub added_by : {X : Type 0} (ns : List ℕ) (vs : List (Option X)) (g : ℕ) (v : Option X) → IsBelow ns g → length vs ≡ length ns → by_number (ns ++ g ∷ []) (vs ++ v ∷ []) (g + 1) ≡ by_number ns vs g ++ v ∷ []
added_by {X} ns vs g v b len =
    let same : 0 + g ≡ g = omega arith in
    one_more (found (ns ++ g ∷ []) (vs ++ v ∷ [])) 0 g
    ∙ ap (λ (k : ℕ). map (found (ns ++ g ∷ []) (vs ++ v ∷ [])) (range_with_len 0 g) ++ found (ns ++ g ∷ []) (vs ++ v ∷ []) k ∷ []) same
    ∙ ap₂ (λ (xs : List (Option X)) (x : Option X). xs ++ x ∷ []) (same_values _ _ 0 g (λ k m l. found_before ns vs g k v len (λ e. omega (arith, l, e)))) (found_added ns vs g v len b)

-- A search by halves.

pub does_not_fall : (read ns : List ℕ) → read ≡ ns → IsAscending ns → IsNonDecreasingBy (λ (x : ℕ). x) read
does_not_fall read ns same a = subst (IsNonDecreasingBy (λ (x : ℕ). x)) (sym same) (λ i j d l m. ⊎_elim
    (λ h. let less = a i j d h m in omega (arith, less))
    (λ h. let e : i ≡ j = omega (arith, l, h) in let same_at = ap (λ (k : ℕ). get_or ns k d) e in omega (arith, same_at))
    (cases_lt i j))

pub isnt_there : (read ns : List ℕ) (i n : ℕ) → read ≡ ns → IsAscending ns → ((k : ℕ) → k < length read → k < i → get_or read k 0 < n) → ((k : ℕ) → i ≤ k → k < length read → n ≤ get_or read k 0) → (i < length ns → get_or ns i 0 ≢ n) → (k : ℕ) → k < length ns → get_or ns k 0 ≢ n
isnt_there read ns i n same a before after isnt k l e =
    let len = ap length same in
    let at : (j : ℕ) → get_or read j 0 ≡ get_or ns j 0 = λ j. ap (λ (xs : List ℕ). get_or xs j 0) same in
    ⊎_elim
    (λ h. let less = before k (omega (arith, len, l)) h in let here = at k in omega (arith, less, here, e))
    (λ h. ⊎_elim
    (λ m. let from = after i (omega arith) (omega (arith, len, l, h)) in let here = at i in let rises = a i k 0 m l in omega (arith, from, here, rises, e))
    (λ m. let same_index : k ≡ i = omega (arith, h, m) in isnt (omega (arith, l, same_index)) (ap (λ (j : ℕ). get_or ns j 0) (sym same_index) ∙ e))
    (cases_lt i k))
    (cases_lt k i)
