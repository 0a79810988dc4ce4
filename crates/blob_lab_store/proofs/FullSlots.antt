-- The slots that have a value.
use Rattle.std.proofs.Common.{◌≡◌, ℕ, zero, suc, ◌+◌, ◌<◌, ◌≤◌, ◌==◌, ◌++◌, List, [], ◌∷◌, Option, Some, None, cond, length, get_or, reverse, refl, sym, ap, ◌∙◌, arith, ⊎_elim}
use Rattle.std.proofs.lemmas.List.{reverse-append, append_assoc}
use Rattle.std.proofs.lemmas.Bool.{cond-true, cond-false, eq-eqb, ne_eqb, cases_lt}
use Rattle.blob_lab_store.specs.Numbers.{IsAscending, IsBelow}
use Rattle.blob_lab_store.specs.Slots.{found, by_number, full_numbers, full_values}
use Rattle.blob_lab_store.proofs.ByNumber.{same_values}

-- One more slot.

pub full_number : {X : Type 0} (ns : List ℕ) (vs : List (Option X)) (v : X) (d : ℕ) → length vs < length ns → full_numbers ns (vs ++ Some v ∷ []) ≡ full_numbers ns vs ++ get_or ns (length vs) d ∷ []
full_number [] vs v d l = absurd (omega arith)
full_number (n ∷ []) [] v d l = refl
full_number (n ∷ m ∷ ns) [] v d l = refl
full_number (n ∷ ns) (None ∷ vs) v d l = full_number ns vs v d (omega (arith, l))
full_number (n ∷ ns) (Some w ∷ vs) v d l = ap (λ (xs : List ℕ). n ∷ xs) (full_number ns vs v d (omega (arith, l)))

pub empty_number : {X : Type 0} (ns : List ℕ) (vs : List (Option X)) → full_numbers ns (vs ++ None ∷ []) ≡ full_numbers ns vs
empty_number [] vs = refl
empty_number (n ∷ []) [] = refl
empty_number (n ∷ m ∷ ns) [] = refl
empty_number (n ∷ ns) (None ∷ vs) = empty_number ns vs
empty_number (n ∷ ns) (Some w ∷ vs) = ap (λ (xs : List ℕ). n ∷ xs) (empty_number ns vs)

pub full_value : {X : Type 0} (vs : List (Option X)) (v : X) → full_values (vs ++ Some v ∷ []) ≡ full_values vs ++ Some v ∷ []
full_value [] v = refl
full_value (None ∷ vs) v = full_value vs v
full_value {X} (Some w ∷ vs) v = ap (λ (xs : List (Option X)). Some w ∷ xs) (full_value vs v)

pub empty_value : {X : Type 0} (vs : List (Option X)) → full_values (vs ++ None ∷ []) ≡ full_values vs
empty_value [] = refl
empty_value (None ∷ vs) = empty_value vs
empty_value {X} (Some w ∷ vs) = ap (λ (xs : List (Option X)). Some w ∷ xs) (empty_value vs)

back : {X : Type 0} (xs ys : List X) (x : X) → xs ++ reverse (ys ++ x ∷ []) ≡ (xs ++ x ∷ []) ++ reverse ys
back {X} xs ys x = ap (λ (zs : List X). xs ++ zs) (reverse-append ys (x ∷ [])) ∙ sym (append_assoc xs (x ∷ []) (reverse ys))

-- the last slot moves, if it has a value
module _ {X : Type 0} (vs : List (Option X)) where
  pub number_moves : (ns : List ℕ) (before : List (Option X)) (v : X) (full after : List ℕ) → before ≡ vs ++ Some v ∷ [] → after ≡ full ++ get_or ns (length vs) 0 ∷ [] → length vs < length ns → full_numbers ns vs ++ reverse after ≡ full_numbers ns before ++ reverse full
  number_moves ns before v full after e f l =
      ap (λ (xs : List ℕ). full_numbers ns vs ++ reverse xs) f ∙ back (full_numbers ns vs) full (get_or ns (length vs) 0)
      ∙ ap (λ (xs : List ℕ). xs ++ reverse full) (sym (full_number ns vs v 0 l) ∙ ap (full_numbers ns) (sym e))

  pub value_moves : (before : List (Option X)) (v : X) (full after : List (Option X)) → before ≡ vs ++ Some v ∷ [] → after ≡ full ++ Some v ∷ [] → full_values vs ++ reverse after ≡ full_values before ++ reverse full
  value_moves before v full after e f =
      ap (λ (xs : List (Option X)). full_values vs ++ reverse xs) f ∙ back (full_values vs) full (Some v)
      ∙ ap (λ (xs : List (Option X)). xs ++ reverse full) (sym (full_value vs v) ∙ ap full_values (sym e))

  pub number_goes : (ns : List ℕ) (before : List (Option X)) → before ≡ vs ++ None ∷ [] → full_numbers ns vs ≡ full_numbers ns before
  number_goes ns before e = sym (empty_number ns vs) ∙ ap (full_numbers ns) (sym e)

  pub value_goes : (before : List (Option X)) → before ≡ vs ++ None ∷ [] → full_values vs ≡ full_values before
  value_goes before e = sym (empty_value vs) ∙ ap full_values (sym e)

-- Numbers in order, from one at least `low`.

abbrev InOrder : ℕ → List ℕ → ℕ → Type 0
InOrder low [] given = low ≤ given
InOrder low (n ∷ ns) given = (low ≤ n) × InOrder (n + 1) ns given

in_order : (low : ℕ) (ns : List ℕ) (given : ℕ) → low ≤ given → IsAscending ns → IsBelow ns given → ((d : ℕ) → 0 < length ns → low ≤ get_or ns 0 d) → InOrder low ns given
in_order low [] given h a b f = h
in_order low (n ∷ ns) given h a b f =
    let less = b 0 n (omega arith) in (
      f n (omega arith),
      in_order (n + 1) ns given (omega (arith, less)) (λ i j d l m. a (suc i) (suc j) d (omega (arith, l)) (omega (arith, m))) (λ i d l. b (suc i) d (omega (arith, l)))
          (λ d l. let m = a 0 1 d (omega arith) (omega (arith, l)) in omega (arith, m)),
    )

ends : (low : ℕ) (ns : List ℕ) (given : ℕ) → InOrder low ns given → low ≤ given
ends low [] given o = o
ends low (n ∷ ns) given o = let m = ends (n + 1) ns given o.1 in omega (arith, o.0, m)

at_least : (low : ℕ) (ns : List ℕ) (given i d : ℕ) → InOrder low ns given → i < length ns → low ≤ get_or ns i d
at_least low [] given i d o l = absurd (omega arith)
at_least low (n ∷ ns) given zero d o l = o.0
at_least low (n ∷ ns) given (suc i) d o l = let m = at_least (n + 1) ns given i d o.1 (omega (arith, l)) in omega (arith, o.0, m)

ascends : (low : ℕ) (ns : List ℕ) (given : ℕ) → InOrder low ns given → IsAscending ns
ascends low [] given o i j d l m = absurd (omega arith)
ascends low (n ∷ ns) given o i zero d l m = absurd (omega arith)
ascends low (n ∷ ns) given o zero (suc j) d l m = let h = at_least (n + 1) ns given j d o.1 (omega (arith, m)) in omega (arith, h)
ascends low (n ∷ ns) given o (suc i) (suc j) d l m = ascends (n + 1) ns given o.1 i j d (omega (arith, l)) (omega (arith, m))

is_below : (low : ℕ) (ns : List ℕ) (given : ℕ) → InOrder low ns given → IsBelow ns given
is_below low [] given o i d l = absurd (omega arith)
is_below low (n ∷ ns) given o zero d l = let h = ends (n + 1) ns given o.1 in omega (arith, h)
is_below low (n ∷ ns) given o (suc i) d l = is_below (n + 1) ns given o.1 i d (omega (arith, l))

lower : (low low' : ℕ) (ns : List ℕ) (given : ℕ) → low ≤ low' → InOrder low' ns given → InOrder low ns given
lower low low' [] given l o = omega (arith, l, o)
lower low low' (n ∷ ns) given l o = (omega (arith, l, o.0), o.1)

full_in_order : {X : Type 0} (low : ℕ) (ns : List ℕ) (vs : List (Option X)) (given : ℕ) → InOrder low ns given → InOrder low (full_numbers ns vs) given
full_in_order low [] vs given o = o
full_in_order low (n ∷ ns) [] given o = ends low (n ∷ ns) given o
full_in_order low (n ∷ ns) (None ∷ vs) given o = lower low (n + 1) (full_numbers ns vs) given (omega (arith, o.0)) (full_in_order (n + 1) ns vs given o.1)
full_in_order low (n ∷ ns) (Some v ∷ vs) given o = (o.0, full_in_order (n + 1) ns vs given o.1)

found_below : {X : Type 0} (low : ℕ) (ns : List ℕ) (vs : List (Option X)) (given k : ℕ) → InOrder low ns given → k < low → found ns vs k ≡ None
found_below low [] vs given k o l = refl
found_below low (n ∷ ns) [] given k o l = refl
found_below low (n ∷ ns) (v ∷ vs) given k o l = cond-false (n == k) _ _ (ne_eqb n k (λ e. omega (arith, o.0, l, e))) ∙ found_below (n + 1) ns vs given k o.1 (omega (arith, o.0, l))

-- an empty slot isn't missed
skipped : {X : Type 0} (n : ℕ) (ns : List ℕ) (vs : List (Option X)) (given k : ℕ) → InOrder (n + 1) ns given → found ns vs k ≡ cond (n == k) None (found ns vs k)
skipped n ns vs given k o = ⊎_elim
    (λ l. sym (cond-false (n == k) _ _ (ne_eqb n k (λ e. omega (arith, l, e)))))
    (λ l. ⊎_elim
    (λ m. sym (cond-false (n == k) _ _ (ne_eqb n k (λ e. omega (arith, m, e)))))
    (λ m. found_below (n + 1) ns vs given k o (omega (arith, m)) ∙ sym (cond-true (n == k) _ _ (eq-eqb n k (omega (arith, l, m)))))
    (cases_lt n k))
    (cases_lt k n)

full_found : {X : Type 0} (low : ℕ) (ns : List ℕ) (vs : List (Option X)) (given k : ℕ) → InOrder low ns given → found (full_numbers ns vs) (full_values vs) k ≡ found ns vs k
full_found low [] vs given k o = refl
full_found low (n ∷ ns) [] given k o = refl
full_found low (n ∷ ns) (None ∷ vs) given k o =
    full_found (n + 1) ns vs given k o.1 ∙ skipped n ns vs given k o.1
full_found {X} low (n ∷ ns) (Some v ∷ vs) given k o = ap (λ (x : Option X). cond (n == k) (Some v) x) (full_found (n + 1) ns vs given k o.1)

module _ {X : Type 0} (ns : List ℕ) (vs : List (Option X)) (given : ℕ) (a : IsAscending ns) (b : IsBelow ns given) where
  ordered : InOrder 0 ns given
  ordered = in_order 0 ns given (omega arith) a b (λ d l. omega arith)

  pub full_ascends : IsAscending (full_numbers ns vs)
  full_ascends = ascends 0 (full_numbers ns vs) given (full_in_order 0 ns vs given ordered)

  pub full_is_below : IsBelow (full_numbers ns vs) given
  full_is_below = is_below 0 (full_numbers ns vs) given (full_in_order 0 ns vs given ordered)

  pub full_by_number : by_number (full_numbers ns vs) (full_values vs) given ≡ by_number ns vs given
  full_by_number = same_values _ _ 0 given (λ k m l. full_found 0 ns vs given k ordered)

-- as many numbers as values
pub full_paired : {X : Type 0} (ns : List ℕ) (vs : List (Option X)) → length vs ≡ length ns → length (full_values vs) ≡ length (full_numbers ns vs)
full_paired [] [] e = refl
full_paired [] (v ∷ vs) e = absurd (omega arith)
full_paired (n ∷ ns) [] e = absurd (omega arith)
full_paired (n ∷ ns) (None ∷ vs) e = full_paired ns vs (omega (arith, e))
full_paired (n ∷ ns) (Some v ∷ vs) e = let h = full_paired ns vs (omega (arith, e)) in omega (arith, h)
