-- Maps by the bytes of their keys, and nested maps.
use Rattle.std.proofs.Common.{◌≡◌, ℕ, List, [], Bool, true, false, cond, Option, Some, None, Result, Ok, Err, sym, ap, subst, ◌∙◌, ⊎_elim}
use Rattle.std.specs.BTreeMap.{BTreeMap, UpdatesBy}
use Rattle.std.specs.Ordering.{nat_cmp, is_eq}
use Rattle.std.specs.Cmp.Lexicographic.{slice_cmp, bytes_decides, nat_list_cmp_total, nat_list_eq_equiv}
use Rattle.std.specs.Cmp.{eq_by_cmp_equiv}
use Rattle.std.specs.Map.{update, lookup, IsKeyTest, AreApart, KeepsOthers}
use Rattle.std.specs.Result.{OnErr}
use Rattle.std.specs.Str.{bytes_eq}
use Rattle.std.proofs.lemmas.Bool.{cases_Bool, cond-true, cond-false}
use Rattle.std.proofs.lemmas.Map.Text.{is_eq-slice_cmp}
use Rattle.blob_names.specs.Names.{value_at, below, with_name, with_all_names}

apart : (bs cs ks : List ℕ) → bytes_eq bs cs ≡ false → is_eq (slice_cmp nat_cmp bs ks) ≡ true → is_eq (slice_cmp nat_cmp cs ks) ≡ false
apart bs cs ks n y =
    let e : bytes_eq bs ks ≡ true = sym (is_eq-slice_cmp bs ks) ∙ y in
    is_eq-slice_cmp cs ks ∙ nat_list_eq_equiv.symm cs ks ∙ sym (nat_list_eq_equiv.congr bs ks cs e) ∙ n

module _ {K : Type 0} (eq : K → K → Bool) (test : K → Bool) where
  others : {X : Type 0} (old new : List (K × X)) → KeepsOthers eq test old new → (other : K → Bool) → IsKeyTest eq other → AreApart test other → lookup other new ≡ lookup other old
  unfolding KeepsOthers
  others old new h = h

at_bytes : {W : Type 0} (f g : List ℕ → W) (bs : List ℕ) (w : W) → g bs ≡ w → ((cs : List ℕ) → bytes_eq bs cs ≡ false → g cs ≡ f cs) → (cs : List ℕ) → g cs ≡ cond (bytes_eq bs cs) w (f cs)
at_bytes f g bs w here other cs =
    ⊎_elim
    (λ y. subst (λ l. g l ≡ w) ((bytes_decides bs cs).0 y) here ∙ sym (cond-true (bytes_eq bs cs) w (f cs) y))
    (λ n. other cs n ∙ sym (cond-false (bytes_eq bs cs) w (f cs) n))
    (cases_Bool (bytes_eq bs cs))

-- the value at key cs after a change at key bs
pub found_after : {K X : Type 0} (bytes : K → List ℕ) (bs : List ℕ) (m n : BTreeMap K X) (w : Option X)
    → UpdatesBy (λ x y. slice_cmp nat_cmp (bytes x) (bytes y)) (λ k. slice_cmp nat_cmp bs (bytes k)) m n w
    → (cs : List ℕ) → value_at bytes n cs ≡ update bytes_eq (value_at bytes m) bs w cs
found_after bytes bs m n w h =
    at_bytes (value_at bytes m) (value_at bytes n) bs w h.1
    (λ cs e. others _ _ _ _ h.3 _ (λ x y. (eq_by_cmp_equiv nat_list_cmp_total).congr cs (bytes x) (bytes y)) (λ k. apart bs cs (bytes k) e))

pub on_err : {T E P : Type 0} (r : Result T E) → P → OnErr r P
on_err (Ok x) p = tt
on_err (Err e) p = p

-- an empty map has no value
pub found_none : {K X : Type 0} (bytes : K → List ℕ) (m : BTreeMap K X) (cs : List ℕ) → m.entries ≡ [] → value_at bytes m cs ≡ None
found_none bytes m cs e = ap (λ es. lookup (λ k. is_eq (slice_cmp nat_cmp cs (bytes k))) es) e

module _ {M X : Type 0} (v : M → List ℕ → Option X) (f g : List ℕ → Option M) (p : List ℕ) where
  -- both levels, if the outer map changes only at p
  levels : (n : List ℕ) (w : Option M) (x : Option X)
      → ((cs : List ℕ) → g cs ≡ update bytes_eq f p w cs)
      → ((m : List ℕ) → below v w m ≡ cond (bytes_eq n m) x (below v (f p) m))
      → (q m : List ℕ) → below v (g q) m ≡ with_name (λ r l. below v (f r) l) p n x q m
  levels n w x outer inner q m =
      ⊎_elim
      (λ y.
      let same : p ≡ q = (bytes_decides p q).0 y in
      let is : g q ≡ w = outer q ∙ cond-true (bytes_eq p q) w (f q) y in
      let was : below v (f p) m ≡ below v (f q) m = ap (λ l. below v (f l) m) same in
      ap (λ o. below v o m) is ∙ inner m ∙ ap (λ o. cond (bytes_eq n m) x o) was
      ∙ sym (cond-true (bytes_eq p q) (cond (bytes_eq n m) x (below v (f q) m)) (below v (f q) m) y))
      (λ no.
      let is : g q ≡ f q = outer q ∙ cond-false (bytes_eq p q) w (f q) no in
      ap (λ o. below v o m) is ∙ sym (cond-false (bytes_eq p q) (cond (bytes_eq n m) x (below v (f q) m)) (below v (f q) m) no))
      (cases_Bool (bytes_eq p q))

  -- one value of an inner map changes
  pub set_below : (n : List ℕ) (a b : M) (x : Option X) → f p ≡ Some a
      → ((cs : List ℕ) → g cs ≡ update bytes_eq f p (Some b) cs)
      → ((m : List ℕ) → v b m ≡ update bytes_eq (v a) n x m)
      → (q m : List ℕ) → below v (g q) m ≡ with_name (λ r l. below v (f r) l) p n x q m
  set_below n a b x here outer inner = levels n (Some b) x outer (λ m. inner m ∙ ap (λ o. cond (bytes_eq n m) x (below v o m)) (sym here))

  -- a new inner map
  pub new_below : (n : List ℕ) (b : M) (x : Option X) → f p ≡ None
      → ((cs : List ℕ) → g cs ≡ update bytes_eq f p (Some b) cs)
      → ((m : List ℕ) → v b m ≡ cond (bytes_eq n m) x None)
      → (q m : List ℕ) → below v (g q) m ≡ with_name (λ r l. below v (f r) l) p n x q m
  new_below n b x here outer inner = levels n (Some b) x outer (λ m. inner m ∙ ap (λ o. cond (bytes_eq n m) x (below v o m)) (sym here))

  -- an inner map is removed with its last value
  pub emptied_below : (n : List ℕ) (a b : M) → f p ≡ Some a
      → ((cs : List ℕ) → g cs ≡ update bytes_eq f p None cs)
      → ((m : List ℕ) → v b m ≡ update bytes_eq (v a) n None m)
      → ((m : List ℕ) → v b m ≡ None)
      → (q m : List ℕ) → below v (g q) m ≡ with_name (λ r l. below v (f r) l) p n None q m
  emptied_below n a b here outer inner empty = levels n None None outer (λ m. sym (empty m) ∙ inner m ∙ ap (λ o. cond (bytes_eq n m) None (below v o m)) (sym here))

  -- an inner map with the same values
  pub same_below : (a b : M) → f p ≡ Some a
      → ((cs : List ℕ) → g cs ≡ update bytes_eq f p (Some b) cs)
      → ((m : List ℕ) → v b m ≡ v a m)
      → (q m : List ℕ) → below v (g q) m ≡ below v (f q) m
  same_below a b here outer inner q m =
      ⊎_elim
      (λ y.
      let was : f q ≡ Some a = ap f (sym ((bytes_decides p q).0 y)) ∙ here in
      ap (λ o. below v o m) (outer q ∙ cond-true (bytes_eq p q) (Some b) (f q) y) ∙ inner m ∙ sym (ap (λ o. below v o m) was))
      (λ no. ap (λ o. below v o m) (outer q ∙ cond-false (bytes_eq p q) (Some b) (f q) no))
      (cases_Bool (bytes_eq p q))

  -- there is no value to remove
  pub none_below : (n : List ℕ) → below v (f p) n ≡ None → (q m : List ℕ) → below v (f q) m ≡ with_name (λ r l. below v (f r) l) p n None q m
  none_below n here q m =
      ⊎_elim
      (λ y.
      ⊎_elim
      (λ z.
      let was : below v (f q) m ≡ None = ap (λ l. below v (f l) m) (sym ((bytes_decides p q).0 y)) ∙ ap (below v (f p)) (sym ((bytes_decides n m).0 z)) ∙ here in
      was ∙ sym (cond-true (bytes_eq p q) (cond (bytes_eq n m) None (below v (f q) m)) (below v (f q) m) y ∙ cond-true (bytes_eq n m) None (below v (f q) m) z))
      (λ no. sym (cond-true (bytes_eq p q) (cond (bytes_eq n m) None (below v (f q) m)) (below v (f q) m) y ∙ cond-false (bytes_eq n m) None (below v (f q) m) no))
      (cases_Bool (bytes_eq n m)))
      (λ no. sym (cond-false (bytes_eq p q) (cond (bytes_eq n m) None (below v (f q) m)) (below v (f q) m) no))
      (cases_Bool (bytes_eq p q))

  -- a partition is removed
  pub gone_below : ((cs : List ℕ) → g cs ≡ update bytes_eq f p None cs) → (q m : List ℕ) → below v (g q) m ≡ with_all_names (λ r l. below v (f r) l) None p q m
  gone_below outer q m =
      ⊎_elim
      (λ y. ap (λ o. below v o m) (outer q ∙ cond-true (bytes_eq p q) None (f q) y) ∙ sym (cond-true (bytes_eq p q) None (below v (f q) m) y))
      (λ no. ap (λ o. below v o m) (outer q ∙ cond-false (bytes_eq p q) None (f q) no) ∙ sym (cond-false (bytes_eq p q) None (below v (f q) m) no))
      (cases_Bool (bytes_eq p q))

-- of two changes at one key, the last one counts
pub twice : {M : Type 0} (f g h : List ℕ → Option M) (p : List ℕ) (a b : Option M)
    → ((cs : List ℕ) → g cs ≡ update bytes_eq f p a cs) → ((cs : List ℕ) → h cs ≡ update bytes_eq g p b cs) → (cs : List ℕ) → h cs ≡ update bytes_eq f p b cs
twice f g h p a b first second cs =
    ⊎_elim
    (λ y. second cs ∙ cond-true (bytes_eq p cs) b (g cs) y ∙ sym (cond-true (bytes_eq p cs) b (f cs) y))
    (λ no. second cs ∙ cond-false (bytes_eq p cs) b (g cs) no ∙ first cs ∙ cond-false (bytes_eq p cs) a (f cs) no ∙ sym (cond-false (bytes_eq p cs) b (f cs) no))
    (cases_Bool (bytes_eq p cs))
