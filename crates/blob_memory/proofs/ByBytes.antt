-- Maps by the bytes of their keys, and maps of such maps.
use Rattle.std.proofs.Common.{◌≡◌, ℕ, List, Bool, true, false, cond, Option, Some, None, Result, Ok, Err, refl, sym, ap, subst, ◌∙◌, ⊎_elim}
use Rattle.std.specs.Prelude.{is_some, OnOk, OnErr}
use Rattle.std.specs.BTreeMap.{BTreeMap, UpdatesBy}
use Rattle.std.specs.Ordering.{nat_cmp, is_eq}
use Rattle.std.specs.Cmp.Lexicographic.{slice_cmp, bytes_decides, nat_list_cmp_total, nat_list_eq_equiv}
use Rattle.std.specs.Cmp.{eq_by_cmp_equiv}
use Rattle.std.specs.Map.{update, lookup, IsKeyTest, AreApart, KeepsOthers}
use Rattle.std.specs.Str.{bytes_eq}
use Rattle.std.proofs.lemmas.Bool.{cases_Bool, cond-true, cond-false}
use Rattle.std.proofs.lemmas.Map.Text.{is_eq-slice_cmp}
use Rattle.blob_names.specs.Names.{value_at, below}

apart : (bs cs ks : List ℕ) → bytes_eq bs cs ≡ false → is_eq (slice_cmp nat_cmp bs ks) ≡ true → is_eq (slice_cmp nat_cmp cs ks) ≡ false
apart bs cs ks n y =
    let e : bytes_eq bs ks ≡ true = sym (is_eq-slice_cmp bs ks) ∙ y in
    is_eq-slice_cmp cs ks ∙ nat_list_eq_equiv.symm cs ks ∙ sym (nat_list_eq_equiv.congr bs ks cs e) ∙ n

module _ {K : Type 0} (eq : K → K → Bool) (test : K → Bool) where
  others : {X : Type 0} (old new : List (K × X)) → KeepsOthers eq test old new → (other : K → Bool) → IsKeyTest eq other → AreApart test other → lookup other new ≡ lookup other old
  unfolding KeepsOthers
  others old new h = h

at_bytes : {W : Type 0} (f g : List ℕ → W) (bs : List ℕ) (w : W) → g bs ≡ w → ((cs : List ℕ) → bytes_eq bs cs ≡ false → g cs ≡ f cs) → (cs : List ℕ) → g cs ≡ cond (bytes_eq bs cs) w (f cs)
at_bytes f g bs w here other cs =
    ⊎_elim
    (λ y. subst (λ l. g l ≡ w) ((bytes_decides bs cs).0 y) here ∙ sym (cond-true (bytes_eq bs cs) w (f cs) y))
    (λ n. other cs n ∙ sym (cond-false (bytes_eq bs cs) w (f cs) n))
    (cases_Bool (bytes_eq bs cs))

-- the value at any bytes cs after a change at the key bs
pub found_after : {K X : Type 0} (bytes : K → List ℕ) (bs : List ℕ) (m n : BTreeMap K X) (w : Option X)
    → UpdatesBy (λ x y. slice_cmp nat_cmp (bytes x) (bytes y)) (λ k. slice_cmp nat_cmp bs (bytes k)) m n w
    → (cs : List ℕ) → value_at bytes n cs ≡ update bytes_eq (value_at bytes m) bs w cs
found_after bytes bs m n w h =
    at_bytes (value_at bytes m) (value_at bytes n) bs w h.1
    (λ cs e. others _ _ _ _ h.3 _ (λ x y. (eq_by_cmp_equiv nat_list_cmp_total).congr cs (bytes x) (bytes y)) (λ k. apart bs cs (bytes k) e))

-- whether a key exists after a change at one
pub there_after : {M : Type 0} (f g : List ℕ → Option M) (p : List ℕ) (w : Option M)
    → ((cs : List ℕ) → g cs ≡ update bytes_eq f p w cs) → (q : List ℕ) → is_some (g q) ≡ cond (bytes_eq p q) (is_some w) (is_some (f q))
there_after f g p w outer q = ap is_some (outer q) ∙ push (bytes_eq p q) where
  push : (b : Bool) → is_some (cond b w (f q)) ≡ cond b (is_some w) (is_some (f q))
  push true = refl
  push false = refl

-- a change of an existing key keeps the set of keys
pub there_still : {M : Type 0} (f g : List ℕ → Option M) (p : List ℕ) (a b : M) → f p ≡ Some a
    → ((cs : List ℕ) → g cs ≡ update bytes_eq f p (Some b) cs) → (q : List ℕ) → is_some (g q) ≡ is_some (f q)
there_still f g p a b here outer q = ⊎_elim
    (λ y. ap is_some (outer q ∙ cond-true (bytes_eq p q) (Some b) (f q) y) ∙ sym (ap is_some (ap f (sym ((bytes_decides p q).0 y)) ∙ here)))
    (λ n. ap is_some (outer q ∙ cond-false (bytes_eq p q) (Some b) (f q) n))
    (cases_Bool (bytes_eq p q))

module _ {M X : Type 0} (v : M → List ℕ → Option X) where
  -- an inner map, set at one key
  pub below_after : (f g : List ℕ → Option M) (p n : List ℕ) (a b : M) (x : Option X)
      → f p ≡ Some a → ((cs : List ℕ) → g cs ≡ update bytes_eq f p (Some b) cs) → ((cs : List ℕ) → v b cs ≡ update bytes_eq (v a) n x cs)
      → (q m : List ℕ) → below v (g q) m ≡ cond (bytes_eq p q) (cond (bytes_eq n m) x (below v (f q) m)) (below v (f q) m)
  below_after f g p n a b x here outer inner q m =
      ⊎_elim
      (λ y.
      let same : p ≡ q = (bytes_decides p q).0 y in
      let was : f q ≡ Some a = ap f (sym same) ∙ here in
      let is : g q ≡ Some b = outer q ∙ cond-true (bytes_eq p q) (Some b) (f q) y in
      rw (is, was) (inner m ∙ sym (cond-true (bytes_eq p q) (cond (bytes_eq n m) x (v a m)) (v a m) y)))
      (λ no.
      let is : g q ≡ f q = outer q ∙ cond-false (bytes_eq p q) (Some b) (f q) no in
      rw is (sym (cond-false (bytes_eq p q) (cond (bytes_eq n m) x (below v (f q) m)) (below v (f q) m) no)))
      (cases_Bool (bytes_eq p q))

  -- an inner map, replaced by one with equal values
  pub below_still : (f g : List ℕ → Option M) (p : List ℕ) (a b : M) → f p ≡ Some a
      → ((cs : List ℕ) → g cs ≡ update bytes_eq f p (Some b) cs) → ((cs : List ℕ) → v b cs ≡ v a cs)
      → (q m : List ℕ) → below v (g q) m ≡ below v (f q) m
  below_still f g p a b here outer inner q m =
      ⊎_elim
      (λ y.
      let was : f q ≡ Some a = ap f (sym ((bytes_decides p q).0 y)) ∙ here in
      let is : g q ≡ Some b = outer q ∙ cond-true (bytes_eq p q) (Some b) (f q) y in
      rw (is, was) (inner m))
      (λ no. rw (outer q ∙ cond-false (bytes_eq p q) (Some b) (f q) no) refl)
      (cases_Bool (bytes_eq p q))

  -- a new inner map with one key
  pub below_new : (f g : List ℕ → Option M) (p n : List ℕ) (b : M) (x : Option X) → f p ≡ None
      → ((cs : List ℕ) → g cs ≡ update bytes_eq f p (Some b) cs) → ((cs : List ℕ) → v b cs ≡ cond (bytes_eq n cs) x None)
      → (q m : List ℕ) → below v (g q) m ≡ cond (bytes_eq p q) (cond (bytes_eq n m) x (below v (f q) m)) (below v (f q) m)
  below_new f g p n b x here outer inner q m =
      ⊎_elim
      (λ y.
      let was : f q ≡ None = ap f (sym ((bytes_decides p q).0 y)) ∙ here in
      let is : g q ≡ Some b = outer q ∙ cond-true (bytes_eq p q) (Some b) (f q) y in
      rw (is, was) (inner m ∙ sym (cond-true (bytes_eq p q) (cond (bytes_eq n m) x None) None y)))
      (λ no.
      let is : g q ≡ f q = outer q ∙ cond-false (bytes_eq p q) (Some b) (f q) no in
      rw is (sym (cond-false (bytes_eq p q) (cond (bytes_eq n m) x (below v (f q) m)) (below v (f q) m) no)))
      (cases_Bool (bytes_eq p q))

  -- an inner map removed
  pub below_gone : (f g : List ℕ → Option M) (p : List ℕ)
      → ((cs : List ℕ) → g cs ≡ update bytes_eq f p None cs)
      → (q m : List ℕ) → below v (g q) m ≡ cond (bytes_eq p q) None (below v (f q) m)
  below_gone f g p outer q m = ap (λ o. below v o m) (outer q) ∙ push (bytes_eq p q) where
    push : (b : Bool) → below v (cond b None (f q)) m ≡ cond b None (below v (f q) m)
    push true = refl
    push false = refl

pub on_err : {T E P : Type 0} (r : Result T E) → P → OnErr r P
on_err (Ok x) p = tt
on_err (Err e) p = p

pub on_ok_map : {T E P Q : Type 0} (r : Result T E) → (P → Q) → OnOk r P → OnOk r Q
on_ok_map (Ok x) f p = f p
on_ok_map (Err e) f p = tt

pub on_err_map : {T E P Q : Type 0} (r : Result T E) → (P → Q) → OnErr r P → OnErr r Q
on_err_map (Ok x) f p = tt
on_err_map (Err e) f p = f p
