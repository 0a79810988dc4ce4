-- A table of names after a change at one key.
use Rattle.std.proofs.Common.{◌≡◌, ℕ, List, Bool, true, false, cond, Option, Some, None, is_some, refl, sym, ap, subst, ◌∙◌, ⊎_elim}
use Rattle.std.specs.BTreeMap.{BTreeMap, UpdatesBy, get_by}
use Rattle.std.specs.Global.{Global}
use Rattle.std.specs.Prelude.{Vec}
use Rattle.std.specs.Ordering.{nat_cmp, is_eq}
use Rattle.std.specs.Cmp.Lexicographic.{slice_cmp, bytes_decides, nat_list_cmp_total, nat_list_eq_equiv}
use Rattle.std.specs.Cmp.{eq_by_cmp_equiv}
use Rattle.std.specs.Map.{lookup, IsKeyTest, AreApart, KeepsOthers}
use Rattle.std.specs.Str.{bytes_eq}
use Rattle.std.proofs.lemmas.Bool.{cases_Bool, cond-true, cond-false}
use Rattle.std.proofs.lemmas.Map.Text.{is_eq-slice_cmp}
use Rattle.blob_directory.specs.Tables.{flat}

apart : (bs cs ks : List ℕ) → bytes_eq bs cs ≡ false → is_eq (slice_cmp nat_cmp bs ks) ≡ true → is_eq (slice_cmp nat_cmp cs ks) ≡ false
apart bs cs ks n y =
    let e : bytes_eq bs ks ≡ true = sym (is_eq-slice_cmp bs ks) ∙ y in
    is_eq-slice_cmp cs ks ∙ nat_list_eq_equiv.symm cs ks ∙ sym (nat_list_eq_equiv.congr bs ks cs e) ∙ n

module _ {K : Type 0} (eq : K → K → Bool) (test : K → Bool) where
  others : {X : Type 0} (old new : List (K × X)) → KeepsOthers eq test old new → (other : K → Bool) → IsKeyTest eq other → AreApart test other → lookup other new ≡ lookup other old
  unfolding KeepsOthers
  others old new h = h

-- what a map has at the key with these bytes
abbrev pub at : {X : Type 0} → BTreeMap (Vec ℕ Global) X → List ℕ → Option X
at m bs = get_by (λ k. slice_cmp nat_cmp bs k.items) m

at_bytes : {W : Type 0} (f g : List ℕ → W) (bs : List ℕ) (w : W) → g bs ≡ w → ((cs : List ℕ) → bytes_eq bs cs ≡ false → g cs ≡ f cs) → (cs : List ℕ) → g cs ≡ cond (bytes_eq bs cs) w (f cs)
at_bytes f g bs w here other cs =
    ⊎_elim
    (λ y. subst (λ l. g l ≡ w) ((bytes_decides bs cs).0 y) here ∙ sym (cond-true (bytes_eq bs cs) w (f cs) y))
    (λ n. other cs n ∙ sym (cond-false (bytes_eq bs cs) w (f cs) n))
    (cases_Bool (bytes_eq bs cs))

-- at any key after a change at one
pub found_after : {X : Type 0} (bs : List ℕ) (m n : BTreeMap (Vec ℕ Global) X) (w : Option X)
    → UpdatesBy (λ x y. slice_cmp nat_cmp x.items y.items) (λ k. slice_cmp nat_cmp bs k.items) m n w
    → (cs : List ℕ) → at n cs ≡ cond (bytes_eq bs cs) w (at m cs)
found_after bs m n w h =
    at_bytes (at m) (at n) bs w h.1
    (λ cs e. others _ _ _ _ h.3 _ (λ x y. (eq_by_cmp_equiv nat_list_cmp_total).congr cs x.items y.items) (λ k. apart bs cs k.items e))

none_flat : {T : Type 0} (x : Option (Option T)) → is_some x ≡ false → flat x ≡ None
none_flat None e = refl
none_flat (Some x) e = absurd (cc)

module _ {T : Type 0} (f g : List ℕ → Option (Option T)) (k : List ℕ) (w : Option (Option T)) (h : (e : List ℕ) → g e ≡ cond (bytes_eq k e) w (f e)) where
  -- a cell that binds nothing is set to one that binds nothing
  pub same_flat : flat (f k) ≡ None → flat w ≡ None → (e : List ℕ) → flat (f e) ≡ flat (g e)
  same_flat here none e = ⊎_elim
      (λ y. ap (λ l. flat (f l)) (sym ((bytes_decides k e).0 y)) ∙ here ∙ sym none ∙ sym (ap flat (h e ∙ cond-true (bytes_eq k e) w (f e) y)))
      (λ no. sym (ap flat (h e ∙ cond-false (bytes_eq k e) w (f e) no)))
      (cases_Bool (bytes_eq k e))

  -- a cell is set
  pub set_flat : (e : List ℕ) → flat (g e) ≡ cond (bytes_eq k e) (flat w) (flat (f e))
  set_flat e = ⊎_elim
      (λ y. ap flat (h e ∙ cond-true (bytes_eq k e) w (f e) y) ∙ sym (cond-true (bytes_eq k e) (flat w) (flat (f e)) y))
      (λ no. ap flat (h e ∙ cond-false (bytes_eq k e) w (f e) no) ∙ sym (cond-false (bytes_eq k e) (flat w) (flat (f e)) no))
      (cases_Bool (bytes_eq k e))

  -- a cell that is there stays there
  pub still_some : is_some w ≡ true → (e : List ℕ) → is_some (f e) ≡ true → is_some (g e) ≡ true
  still_some some e was = ⊎_elim
      (λ y. ap is_some (h e ∙ cond-true (bytes_eq k e) w (f e) y) ∙ some)
      (λ no. ap is_some (h e ∙ cond-false (bytes_eq k e) w (f e) no) ∙ was)
      (cases_Bool (bytes_eq k e))

pub flat_of_none : {T : Type 0} (x : Option (Option T)) → is_some x ≡ false → flat x ≡ None
flat_of_none x e = none_flat x e
