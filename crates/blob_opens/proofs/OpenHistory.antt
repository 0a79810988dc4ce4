-- The numbers of open names over any history.
use Rattle.std.proofs.Common.{◌≡◌, ◌≢◌, ℕ, ◌<◌, ◌⊎◌, inl, inr, List, [], ◌∷◌, Bool, true, false, ◌==◌, Option, Some, None, refl, ap, ◌∙◌, cond, if◌then◌else◌, ⊎_elim, arith}
use Rattle.std.proofs.lemmas.Bool.{cases_Bool, eqb-true, cond-true, cond-false}
use Rattle.std.specs.Str.{bytes_eq}
use Rattle.std.specs.Cmp.Lexicographic.{bytes_decides}
use Rattle.blob_names.specs.Names.{with_name}
use Rattle.blob_opens.specs.OpenNames.{Registration, Deed, Opened, Closed, Ended, Rebuilt, after_deeds, unless_number}

-- one of two is picked
picked : (b d : Bool) (x y : Option ℕ) (k : ℕ) → cond b (cond d x y) y ≡ Some k → (x ≡ Some k) ⊎ (y ≡ Some k)
picked true true x y k e = inl e
picked true false x y k e = inr e
picked false d x y k e = inr e

was : (j k : ℕ) (o : Option ℕ) → unless_number j o ≡ Some k → o ≡ Some k
was j k None e = e
was j k (Some m) e = by_test (m == j) e where
  by_test : (b : Bool) → (if b then None else Some m) ≡ Some k → Some m ≡ Some k
  by_test true f = cc
  by_test false f = f

-- an open's number was given before
pub numbers_below : (h : List Deed) (p n : List ℕ) (k : ℕ) → (after_deeds h).registered p n ≡ Some k → k < (after_deeds h).next
numbers_below [] p n k e = cc
numbers_below (Opened q m ∷ h) p n k e =
    ⊎_elim
    (λ (here : Some (after_deeds h).next ≡ Some k). let same : (after_deeds h).next ≡ k = cc in omega arith)
    (λ (there : (after_deeds h).registered p n ≡ Some k). let below : k < (after_deeds h).next = numbers_below h p n k there in omega arith)
    (picked (bytes_eq q p) (bytes_eq m n) (Some (after_deeds h).next) ((after_deeds h).registered p n) k e)
numbers_below (Closed r ∷ h) p n k e =
    ⊎_elim
    (λ here. numbers_below h r.partition r.name k (was r.number k ((after_deeds h).registered r.partition r.name) here))
    (λ there. numbers_below h p n k there)
    (picked (bytes_eq r.partition p) (bytes_eq r.name n) (unless_number r.number ((after_deeds h).registered r.partition r.name)) ((after_deeds h).registered p n) k e)
numbers_below (Ended q (Some m) ∷ h) p n k e =
    ⊎_elim
    (λ (here : None ≡ Some k). cc)
    (λ there. numbers_below h p n k there)
    (picked (bytes_eq q p) (bytes_eq m n) None ((after_deeds h).registered p n) k e)
numbers_below (Ended q None ∷ h) p n k e =
    ⊎_elim
    (λ (here : None ≡ Some k). cc)
    (λ there. numbers_below h p n k there)
    (picked (bytes_eq q p) true None ((after_deeds h).registered p n) k e)
numbers_below (Rebuilt ∷ h) p n k e = cc

stays : (j k : ℕ) → k ≢ j → unless_number j (Some k) ≡ Some k
stays j k o = by_test (k == j) refl where
  by_test : (b : Bool) → (k == j) ≡ b → (if b then None else Some k) ≡ Some k
  by_test true e = absurd (o (eqb-true k j e))
  by_test false e = refl

-- a change at one name that keeps this
changed_at : (f : List ℕ → List ℕ → Option ℕ) (q m : List ℕ) (g : Option ℕ → Option ℕ) (p n : List ℕ) (k : ℕ) → f p n ≡ Some k → g (Some k) ≡ Some k → with_name f q m (g (f q m)) p n ≡ Some k
changed_at f q m g p n k e same =
    ⊎_elim
    (λ y. ⊎_elim
    (λ z.
    let here : f q m ≡ Some k = ap (λ l. f l m) ((bytes_decides q p).0 y) ∙ ap (f p) ((bytes_decides m n).0 z) ∙ e in
    cond-true (bytes_eq q p) (cond (bytes_eq m n) (g (f q m)) (f p n)) (f p n) y ∙ cond-true (bytes_eq m n) (g (f q m)) (f p n) z ∙ ap g here ∙ same)
    (λ no. cond-true (bytes_eq q p) (cond (bytes_eq m n) (g (f q m)) (f p n)) (f p n) y ∙ cond-false (bytes_eq m n) (g (f q m)) (f p n) no ∙ e)
    (cases_Bool (bytes_eq m n)))
    (λ no. cond-false (bytes_eq q p) (cond (bytes_eq m n) (g (f q m)) (f p n)) (f p n) no ∙ e)
    (cases_Bool (bytes_eq q p))

-- the close of another handle
pub close_leaves : (h : List Deed) (r : Registration) (p n : List ℕ) (k : ℕ) → (after_deeds h).registered p n ≡ Some k → k ≢ r.number → (after_deeds (Closed r ∷ h)).registered p n ≡ Some k
close_leaves h r p n k e o = changed_at (after_deeds h).registered r.partition r.name (unless_number r.number) p n k e (stays r.number k o)
