-- A map of names after the value of one name is set.
use Rattle.std.proofs.Common.{◌≡◌, ℕ, List, Bool, true, false, refl, ap, ◌∙◌, ⊎_elim, cond}
use Rattle.std.specs.Str.{bytes_eq}
use Rattle.std.specs.Cmp.Lexicographic.{bytes_decides}
use Rattle.std.proofs.lemmas.Bool.{cases_Bool, cond-true, cond-false}
use Rattle.blob_names.specs.Names.{with_name}

pub with_at_here : {X : Type 0} (f : List ℕ → List ℕ → X) (p n : List ℕ) (x : X) → with_name f p n x p n ≡ x
with_at_here f p n x = cond-true (bytes_eq p p) (cond (bytes_eq n n) x (f p n)) (f p n) ((bytes_decides p p).1 refl) ∙ cond-true (bytes_eq n n) x (f p n) ((bytes_decides n n).1 refl)

twice : {X : Type 0} (b d : Bool) (x y z : X) → cond b (cond d y (cond b (cond d x z) z)) (cond b (cond d x z) z) ≡ cond b (cond d y z) z
twice true true x y z = refl
twice true false x y z = refl
twice false d x y z = refl

pub with_at_twice : {X : Type 0} (f : List ℕ → List ℕ → X) (p n : List ℕ) (x y : X) → with_name (with_name f p n x) p n y ≡ with_name f p n y
with_at_twice f p n x y = λ i q m. twice (bytes_eq p q) (bytes_eq n m) x y (f q m) i

pub with_at_same : {X : Type 0} (f : List ℕ → List ℕ → X) (p n : List ℕ) → with_name f p n (f p n) ≡ f
with_at_same f p n = λ i q m. go q m i where
  go : (q m : List ℕ) → with_name f p n (f p n) q m ≡ f q m
  go q m =
      ⊎_elim
      (λ y. ⊎_elim
      (λ z. cond-true (bytes_eq p q) (cond (bytes_eq n m) (f p n) (f q m)) (f q m) y ∙ cond-true (bytes_eq n m) (f p n) (f q m) z ∙ ap (λ l. f l n) ((bytes_decides p q).0 y) ∙ ap (f q) ((bytes_decides n m).0 z))
      (λ no. cond-true (bytes_eq p q) (cond (bytes_eq n m) (f p n) (f q m)) (f q m) y ∙ cond-false (bytes_eq n m) (f p n) (f q m) no)
      (cases_Bool (bytes_eq n m)))
      (λ no. cond-false (bytes_eq p q) (cond (bytes_eq n m) (f p n) (f q m)) (f q m) no)
      (cases_Bool (bytes_eq p q))
