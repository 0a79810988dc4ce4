-- Copies of lists: what contracts see of each value is the same.
use Rattle.std.proofs.Common.{◌≡◌, List, [], ◌∷◌, map, refl, ap₂}
use Rattle.std.specs.List.{AllZip}

module _ {A B : Type 0} (seen : A → B) (R : A → A → Type 0) (same : (a b : A) → R a b → seen b ≡ seen a) where
  pub seen_alike : (xs ys : List A) → AllZip R xs ys → map seen ys ≡ map seen xs
  seen_alike [] [] h = refl
  seen_alike [] (y ∷ ys) h = absurd h
  seen_alike (x ∷ xs) [] h = absurd h
  seen_alike (x ∷ xs) (y ∷ ys) h = ap₂ (λ (b : B) (bs : List B). b ∷ bs) (same x y h.0) (seen_alike xs ys h.1)
