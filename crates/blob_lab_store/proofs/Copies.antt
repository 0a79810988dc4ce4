-- Copies of slots, as contracts see their values.
use Rattle.std.proofs.Common.{◌≡◌, ℕ, ◌==◌, Bool, true, false, cond, List, [], ◌∷◌, map, Option, refl, sym, ap, ap₂, ◌∙◌}
use Rattle.std.specs.Prelude.{option_map}
use Rattle.std.specs.List.{range_with_len}
use Rattle.blob_lab_store.specs.Slots.{found, by_number}

-- what is seen of the values found is found among what is seen of the values
module _ {A B : Type 0} (f : A → B) where
  by_test : (b : Bool) (v r : Option A) → option_map f (cond b v r) ≡ cond b (option_map f v) (option_map f r)
  by_test true v r = refl
  by_test false v r = refl

  seen_found : (ns : List ℕ) (vs : List (Option A)) (k : ℕ) → option_map f (found ns vs k) ≡ found ns (map (option_map f) vs) k
  seen_found [] vs k = refl
  seen_found (n ∷ ns) [] k = refl
  seen_found (n ∷ ns) (v ∷ vs) k = by_test (n == k) v (found ns vs k) ∙ ap (λ (r : Option B). cond (n == k) (option_map f v) r) (seen_found ns vs k)

  seen_each : (ns : List ℕ) (vs : List (Option A)) (ks : List ℕ) → map (option_map f) (map (found ns vs) ks) ≡ map (found ns (map (option_map f) vs)) ks
  seen_each ns vs [] = refl
  seen_each ns vs (k ∷ ks) = ap₂ (λ (o : Option B) (os : List (Option B)). o ∷ os) (seen_found ns vs k) (seen_each ns vs ks)

  -- copies that are seen alike, by number
  pub seen_alike : (ns : List ℕ) (vs ws : List (Option A)) (given : ℕ) → map (option_map f) ws ≡ map (option_map f) vs → map (option_map f) (by_number ns ws given) ≡ map (option_map f) (by_number ns vs given)
  seen_alike ns vs ws given same =
      seen_each ns ws (range_with_len 0 given)
      ∙ ap (λ (os : List (Option B)). map (found ns os) (range_with_len 0 given)) same
      ∙ sym (seen_each ns vs (range_with_len 0 given))
