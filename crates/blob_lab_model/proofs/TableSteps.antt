-- Tables of slots through a view of their values.
use Rattle.std.proofs.Common.{◌≡◌, ℕ, ◌≤◌, ◌++◌, List, [], ◌∷◌, map, set, Option, Some, None, refl, ap, ◌∙◌, length}
use Rattle.std.specs.Prelude.{IfSome, option_map, option_and_then, slice_get}
use Rattle.std.proofs.lemmas.List.{map-append, map-set}
use Rattle.std.proofs.lemmas.Option.{slice_get-map, slice_get_past}
use Rattle.blob_lab_model.specs.Answers.{kept_at}

pub map_push : {A B : Type 0} (f : A → B) (xs ys : List A) (x : A) → ys ≡ xs ++ x ∷ [] → map f ys ≡ map f xs ++ f x ∷ []
map_push f xs ys x e = ap (map f) e ∙ map-append f xs (x ∷ [])

pub map_made : {A B : Type 0} (f : A → B) (xs ys : List A) (i : ℕ) (x : A) → ys ≡ set xs i x → map f ys ≡ set (map f xs) i (f x)
map_made f xs ys i x e = ap (map f) e ∙ map-set f xs i x

slot_seen : {A B : Type 0} (g : A → B) (slot : Option (Option A)) → option_and_then (λ s. s) (option_map (option_map g) slot) ≡ option_map g (option_and_then (λ s. s) slot)
slot_seen g None = refl
slot_seen g (Some None) = refl
slot_seen g (Some (Some x)) = refl

-- the view of a slot's value
pub kept_seen : {A B : Type 0} (g : A → B) (slots : List (Option A)) (k : ℕ) → kept_at (map (option_map g) slots) k ≡ option_map g (kept_at slots k)
kept_seen g slots k = ap (option_and_then (λ s. s)) (slice_get-map (option_map g) slots k) ∙ slot_seen g (slice_get slots k)

-- there is no slot with this number
pub kept_past : {A B : Type 0} (g : A → B) (slots : List (Option A)) (k : ℕ) → length slots ≤ k → kept_at (map (option_map g) slots) k ≡ None
kept_past g slots k past = kept_seen g slots k ∙ ap (λ o. option_map g (option_and_then (λ s. s) o)) (slice_get_past slots k past)

pub where_some : {X : Type 0} (o : Option X) (P : Type 0) → P → IfSome o (λ x. P)
where_some None P p = tt
where_some (Some x) P p = p
