-- Slots by number: what they hold, and empty ones.
use Rattle.std.proofs.Common.{◌≡◌, ℕ, ◌<◌, zero, suc, List, [], ◌∷◌, map, set, Option, Some, None, refl, sym, ap, ◌∙◌, length, slice_index_or, rules}
use Rattle.std.specs.Prelude.{option_map, IfSome}
use Rattle.std.proofs.lemmas.List.{set-get_or, get_or_default}
use Rattle.blob_lab_model.specs.Answers.{kept_at}
use Rattle.blob_lab_model.proofs.TableSteps.{kept_seen, map_made}
use Rattle.blob_lab_store.specs.declared.slots.Slots.{Slots}
use Rattle.blob_lab_store.specs.Slots.{by_number, values_of, IsAt}
use Rattle.blob_lab_store.proofs.Found.{kept_by, set_by}

empty_at : {A : Type 0} (slots : List (Option A)) (k : ℕ) → kept_at (set slots k None) k ≡ None
empty_at [] k = refl
empty_at (x ∷ xs) zero = refl
empty_at (x ∷ xs) (suc k) = empty_at xs k

-- a slot that was emptied
emptied : {A B : Type 0} (g : A → B) (slots after : List (Option A)) (k : ℕ) → after ≡ set slots k None → kept_at (map (option_map g) after) k ≡ None
emptied g slots after k e = kept_seen g after k ∙ ap (λ s. option_map g (kept_at s k)) e ∙ ap (option_map g) (empty_at slots k)

-- the same, if there was a value
pub taken_seen : {A B : Type 0} (g : A → B) (o : Option A) (slots after : List (Option A)) (k : ℕ) → IfSome o (λ x. after ≡ set slots k None) → IfSome o (λ x. map (option_map g) after ≡ set (map (option_map g) slots) k None)
taken_seen g None slots after k e = tt
taken_seen g (Some x) slots after k e = map_made (option_map g) slots after k None e

pub emptied_seen : {A B : Type 0} (g : A → B) (o : Option A) (slots after : List (Option A)) (k : ℕ) → IfSome o (λ x. after ≡ set slots k None) → IfSome o (λ x. kept_at (map (option_map g) after) k ≡ None)
emptied_seen g None slots after k e = tt
emptied_seen g (Some x) slots after k e = emptied g slots after k e

-- no value is left
pub none_seen : {A B : Type 0} (g : A → B) (values : List (Option A)) → map (option_map g) (map (λ (value : Option A). None) values) ≡ map (λ (slot : Option B). None) (map (option_map g) values)
none_seen g [] = refl
none_seen {A} {B} g (x ∷ xs) = ap (λ (os : List (Option B)). None ∷ os) (none_seen g xs)

module _ {A B : Type 0} (g : A → B) (s : Slots A) (number i : ℕ) (at : IsAt s number i) where
  lens : length s.values.items ≡ length s.numbers.items
  lens = search rules

  inside : i < length s.numbers.items
  inside = let l = lens in let b = at.0 in search rules

  -- a value that is written to a slot
  pub written : (x : Option A) → map (option_map g) (by_number s.numbers.items (set s.values.items i x) s.given) ≡ set (map (option_map g) (values_of s)) number (option_map g x)
  written x = map_made (option_map g) (values_of s) _ number x (set_by s.numbers.items s.values.items s.given i number x s.ascending s.below lens inside at.1)

  module _ (slot : Option A) (read : slot ≡ slice_index_or s.values.items i slot) where
    held_at : kept_at (map (option_map g) (values_of s)) number ≡ option_map g slot
    held_at = kept_seen g (values_of s) number
        ∙ ap (option_map g) (kept_by s.numbers.items s.values.items s.given i number s.ascending s.below lens inside at.1 ∙ get_or_default s.values.items i None slot (search rules) ∙ sym read)

    -- an open slot, as it was read
    pub open_at : (x : A) → slot ≡ Some x → kept_at (map (option_map g) (values_of s)) number ≡ Some (g x)
    open_at x is = held_at ∙ ap (option_map g) is

    -- a closed slot, as it was read
    pub closed_at : slot ≡ None → kept_at (map (option_map g) (values_of s)) number ≡ None
    closed_at is = held_at ∙ ap (option_map g) is

    -- a slot that is written back as it was
    pub put_back : map (option_map g) (by_number s.numbers.items (set s.values.items i slot) s.given) ≡ map (option_map g) (values_of s)
    put_back = ap (λ vs. map (option_map g) (by_number s.numbers.items vs s.given)) (ap (set s.values.items i) read ∙ set-get_or s.values.items i slot)
