-- A table after a borrow ends.
use Rattle.std.proofs.Common.{◌≡◌, subst, refl, sym, ap, ◌∙◌, ⊎_elim, Option, Some, None, IsSome, List, ℕ, Vec, Global}
use Rattle.std.proofs.lemmas.Bool.{cases_Bool, cond-true, cond-false}
use Rattle.std.specs.Cmp.Lexicographic.{slice_cmp, bytes_decides}
use Rattle.std.specs.Ordering.{nat_cmp}
use Rattle.std.specs.Option.{OnSome, option_copied_mut}
use Rattle.std.proofs.lemmas.Bool.{false≢true}
use Rattle.std.specs.Borrow.{MutBor}
use Rattle.std.specs.Str.{bytes_eq}
use Rattle.std.specs.String.{string_bytes}
use Rattle.std.specs.BTreeMap.{BTreeMap, UpdatesBy}
use Rattle.blob_memory.specs.declared.item.Item.{Item}
use Rattle.blob_memory.specs.declared.partitions.Partitions.{Partitions}
use Rattle.blob_names.specs.Names.{value_at}
use Rattle.blob_memory.specs.Partitions.{item_at, is_there, with_item, HasItems}
use Rattle.blob_memory.proofs.ByBytes.{below_after, below_still, found_after, there_still}

pub on_some : {T P : Type 0} (r : Option T) → (IsSome r → P) → OnSome r P
on_some (Some x) h = h refl
on_some None h = tt

pub copied_some : {T : Type 0} (r : Option (MutBor T)) (x : Option T) → option_copied_mut r ≡ x → IsSome r → IsSome x
copied_some (Some y) x is h = subst IsSome is refl
copied_some None x is h = absurd (false≢true h)

pub where_some : {T P : Type 0} (r : Option T) (x : T) → r ≡ Some x → OnSome r P → P
where_some {P = P} r x is h = subst (λ o. OnSome o P) is h

-- a table in which partition p has the names b
abbrev Sets : Partitions → Partitions → List ℕ → BTreeMap (Vec ℕ Global) Item → Type 0
Sets s t p b = UpdatesBy (λ x y. slice_cmp nat_cmp (string_bytes x) (string_bytes y)) (λ k. slice_cmp nat_cmp p (string_bytes k)) s.names t.names (Some b)

module _ (s t : Partitions) (p : List ℕ) (a b : BTreeMap (Vec ℕ Global) Item) (here : value_at string_bytes s.names p ≡ Some a) (outer : Sets s t p b) where
  -- an item set in an existing partition
  pub altered : (n : List ℕ) (x : Option Item) → UpdatesBy (λ x y. slice_cmp nat_cmp x.items y.items) (λ k. slice_cmp nat_cmp n k.items) a b x
      → HasItems t (with_item (item_at s) p n x) (is_there s)
  altered n x inner =
      let last = found_after string_bytes p s.names t.names (Some b) outer in record {
        items = below_after (value_at (λ k. k.items)) (value_at string_bytes s.names) (value_at string_bytes t.names) p n a b x here last (found_after (λ k. k.items) n a b x inner);
        partitions = there_still (value_at string_bytes s.names) (value_at string_bytes t.names) p a b here last;
      }

  -- an unchanged partition
  pub unaltered : b ≡ a → HasItems t (item_at s) (is_there s)
  unaltered same =
      let last = found_after string_bytes p s.names t.names (Some b) outer in record {
        items = below_still (value_at (λ k. k.items)) (value_at string_bytes s.names) (value_at string_bytes t.names) p a b here last (λ m. ap (λ e. value_at (λ k. k.items) e m) same);
        partitions = there_still (value_at string_bytes s.names) (value_at string_bytes t.names) p a b here last;
      }

-- the same for equal names
pub has_at : (s t : Partitions) (x : Option Item) (p q n m : List ℕ) → p ≡ q → n ≡ m → HasItems t (with_item (item_at s) p n x) (is_there s) → HasItems t (with_item (item_at s) q m x) (is_there s)
has_at s t x p q n m e d h = subst (λ (l : List ℕ). HasItems t (with_item (item_at s) q l x) (is_there s)) d (subst (λ (l : List ℕ). HasItems t (with_item (item_at s) l n x) (is_there s)) e h)

-- a name set to its own item
same_item : (f : List ℕ → List ℕ → Option Item) (p n q m : List ℕ) → with_item f p n (f p n) q m ≡ f q m
same_item f p n q m = ⊎_elim
    (λ y. cond-true (bytes_eq p q) _ (f q m) y ∙ ⊎_elim
    (λ z. cond-true (bytes_eq n m) (f p n) (f q m) z ∙ ap (λ (l : List ℕ). f l n) ((bytes_decides p q).0 y) ∙ ap (f q) ((bytes_decides n m).0 z))
    (λ e. cond-false (bytes_eq n m) (f p n) (f q m) e)
    (cases_Bool (bytes_eq n m)))
    (λ e. cond-false (bytes_eq p q) _ (f q m) e)
    (cases_Bool (bytes_eq p q))

pub has_same : (s t : Partitions) (x : Option Item) (p n : List ℕ) → item_at s p n ≡ x → HasItems t (with_item (item_at s) p n x) (is_there s) → HasItems t (item_at s) (is_there s)
has_same s t x p n is h =
    let made : HasItems t (with_item (item_at s) p n (item_at s p n)) (is_there s) = subst (λ (y : Option Item). HasItems t (with_item (item_at s) p n y) (is_there s)) (sym is) h in record {
      items = λ q m. made.items q m ∙ same_item (item_at s) p n q m;
      partitions = made.partitions;
    }
