-- A copy of a map of names has the same value at each name.
use Rattle.std.proofs.Common.{◌≡◌, ℕ, List, Option, Some, None, ap, Vec, Global}
use Rattle.std.specs.Prelude.{vec_len}
use Rattle.std.specs.BTreeMap.{BTreeMap, IsClone, is_at}
use Rattle.std.specs.List.{AllZip, each_same}
use Rattle.std.specs.Option.{MatchOption, IsSomeAnd}
use Rattle.std.specs.Ordering.{nat_cmp, is_eq}
use Rattle.std.specs.Cmp.Lexicographic.{slice_cmp}
use Rattle.std.specs.String.{string_bytes}
use Rattle.std.specs.declared.string.String.{String}
use Rattle.std.proofs.lemmas.Map.Entries.{lookup_clone}
use Rattle.blob_names.specs.Names.{value_at, below}

-- a clone of a name
abbrev CopiesName : Vec ℕ Global → Vec ℕ Global → Type 0
CopiesName v w = AllZip (λ x y. y ≡ x) v.items w.items × (vec_len w ≡ vec_len v)

module _ {V : Type 0} (is_clone : V → V → Type 0) (same : (a b : V) → is_clone a b → b ≡ a) where
  abbrev Inner : Type 0
  Inner = BTreeMap (Vec ℕ Global) V

  -- a clone of a partition
  abbrev CopiesNames : Inner → Inner → Type 0
  CopiesNames m n = IsClone CopiesName is_clone m n

  copied_value : (r s : Option V) → MatchOption r (s ≡ None) (λ v. IsSomeAnd s (is_clone v)) → s ≡ r
  copied_value None s e = e
  copied_value (Some v) None e = absurd e
  copied_value (Some v) (Some w) e = ap Some (same v w e)

  names_found : (m n : Inner) → CopiesNames m n → (bs : List ℕ) → value_at (λ k. k.items) n bs ≡ value_at (λ k. k.items) m bs
  names_found m n h bs = copied_value (value_at (λ k. k.items) m bs) (value_at (λ k. k.items) n bs)
      (lookup_clone CopiesName is_clone (is_at (λ k. slice_cmp nat_cmp bs k.items)) (λ x y c. ap (λ is. is_eq (slice_cmp nat_cmp bs is)) (each_same x.items y.items c.0)) m.entries n.entries h)

  pub same_at : (m n : BTreeMap (String Global) Inner) → IsClone (λ s t. string_bytes t ≡ string_bytes s) CopiesNames m n
      → (p k : List ℕ) → below (value_at (λ j. j.items)) (value_at string_bytes n p) k ≡ below (value_at (λ j. j.items)) (value_at string_bytes m p) k
  same_at m n h p k = at (value_at string_bytes m p) (value_at string_bytes n p)
      (lookup_clone (λ s t. string_bytes t ≡ string_bytes s) CopiesNames (is_at (λ k. slice_cmp nat_cmp p (string_bytes k))) (λ x y c. ap (λ bs. is_eq (slice_cmp nat_cmp p bs)) c) m.entries n.entries h)
    where
      at : (r s : Option Inner) → MatchOption r (s ≡ None) (λ names. IsSomeAnd s (CopiesNames names)) → below (value_at (λ j. j.items)) s k ≡ below (value_at (λ j. j.items)) r k
      at None s e = ap (λ (o : Option Inner). below (value_at (λ j. j.items)) o k) e
      at (Some x) None e = absurd e
      at (Some x) (Some y) e = names_found x y e k
