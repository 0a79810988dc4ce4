-- Copies of a table of names.
use Rattle.std.proofs.Common.{◌≡◌, ℕ, List, Option, Some, None, refl, ap, Vec, Global}
use Rattle.std.specs.Prelude.{vec_len}
use Rattle.std.specs.BTreeMap.{BTreeMap, IsClone, is_at}
use Rattle.std.specs.List.{AllZip, each_same}
use Rattle.std.specs.Option.{MatchOption, IsSomeAnd}
use Rattle.std.specs.Ordering.{nat_cmp, is_eq}
use Rattle.std.specs.Cmp.Lexicographic.{slice_cmp}
use Rattle.std.proofs.lemmas.Map.Entries.{lookup_clone}
use Rattle.blob_directory.specs.Tables.{flat}
use Rattle.blob_directory.proofs.Maps.{at}

-- a clone of an entry
abbrev pub CopiesEntry : Vec ℕ Global → Vec ℕ Global → Type 0
CopiesEntry v w = AllZip (λ x y. y ≡ x) v.items w.items × (vec_len w ≡ vec_len v)

-- clones of options, by those of their values
pub same_option : {B : Type 0} (D : Option B → Option B → Type 0) → ((y : B) → D None (Some y) → ⊥) → ((x : B) → D (Some x) None → ⊥) → ((x y : B) → D (Some x) (Some y) → y ≡ x)
    → (a b : Option B) → D a b → b ≡ a
same_option D more less same None None h = refl
same_option D more less same None (Some y) h = absurd (more y h)
same_option D more less same (Some x) None h = absurd (less x h)
same_option D more less same (Some x) (Some y) h = ap Some (same x y h)

module _ {B : Type 0} (D : Option B → Option B → Type 0) (same : (a b : Option B) → D a b → b ≡ a) where
  copied_cell : (r s : Option (Option B)) → MatchOption r (s ≡ None) (λ v. IsSomeAnd s (D v)) → flat s ≡ flat r
  copied_cell None s e = ap flat e
  copied_cell (Some v) None e = absurd e
  copied_cell (Some v) (Some w) e = same v w e

  -- what a clone of a table has at each entry
  pub copied_at : (m n : BTreeMap (Vec ℕ Global) (Option B)) → IsClone CopiesEntry D m n → (bs : List ℕ) → flat (at n bs) ≡ flat (at m bs)
  copied_at m n h bs = copied_cell (at m bs) (at n bs)
      (lookup_clone CopiesEntry D (is_at (λ k. slice_cmp nat_cmp bs k.items)) (λ x y c. ap (λ is. is_eq (slice_cmp nat_cmp bs is)) (each_same x.items y.items c.0)) m.entries n.entries h)
