-- The keys of a map by their bytes.
use Rattle.std.proofs.Common.{◌≡◌, ℕ, List, [], ◌∷◌, Bool, false, cond, Some, IsSome, refl, sym, ap, ◌∙◌, subst, arith}
use Rattle.std.specs.Prelude.{map, is_some}
use Rattle.std.specs.BTreeMap.{BTreeMap, keys, is_at, IsOrdered}
use Rattle.std.specs.List.{AllByRecursion, Contains}
use Rattle.std.specs.List.Sorted.{IsStrictlySortedBy}
use Rattle.std.specs.Map.{lookup, keys_of}
use Rattle.std.specs.Ordering.{nat_cmp}
use Rattle.std.specs.declared.cmp.Ordering.{Ordering}
use Rattle.std.specs.declared.cmp.Ordering.TheVariants.{Less}
use Rattle.std.specs.Cmp.Lexicographic.{slice_cmp, bytes_decides, nat_list_eq_equiv}
use Rattle.std.specs.Str.{bytes_eq}
use Rattle.std.proofs.lemmas.Bool.{false≢true}
use Rattle.std.proofs.lemmas.Map.Text.{is_eq-slice_cmp}
use Rattle.std.proofs.lemmas.Map.Views.{IsSome-lookup_from_Contains, Contains-keys_from_lookup}
use Rattle.blob_base.specs.Names.{AreNames}
use Rattle.blob_names.specs.Names.{value_at}

module _ {K : Type 0} (bytes : K → List ℕ) where
  below_all : (cmp : List ℕ → List ℕ → Ordering) (k : K) (ks : List K) → AllByRecursion (λ y. cmp (bytes k) (bytes y) ≡ Less) ks → AllByRecursion (λ y. cmp (bytes k) y ≡ Less) (map bytes ks)
  below_all cmp k [] h = h
  below_all cmp k (x ∷ ks) h = (h.0, below_all cmp k ks h.1)

  pub sorted_by_bytes : (cmp : List ℕ → List ℕ → Ordering) (ks : List K) → IsStrictlySortedBy (λ x y. cmp (bytes x) (bytes y)) ks → IsStrictlySortedBy cmp (map bytes ks)
  unfolding IsStrictlySortedBy
  sorted_by_bytes cmp [] h = h
  sorted_by_bytes cmp (k ∷ ks) h = (below_all cmp k ks h.0, sorted_by_bytes cmp ks h.1)

module _ {K X : Type 0} (bytes : K → List ℕ) where
  -- the entries by the bytes of their keys
  abbrev pub by_bytes : List (K × X) → List (List ℕ × X)
  by_bytes es = map (λ e. (bytes e.0, e.1)) es

  pub lookup_by_bytes : (es : List (K × X)) (n : List ℕ) → lookup (is_at (λ k. slice_cmp nat_cmp n (bytes k))) es ≡ lookup (bytes_eq n) (by_bytes es)
  lookup_by_bytes [] n = refl
  lookup_by_bytes (e ∷ es) n = λ i. cond (is_eq-slice_cmp n (bytes e.0) i) (Some e.1) (lookup_by_bytes es n i)

  pub keys_by_bytes : (es : List (K × X)) → keys_of (by_bytes es) ≡ map bytes (keys_of es)
  keys_by_bytes [] = refl
  keys_by_bytes (e ∷ es) = ap (λ ks. bytes e.0 ∷ ks) (keys_by_bytes es)

  -- the names of a map
  pub names_are : (m : BTreeMap K X) → IsOrdered (λ x y. slice_cmp nat_cmp (bytes x) (bytes y)) m → AreNames (map bytes (keys m)) (λ n. is_some (value_at bytes m n))
  names_are m ordered = record {
    sorted = sorted_by_bytes bytes (slice_cmp nat_cmp) (keys m) ordered;
    complete = λ n. (
      (λ h. subst (λ r. IsSome r) (sym (lookup_by_bytes m.entries n)) (IsSome-lookup_from_Contains nat_list_eq_equiv n (by_bytes m.entries) (subst (λ ks. Contains ks n) (sym (keys_by_bytes m.entries)) h))),
      (λ h. subst (λ ks. Contains ks n) (keys_by_bytes m.entries) (Contains-keys_from_lookup (λ x y. (bytes_decides x y).0) n (by_bytes m.entries) (subst (λ r. IsSome r) (lookup_by_bytes m.entries n) h))),
    );
  }

-- names of a missing partition
pub no_names : (names : List (List ℕ)) (there : List ℕ → Bool) → names ≡ [] → ((n : List ℕ) → there n ≡ false) → AreNames names there
unfolding IsStrictlySortedBy
no_names names there e gone = subst (λ ns. AreNames ns there) (sym e) (record {
  sorted = tt;
  complete = λ n. ((λ h. absurd (nothing n h)), (λ h. absurd (false≢true (sym (gone n) ∙ h))));
}) where
  nothing : (n : List ℕ) → Contains [] n → ⊥
  nothing n h = omega (arith, h.1)
