-- The listing of a store has each blob once, in order.
use Rattle.std.proofs.Common.{◌≡◌, ℕ, List, [], ◌∷◌, ◌++◌, Bool, true, false, cond, Option, Some, None, ◌⊎◌, inl, inr, ⊎_elim, refl, sym, ap, ◌∙◌, subst, arith, Vec, Global}
use Rattle.std.specs.Prelude.{map, option_map}
use Rattle.std.specs.BTreeMap.{BTreeMap, keys, is_at}
use Rattle.std.specs.List.{AllByRecursion, Contains, IsDistinct}
use Rattle.std.specs.List.Sorted.{IsStrictlySortedBy}
use Rattle.std.specs.Map.{lookup, keys_of}
use Rattle.std.specs.Ordering.{nat_cmp, ordering_then}
use Rattle.std.specs.String.{string_bytes}
use Rattle.std.specs.declared.string.String.{String}
use Rattle.std.specs.declared.cmp.Ordering.{Ordering}
use Rattle.std.specs.declared.cmp.Ordering.TheVariants.{Less, Equal}
use Rattle.std.specs.Cmp.Lexicographic.{slice_cmp, bytes_decides, nat_list_eq_equiv}
use Rattle.std.specs.Str.{bytes_eq}
use Rattle.std.proofs.lemmas.List.Elements.{Contains-append_left, Contains-append_right, Contains-push, Contains-push_cases, Contains-append_cases}
use Rattle.std.proofs.lemmas.Map.Keys.{IsDistinct-from_sorted}
use Rattle.std.proofs.lemmas.Cmp.{tied_itself, nat_list_cmp_total}
use Rattle.std.proofs.lemmas.Map.Text.{is_eq-slice_cmp}
use Rattle.std.proofs.lemmas.Map.Views.{lookup-from_Contains, Contains-from_lookup}
use Rattle.blob_memory.specs.Audit.{Listed, listed_cmp, IsListing}
use Rattle.blob_memory.specs.declared.item.Item.{Item}
use Rattle.blob_memory.specs.Listing.{Names, raw_bytes, raw_in, listing_entry, listing_in, listing_all, AreOrdered, AreOrderedNames, AreAllOrdered}
use Rattle.blob_names.specs.Names.{value_at, below}
use Rattle.blob_memory.proofs.Listings.{by_bytes, lookup_by_bytes, keys_by_bytes, sorted_by_bytes}

empty : {X : Type 0} (x : X) → Contains [] x → ⊥
empty x h = omega (arith, h.1)

here : {X : Type 0} (x : X) (xs : List X) → Contains (x ∷ xs) x
here x xs = Contains-append_left (x ∷ []) xs x (Contains-push [] x)

later : {X : Type 0} (x : X) (xs : List X) (y : X) → Contains xs y → Contains (x ∷ xs) y
later x xs y h = Contains-append_right (x ∷ []) xs y h

first_or_later : {X : Type 0} (x : X) (xs : List X) (y : X) → Contains (x ∷ xs) y → (x ≡ y) ⊎ Contains xs y
first_or_later x xs y h = ⊎_elim (λ l. ⊎_elim (λ e. absurd (empty y e)) (λ e. inl e) (Contains-push_cases [] x y l)) (λ r. inr r) (Contains-append_cases (x ∷ []) xs y h)

-- ---- one partition

-- the raw bytes by name
abbrev raws : List (Vec ℕ Global × Item) → List (List ℕ × List ℕ)
raws es = map (λ e. (e.0.items, raw_bytes e.1)) es

in_contains : (p : List ℕ) (es : List (Vec ℕ Global × Item)) (b : Listed) → Contains (listing_in p es) b → (p ≡ b.partition) × Contains (raws es) (b.name, b.bytes)
in_contains p [] b h = absurd (empty b h)
in_contains p (e ∷ es) b h = ⊎_elim
    (λ is. (ap (λ (c : Listed). c.partition) is, subst (λ (c : Listed). Contains (raws (e ∷ es)) (c.name, c.bytes)) is (here (e.0.items, raw_bytes e.1) (raws es))))
    (λ l. let k = in_contains p es b l in (k.0, later (e.0.items, raw_bytes e.1) (raws es) (b.name, b.bytes) k.1))
    (first_or_later (listing_entry p e) (listing_in p es) b h)

abbrev of_pair : List ℕ → List ℕ × List ℕ → Listed
of_pair p q = record { partition = p; name = q.0; bytes = q.1 }

in_back : (p : List ℕ) (es : List (Vec ℕ Global × Item)) (q : List ℕ × List ℕ) → Contains (raws es) q → Contains (listing_in p es) (of_pair p q)
in_back p [] q h = absurd (empty q h)
in_back p (e ∷ es) q h = ⊎_elim
    (λ is. subst (λ r. Contains (listing_in p (e ∷ es)) (of_pair p r)) is (here (listing_entry p e) (listing_in p es)))
    (λ l. later (listing_entry p e) (listing_in p es) (of_pair p q) (in_back p es q l))
    (first_or_later (e.0.items, raw_bytes e.1) (raws es) q h)

lookup_raws : (es : List (Vec ℕ Global × Item)) (n : List ℕ) → lookup (bytes_eq n) (raws es) ≡ option_map raw_bytes (lookup (is_at (λ k. slice_cmp nat_cmp n k.items)) es)
lookup_raws [] n = refl
lookup_raws (e ∷ es) n = (λ i. cond (sym (is_eq-slice_cmp n e.0.items) i) (Some (raw_bytes e.1)) (lookup_raws es n i)) ∙ push (is_at (λ k. slice_cmp nat_cmp n k.items) e.0) where
  push : (t : Bool) → cond t (Some (raw_bytes e.1)) (option_map raw_bytes (lookup (is_at (λ k. slice_cmp nat_cmp n k.items)) es)) ≡ option_map raw_bytes (cond t (Some e.1) (lookup (is_at (λ k. slice_cmp nat_cmp n k.items)) es))
  push true = refl
  push false = refl

keys_raws : (es : List (Vec ℕ Global × Item)) → keys_of (raws es) ≡ map (λ k. k.items) (keys_of es)
keys_raws [] = refl
keys_raws (e ∷ es) = ap (λ ks. e.0.items ∷ ks) (keys_raws es)

distinct : (ks : List (List ℕ)) → IsStrictlySortedBy (slice_cmp nat_cmp) ks → IsDistinct bytes_eq ks
distinct ks h = subst (λ (eq : List ℕ → List ℕ → Bool). IsDistinct eq ks) (λ i x y. is_eq-slice_cmp x y i) (IsDistinct-from_sorted (slice_cmp nat_cmp) ks h)

-- ---- all partitions

all_contains : (ps : List (String Global × Names)) → AreAllOrdered ps → (b : Listed) → Contains (listing_all ps) b
    → (m : Names) × Contains (by_bytes string_bytes ps) (b.partition, m) × Contains (raws m.entries) (b.name, b.bytes) × AreOrderedNames m
all_contains [] o b h = absurd (empty b h)
all_contains (e ∷ ps) o b h = ⊎_elim
    (λ l. let k = in_contains (string_bytes e.0) e.1.entries b l in
    (e.1, subst (λ p. Contains (by_bytes string_bytes (e ∷ ps)) (p, e.1)) k.0 (here (string_bytes e.0, e.1) (by_bytes string_bytes ps)), k.1, o.0))
    (λ r. let k = all_contains ps o.1 b r in (k.0, later (string_bytes e.0, e.1) (by_bytes string_bytes ps) (b.partition, k.0) k.1, k.2, k.3))
    (Contains-append_cases (listing_in (string_bytes e.0) e.1.entries) (listing_all ps) b h)

all_back : (ps : List (String Global × Names)) (q : List ℕ × Names) (r : List ℕ × List ℕ) → Contains (by_bytes string_bytes ps) q → Contains (raws q.1.entries) r → Contains (listing_all ps) (of_pair q.0 r)
all_back [] q r h k = absurd (empty q h)
all_back (e ∷ ps) q r h k = ⊎_elim
    (λ is. Contains-append_left (listing_in (string_bytes e.0) e.1.entries) (listing_all ps) (of_pair q.0 r) (subst (λ (q : List ℕ × Names). Contains (raws q.1.entries) r → Contains (listing_in (string_bytes e.0) e.1.entries) (of_pair q.0 r)) is (in_back (string_bytes e.0) e.1.entries r) k))
    (λ l. Contains-append_right (listing_in (string_bytes e.0) e.1.entries) (listing_all ps) (of_pair q.0 r) (all_back ps q r l k))
    (first_or_later (string_bytes e.0, e.1) (by_bytes string_bytes ps) q h)

-- ---- the order

sorted_append : {X : Type 0} (cmp : X → X → Ordering) (xs ys : List X) → IsStrictlySortedBy cmp xs → IsStrictlySortedBy cmp ys → AllByRecursion (λ x. AllByRecursion (λ y. cmp x y ≡ Less) ys) xs → IsStrictlySortedBy cmp (xs ++ ys)
unfolding IsStrictlySortedBy
sorted_append cmp [] ys a b c = b
sorted_append cmp (x ∷ xs) ys a b c = (both xs a.0, sorted_append cmp xs ys a.1 b c.1) where
  both : (zs : List _) → AllByRecursion (λ y. cmp x y ≡ Less) zs → AllByRecursion (λ y. cmp x y ≡ Less) (zs ++ ys)
  both [] h = c.0
  both (z ∷ zs) h = (h.0, both zs h.1)

same_self : (p : List ℕ) → slice_cmp nat_cmp p p ≡ Equal
same_self p = tied_itself nat_list_cmp_total p

in_order : (p : List ℕ) (es : List (Vec ℕ Global × Item)) → IsStrictlySortedBy (λ x y. slice_cmp nat_cmp x.items y.items) (keys_of es) → IsStrictlySortedBy listed_cmp (listing_in p es)
unfolding IsStrictlySortedBy
in_order p [] h = h
in_order p (e ∷ es) h = (each es h.0, in_order p es h.1) where
  each : (fs : List (Vec ℕ Global × Item)) → AllByRecursion (λ y. slice_cmp nat_cmp e.0.items y.items ≡ Less) (keys_of fs) → AllByRecursion (λ y. listed_cmp (listing_entry p e) y ≡ Less) (listing_in p fs)
  each [] k = k
  each (f ∷ fs) k = (ap (λ o. ordering_then o (slice_cmp nat_cmp e.0.items f.0.items)) (same_self p) ∙ k.0, each fs k.1)

-- each blob of a partition is before each of those after it
before_all : (x : Listed) (p : List ℕ) → x.partition ≡ p → (ps : List (String Global × Names)) → AllByRecursion (λ y. slice_cmp nat_cmp p (string_bytes y) ≡ Less) (keys_of ps) → AllByRecursion (λ y. listed_cmp x y ≡ Less) (listing_all ps)
before_all x p e [] h = h
before_all x p e (f ∷ ps) h = add (before_all x p e ps h.1) f.1.entries where
  add : AllByRecursion (λ y. listed_cmp x y ≡ Less) (listing_all ps) → (es : List (Vec ℕ Global × Item)) → AllByRecursion (λ y. listed_cmp x y ≡ Less) (listing_in (string_bytes f.0) es ++ listing_all ps)
  add rest [] = rest
  add rest (g ∷ es) = (ap (λ o. ordering_then o (slice_cmp nat_cmp x.name g.0.items)) (ap (λ q. slice_cmp nat_cmp q (string_bytes f.0)) e ∙ h.0), add rest es)

all_in_order : (ps : List (String Global × Names)) → AreAllOrdered ps → IsStrictlySortedBy (λ x y. slice_cmp nat_cmp (string_bytes x) (string_bytes y)) (keys_of ps) → IsStrictlySortedBy listed_cmp (listing_all ps)
unfolding IsStrictlySortedBy
all_in_order [] o h = h
all_in_order (e ∷ ps) o h = sorted_append listed_cmp (listing_in (string_bytes e.0) e.1.entries) (listing_all ps) (in_order (string_bytes e.0) e.1.entries o.0) (all_in_order ps o.1 h.1) (each e.1.entries) where
  each : (es : List (Vec ℕ Global × Item)) → AllByRecursion (λ x. AllByRecursion (λ y. listed_cmp x y ≡ Less) (listing_all ps)) (listing_in (string_bytes e.0) es)
  each [] = tt
  each (f ∷ es) = (before_all (listing_entry (string_bytes e.0) f) (string_bytes e.0) refl ps h.0, each es)

pub is_listing : (m : BTreeMap (String Global) Names) → AreOrdered m → AreAllOrdered m.entries
    → IsListing (raw_in m) (listing_all m.entries)
is_listing m outer inner = record {
  rising = all_in_order m.entries inner outer;
  each = each;
  all = all;
} where
  outer_keys : IsDistinct bytes_eq (keys_of (by_bytes string_bytes m.entries))
  outer_keys = subst (λ ks. IsDistinct bytes_eq ks) (sym (keys_by_bytes string_bytes m.entries)) (distinct (map string_bytes (keys m)) (sorted_by_bytes string_bytes (slice_cmp nat_cmp) (keys m) outer))

  inner_keys : (names : Names) → AreOrderedNames names → IsDistinct bytes_eq (keys_of (raws names.entries))
  inner_keys names o = subst (λ ks. IsDistinct bytes_eq ks) (sym (keys_raws names.entries)) (distinct (map (λ k. k.items) (keys names)) (sorted_by_bytes (λ k. k.items) (slice_cmp nat_cmp) (keys names) o))

  each : (b : Listed) → Contains (listing_all m.entries) b → raw_in m b.partition b.name ≡ Some b.bytes
  each b h =
      let k = all_contains m.entries inner b h in
      let there : value_at string_bytes m b.partition ≡ Some k.0 = lookup_by_bytes string_bytes m.entries b.partition ∙ lookup-from_Contains nat_list_eq_equiv b.partition k.0 (by_bytes string_bytes m.entries) outer_keys k.1 in
      ap (λ r. option_map raw_bytes (below (value_at (λ j. j.items)) r b.name)) there ∙ sym (lookup_raws k.0.entries b.name) ∙ lookup-from_Contains nat_list_eq_equiv b.name b.bytes (raws k.0.entries) (inner_keys k.0 k.3) k.2

  all : (b : Listed) → raw_in m b.partition b.name ≡ Some b.bytes → Contains (listing_all m.entries) b
  all b h = go (value_at string_bytes m b.partition) refl h where
    go : (r : Option Names) → value_at string_bytes m b.partition ≡ r → option_map raw_bytes (below (value_at (λ j. j.items)) r b.name) ≡ Some b.bytes → Contains (listing_all m.entries) b
    go None e h = absurd cc
    go (Some names) e h = all_back m.entries (b.partition, names) (b.name, b.bytes)
        (Contains-from_lookup (λ x y. (bytes_decides x y).0) b.partition names (by_bytes string_bytes m.entries) (sym (lookup_by_bytes string_bytes m.entries b.partition) ∙ e))
        (Contains-from_lookup (λ x y. (bytes_decides x y).0) b.name b.bytes (raws names.entries) (lookup_raws names.entries b.name ∙ h))

pub all_more : (es : List (String Global × Names)) (e : String Global × Names) → AreAllOrdered es → AreOrderedNames e.1 → AreAllOrdered (es ++ e ∷ [])
all_more [] e h k = (k, tt)
all_more (f ∷ es) e h k = (h.0, all_more es e h.1 k)
