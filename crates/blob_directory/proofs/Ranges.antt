-- A table's entries from a key on: those that begin with it come first, and none of them is left out.
use Rattle.std.proofs.Common.{◌≡◌, ℕ, List, [], ◌∷◌, ◌++◌, Bool, true, false, ◌&&◌, Option, Some, None, Vec, Global, refl, sym, ap, ap₂, subst, ◌∙◌, ◌⊎◌, inl, inr, ⊎_elim, length, drop, take, nat_eq}
use Rattle.std.specs.BTreeMap.{is_at}
use Rattle.std.specs.BTreeMap.Range.{entries_between}
use Rattle.std.specs.declared.ops.Bound.TheVariants.{Included, Unbounded}
use Rattle.std.specs.Cmp.{nat_cmp_is, nat_cmp_total}
use Rattle.std.specs.Cmp.Lexicographic.{slice_cmp, bytes_decides, pointwise}
use Rattle.std.specs.List.{AllByRecursion, filter}
use Rattle.std.specs.List.Sorted.{IsStrictlySortedBy}
use Rattle.std.specs.Map.{keys_of, lookup}
use Rattle.std.specs.Ordering.{nat_cmp, is_eq, is_gt, is_le, ordering_reverse, ordering_then}
use Rattle.std.specs.declared.cmp.Ordering.{Ordering}
use Rattle.std.specs.declared.cmp.Ordering.TheVariants.{Less, Equal, Greater}
use Rattle.std.proofs.lemmas.Bool.{cases_Bool, cond-true, cond-false, and_parts, and_from, false≢true}
use Rattle.std.proofs.Math.Seq.{drop-append_seam, take-append_seam}
use Rattle.std.proofs.lemmas.List.Elements.{Contains-append_left, Contains-push}
use Rattle.std.proofs.lemmas.Map.Keys.{sorted_head, sorted_tail}
use Rattle.std.proofs.lemmas.Map.Lookups.{exact_unsigned}
use Rattle.std.proofs.lemmas.Map.Text.{is_eq-slice_cmp}
use Rattle.blob_directory.specs.declared.edit.Binding.{Binding}
use Rattle.blob_directory.specs.Tables.{HasName, bound, cell, flat}
use Rattle.blob_directory.specs.declared.table.Table.{Table}

abbrev pub Cell : Type 0
Cell = Vec ℕ Global × Option Binding

-- the cells have this one
abbrev pub Among : List Cell → List ℕ → Option Binding → Type 0
Among [] k v = ⊥
Among (e ∷ es) k v = ((e.0.items ≡ k) × (e.1 ≡ v)) ⊎ Among es k v

-- each key is below those after it
abbrev pub Ascends : List Cell → Type 0
Ascends [] = Unit {0}
Ascends (e ∷ es) = ((k : List ℕ) (v : Option Binding) → Among es k v → slice_cmp nat_cmp e.0.items k ≡ Less) × Ascends es

-- no key is below this one
abbrev pub IsFrom : List ℕ → List Cell → Type 0
IsFrom start es = (k : List ℕ) (v : Option Binding) → Among es k v → is_gt (slice_cmp nat_cmp start k) ≡ false

-- a look-up finds one of the cells
pub among_found : (k : List ℕ) (v : Option Binding) (es : List Cell) → lookup (is_at (λ (n : Vec ℕ Global). slice_cmp nat_cmp k n.items)) es ≡ Some v → Among es k v
among_found k v [] h = absurd (cc)
among_found k v (e ∷ es) h = ⊎_elim
    (λ y.
    let here : Some e.1 ≡ Some v = sym (cond-true (is_eq (slice_cmp nat_cmp k e.0.items)) (Some e.1) (lookup (is_at (λ (n : Vec ℕ Global). slice_cmp nat_cmp k n.items)) es) y) ∙ h in
    let same : e.1 ≡ v = cc in
    inl (sym ((bytes_decides k e.0.items).0 (sym (is_eq-slice_cmp k e.0.items) ∙ y)), same))
    (λ n. inr (among_found k v es (sym (cond-false (is_eq (slice_cmp nat_cmp k e.0.items)) (Some e.1) (lookup (is_at (λ (n : Vec ℕ Global). slice_cmp nat_cmp k n.items)) es) n) ∙ h)))
    (cases_Bool (is_eq (slice_cmp nat_cmp k e.0.items)))

step : (x y : ℕ) (s k name : List ℕ) (o : Ordering) → nat_cmp x y ≡ o → is_gt (ordering_then o (slice_cmp nat_cmp s k)) ≡ false
    → ordering_then (ordering_reverse o) (slice_cmp nat_cmp k (s ++ name)) ≡ Less
    → (is_gt (slice_cmp nat_cmp s k) ≡ false → slice_cmp nat_cmp k (s ++ name) ≡ Less → (rest : List ℕ) × (k ≡ s ++ rest))
    → (rest : List ℕ) × (y ∷ k ≡ x ∷ (s ++ rest))
step x y s k name Less is h l more = absurd (cc)
step x y s k name Equal is h l more = let m = more h l in (m.0, ap₂ (λ z zs. z ∷ zs) (sym (exact_unsigned x y is)) m.1)
step x y s k name Greater is h l more = absurd (cc)

-- a key between some bytes and a key that begins with them begins with them
pub before_prefix : (s k name : List ℕ) → is_gt (slice_cmp nat_cmp s k) ≡ false → slice_cmp nat_cmp k (s ++ name) ≡ Less → (rest : List ℕ) × (k ≡ s ++ rest)
before_prefix [] k name h l = (k, refl)
before_prefix (x ∷ s) [] name h l = absurd (cc)
before_prefix (x ∷ s) (y ∷ k) name h l =
    step x y s k name (nat_cmp x y) refl h
    (ap (λ o. ordering_then o (slice_cmp nat_cmp k (s ++ name))) (sym (nat_cmp_total.antisymm y x)) ∙ l)
    (before_prefix s k name)

-- bytes aren't above those that begin with them
pub prefix_le : (s name : List ℕ) → is_le (slice_cmp nat_cmp s (s ++ name)) ≡ true
prefix_le [] [] = refl
prefix_le [] (y ∷ ys) = refl
prefix_le (x ∷ s) name = ap (λ o. is_le (ordering_then o (slice_cmp nat_cmp s (s ++ name)))) (sym (nat_cmp_is x x Equal refl)) ∙ prefix_le s name

module _ (p : Cell → Bool) where
  among_all : (k : List ℕ) (v : Option Binding) (es : List Cell) → Among (filter p es) k v → Among es k v
  among_all k v [] h = h
  among_all k v (e ∷ es) h = ⊎_elim
      (λ y. ⊎_elim (λ here. inl here) (λ more. inr (among_all k v es more)) (subst (λ l. Among l k v) (cond-true (p e) (e ∷ filter p es) (filter p es) y) h))
      (λ n. inr (among_all k v es (subst (λ l. Among l k v) (cond-false (p e) (e ∷ filter p es) (filter p es) n) h)))
      (cases_Bool (p e))

  -- a filter keeps a cell if its key passes
  pub among_filter : (k : List ℕ) (v : Option Binding) → ((e : Cell) → e.0.items ≡ k → p e ≡ true) → (es : List Cell) → Among es k v → Among (filter p es) k v
  among_filter k v passes [] h = h
  among_filter k v passes (e ∷ es) (inl here) = subst (λ l. Among l k v) (sym (cond-true (p e) (e ∷ filter p es) (filter p es) (passes e here.0))) (inl here)
  among_filter k v passes (e ∷ es) (inr more) = ⊎_elim
      (λ y. subst (λ l. Among l k v) (sym (cond-true (p e) (e ∷ filter p es) (filter p es) y)) (inr (among_filter k v passes es more)))
      (λ n. subst (λ l. Among l k v) (sym (cond-false (p e) (e ∷ filter p es) (filter p es) n)) (among_filter k v passes es more))
      (cases_Bool (p e))

  less_among : (n : List ℕ) (es : List Cell) (k : List ℕ) (v : Option Binding) → AllByRecursion (λ (y : Vec ℕ Global). slice_cmp nat_cmp n y.items ≡ Less) (keys_of es) → Among es k v → slice_cmp nat_cmp n k ≡ Less
  less_among n [] k v a h = absurd h
  less_among n (e ∷ es) k v a (inl here) = ap (slice_cmp nat_cmp n) (sym here.0) ∙ a.0
  less_among n (e ∷ es) k v a (inr more) = less_among n es k v a.1 more

  -- a filter keeps the order
  pub ascends_filter : (es : List Cell) → IsStrictlySortedBy (λ (x y : Vec ℕ Global). slice_cmp nat_cmp x.items y.items) (keys_of es) → Ascends (filter p es)
  ascends_filter [] s = tt
  ascends_filter (e ∷ es) s =
      let c : Vec ℕ Global → Vec ℕ Global → Ordering = λ x y. slice_cmp nat_cmp x.items y.items in
      let rest : Ascends (filter p es) = ascends_filter es (sorted_tail c e.0 (keys_of es) s) in
      ⊎_elim
      (λ y. subst Ascends (sym (cond-true (p e) (e ∷ filter p es) (filter p es) y))
      (λ k v h. less_among e.0.items es k v (sorted_head c e.0 (keys_of es) s) (among_all k v es h), rest))
      (λ n. subst Ascends (sym (cond-false (p e) (e ∷ filter p es) (filter p es) n)) rest)
      (cases_Bool (p e))

  -- all that a filter keeps passes
  pub from_filter : (start : List ℕ) → ((e : Cell) → p e ≡ true → is_gt (slice_cmp nat_cmp start e.0.items) ≡ false) → (es : List Cell) → IsFrom start (filter p es)
  from_filter start passes [] k v h = absurd h
  from_filter start passes (e ∷ es) k v h = ⊎_elim
      (λ y. ⊎_elim
      (λ here. ap (λ l. is_gt (slice_cmp nat_cmp start l)) (sym here.0) ∙ passes e y)
      (λ more. from_filter start passes es k v more)
      (subst (λ l. Among l k v) (cond-true (p e) (e ∷ filter p es) (filter p es) y) h))
      (λ n. from_filter start passes es k v (subst (λ l. Among l k v) (cond-false (p e) (e ∷ filter p es) (filter p es) n) h))
      (cases_Bool (p e))

le_not_gt : (o : Ordering) → is_le o ≡ true → is_gt o ≡ false
le_not_gt Less e = refl
le_not_gt Equal e = refl
le_not_gt Greater e = absurd (cc)

-- a look-up finds each cell of ascending keys
among_at : (k : List ℕ) (v : Option Binding) (es : List Cell) → IsStrictlySortedBy (λ (x y : Vec ℕ Global). slice_cmp nat_cmp x.items y.items) (keys_of es) → Among es k v
    → lookup (is_at (λ (n : Vec ℕ Global). slice_cmp nat_cmp k n.items)) es ≡ Some v
among_at k v [] s h = absurd h
among_at k v (e ∷ es) s (inl here) =
    let yes : is_eq (slice_cmp nat_cmp k e.0.items) ≡ true = is_eq-slice_cmp k e.0.items ∙ (bytes_decides k e.0.items).1 (sym here.0) in
    cond-true (is_eq (slice_cmp nat_cmp k e.0.items)) (Some e.1) (lookup (is_at (λ (n : Vec ℕ Global). slice_cmp nat_cmp k n.items)) es) yes ∙ ap Some here.1
among_at k v (e ∷ es) s (inr more) =
    let c : Vec ℕ Global → Vec ℕ Global → Ordering = λ x y. slice_cmp nat_cmp x.items y.items in
    let less : slice_cmp nat_cmp e.0.items k ≡ Less = less_among (λ _. true) e.0.items es k v (sorted_head c e.0 (keys_of es) s) more in
    ⊎_elim
    (λ y.
    let same : k ≡ e.0.items = (bytes_decides k e.0.items).0 (sym (is_eq-slice_cmp k e.0.items) ∙ y) in
    let below : slice_cmp nat_cmp k k ≡ Less = subst (λ l. slice_cmp nat_cmp l k ≡ Less) (sym same) less in
    let equal : is_eq (slice_cmp nat_cmp k k) ≡ true = subst (λ l. is_eq (slice_cmp nat_cmp k l) ≡ true) (sym same) y in
    absurd (false≢true (sym (ap is_eq below) ∙ equal)))
    (λ n. cond-false (is_eq (slice_cmp nat_cmp k e.0.items)) (Some e.1) (lookup (is_at (λ (n : Vec ℕ Global). slice_cmp nat_cmp k n.items)) es) n
    ∙ among_at k v es (sorted_tail c e.0 (keys_of es) s) more)
    (cases_Bool (is_eq (slice_cmp nat_cmp k e.0.items)))

-- what a cell has its entry is bound to
pub bound_at : (k : List ℕ) (v : Option Binding) (table : Table) → IsStrictlySortedBy (λ (x y : Vec ℕ Global). slice_cmp nat_cmp x.items y.items) (keys_of table.entries.entries)
    → Among table.entries.entries k v → bound table k ≡ v
bound_at k v table sorted h = ap flat (among_at k v table.entries.entries sorted h)

-- the cells from a key on
pub record RangeOf (start : List ℕ) (es r : List Cell) : Type 0 where
  pub ascends : Ascends r
  pub within : (k : List ℕ) (v : Option Binding) → Among r k v → Among es k v
  pub begins : IsFrom start r
  pub all : (name : List ℕ) (v : Option Binding) → Among es (start ++ name) v → Among r (start ++ name) v

pub range_of : (start : List ℕ) (first : Vec ℕ Global) (es r : List Cell) → first.items ≡ start
    → r ≡ entries_between (λ (x y : Vec ℕ Global). slice_cmp nat_cmp x.items y.items) (Included first) Unbounded es
    → IsStrictlySortedBy (λ (x y : Vec ℕ Global). slice_cmp nat_cmp x.items y.items) (keys_of es) → RangeOf start es r
range_of start first es r is made sorted =
    let p : Cell → Bool = λ e. is_le (slice_cmp nat_cmp first.items e.0.items) && true in
    record {
      ascends = subst Ascends (sym made) (ascends_filter p es sorted);
      within = λ k v h. among_all p k v es (subst (λ l. Among l k v) made h);
      begins = subst (IsFrom start) (sym made)
          (from_filter p start
          (λ e y. ap (λ l. is_gt (slice_cmp nat_cmp l e.0.items)) (sym is) ∙ le_not_gt (slice_cmp nat_cmp first.items e.0.items) (and_parts (is_le (slice_cmp nat_cmp first.items e.0.items)) true y).0)
          es);
      all = λ name v h. subst (λ l. Among l (start ++ name) v) (sym made)
          (among_filter p (start ++ name) v
          (λ e k. and_from (is_le (slice_cmp nat_cmp first.items e.0.items)) true
          (ap₂ (λ a b. is_le (slice_cmp nat_cmp a b)) is k ∙ prefix_le start name) refl)
          es h);
    }

-- one name more
pub name_kept : (xs ys : List (Vec ℕ Global × Binding)) (n : Vec ℕ Global × Binding) (name : List ℕ) (to : Binding) → ys ≡ xs ++ n ∷ [] → HasName xs name to → HasName ys name to
name_kept xs ys n name to pushed h = subst (λ l. HasName l name to) (sym pushed) (h.0, Contains-append_left xs (n ∷ []) h.0 h.1, h.2, h.3)

pub name_new : (xs ys : List (Vec ℕ Global × Binding)) (n : Vec ℕ Global × Binding) (name : List ℕ) (to : Binding) → ys ≡ xs ++ n ∷ [] → n.0.items ≡ name → n.1 ≡ to → HasName ys name to
name_new xs ys n name to pushed is bound = subst (λ l. HasName l name to) (sym pushed) (n, Contains-push xs n, is, bound)

-- what a prefix leaves of two equal keys is equal
pub same_rest : (start a b : List ℕ) → start ++ a ≡ start ++ b → a ≡ b
same_rest start a b e = sym (drop-append_seam start a) ∙ ap (drop (length start)) e ∙ drop-append_seam start b

-- after a key that doesn't begin with the prefix no key does
pub none_behind : (start : List ℕ) (t u : List Cell) (e : Cell) (name : List ℕ) (v : Option Binding) → t ≡ e ∷ u → Ascends t → IsFrom start t
    → ((rest : List ℕ) → e.0.items ≡ start ++ rest → ⊥) → Among t (start ++ name) v → ⊥
none_behind start t u e name v more ascends begins other h =
    let up : Ascends (e ∷ u) = subst Ascends more ascends in
    ⊎_elim
    (λ here. other name here.0)
    (λ behind. let r = before_prefix start e.0.items name (begins e.0.items e.1 (subst (λ l. Among l e.0.items e.1) (sym more) (inl (refl, refl)))) (up.0 (start ++ name) v behind) in other r.0 r.1)
    (subst (λ l. Among l (start ++ name) v) more h)

-- by a test a key doesn't begin with these bytes
pub not_prefixed : (start key : List ℕ) → pointwise nat_eq (take (length start) key) start ≡ false → (rest : List ℕ) → key ≡ start ++ rest → ⊥
not_prefixed start key e rest is =
    let front : take (length start) key ≡ start = ap (take (length start)) is ∙ take-append_seam start rest in
    false≢true (sym e ∙ (bytes_decides (take (length start) key) start).1 front)

pub rest_ascends : (t u : List Cell) (e : Cell) → t ≡ e ∷ u → Ascends t → Ascends u
rest_ascends t u e more h = let up : Ascends (e ∷ u) = subst Ascends more h in up.1

pub rest_begins : (start : List ℕ) (t u : List Cell) (e : Cell) → t ≡ e ∷ u → IsFrom start t → IsFrom start u
rest_begins start t u e more h = λ k v a. h k v (subst (λ l. Among l k v) (sym more) (inr a))

flat_some : (x : Option (Option Binding)) (to : Binding) → flat x ≡ Some to → x ≡ Some (Some to)
flat_some None to h = absurd (cc)
flat_some (Some x) to h = ap Some h

-- what an entry is bound to is in its cell
pub among_bound : (k : List ℕ) (to : Binding) (table : Table) → bound table k ≡ Some to → Among table.entries.entries k (Some to)
among_bound k to table h = among_found k (Some to) table.entries.entries (flat_some (cell table k) to h)
