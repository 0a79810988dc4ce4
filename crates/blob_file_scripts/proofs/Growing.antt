-- A decision tree of the runs that were made.
use Rattle.std.proofs.Common.{◌≡◌, ◌<◌, ◌≤◌, ◌+◌, ℕ, zero, suc, arith, Bool, true, false, ◌||◌, if◌then◌else◌, List, [], ◌∷◌, length, Option, Some, None, refl, sym, ap, ◌∙◌, subst}
use Rattle.std.specs.List.{AllByRecursion}
use Rattle.blob_tree.specs.Trees.{Choice, DecisionTree, Leaf, depth, extend_path, next_behind, next_path}
use Rattle.blob_file_scripts.specs.Explorations.{HasDraws, InOrder, Visited}

-- a path has more draws, which begin with these
abbrev Precedes : List Bool → List Bool → Type 0
Precedes [] [] = ⊥
Precedes [] (o ∷ path) = Unit {0}
Precedes (o ∷ start) [] = ⊥
Precedes (true ∷ start) (true ∷ path) = Precedes start path
Precedes (true ∷ start) (false ∷ path) = ⊥
Precedes (false ∷ start) (true ∷ path) = ⊥
Precedes (false ∷ start) (false ∷ path) = Precedes start path

-- where two paths first differ, the left one is true
abbrev IsLeftOf : List Bool → List Bool → Type 0
IsLeftOf [] right = ⊥
IsLeftOf (o ∷ left) [] = ⊥
IsLeftOf (true ∷ left) (true ∷ right) = IsLeftOf left right
IsLeftOf (true ∷ left) (false ∷ right) = Unit {0}
IsLeftOf (false ∷ left) (true ∷ right) = ⊥
IsLeftOf (false ∷ left) (false ∷ right) = IsLeftOf left right

left_trans : (p q r : List Bool) → IsLeftOf p q → IsLeftOf q r → IsLeftOf p r
left_trans [] q r pq qr = absurd pq
left_trans (o ∷ p) [] r pq qr = absurd pq
left_trans (o ∷ p) (u ∷ q) [] pq qr = absurd qr
left_trans (true ∷ p) (true ∷ q) (true ∷ r) pq qr = left_trans p q r pq qr
left_trans (true ∷ p) (true ∷ q) (false ∷ r) pq qr = tt
left_trans (true ∷ p) (false ∷ q) (true ∷ r) pq qr = absurd qr
left_trans (true ∷ p) (false ∷ q) (false ∷ r) pq qr = tt
left_trans (false ∷ p) (true ∷ q) (u ∷ r) pq qr = absurd pq
left_trans (false ∷ p) (false ∷ q) (true ∷ r) pq qr = absurd qr
left_trans (false ∷ p) (false ∷ q) (false ∷ r) pq qr = left_trans p q r pq qr

abbrev same : List Bool → List Bool → Bool
same [] [] = true
same [] (o ∷ q) = false
same (o ∷ p) [] = false
same (true ∷ p) (true ∷ q) = same p q
same (true ∷ p) (false ∷ q) = false
same (false ∷ p) (true ∷ q) = false
same (false ∷ p) (false ∷ q) = same p q

same_self : (p : List Bool) → same p p ≡ true
same_self [] = refl
same_self (true ∷ p) = same_self p
same_self (false ∷ p) = same_self p

not_longer : (start path : List Bool) → Precedes start path → same start path ≡ false
not_longer [] [] pre = absurd pre
not_longer [] (o ∷ path) pre = refl
not_longer (o ∷ start) [] pre = absurd pre
not_longer (true ∷ start) (true ∷ path) pre = not_longer start path pre
not_longer (true ∷ start) (false ∷ path) pre = absurd pre
not_longer (false ∷ start) (true ∷ path) pre = absurd pre
not_longer (false ∷ start) (false ∷ path) pre = not_longer start path pre

not_right : (start path right : List Bool) → Precedes start path → IsLeftOf path right → same start right ≡ false
not_right start [] right pre left = absurd left
not_right start (o ∷ path) [] pre left = absurd left
not_right [] (o ∷ path) (u ∷ right) pre left = refl
not_right (true ∷ start) (true ∷ path) (true ∷ right) pre left = not_right start path right pre left
not_right (true ∷ start) (true ∷ path) (false ∷ right) pre left = refl
not_right (true ∷ start) (false ∷ path) (u ∷ right) pre left = absurd pre
not_right (false ∷ start) (true ∷ path) (u ∷ right) pre left = absurd pre
not_right (false ∷ start) (false ∷ path) (true ∷ right) pre left = absurd left
not_right (false ∷ start) (false ∷ path) (false ∷ right) pre left = not_right start path right pre left

not_left : (start path left : List Bool) → Precedes start path → IsLeftOf left path → same start left ≡ false
not_left start path [] pre is = absurd is
not_left start [] (u ∷ left) pre is = absurd is
not_left [] (o ∷ path) (u ∷ left) pre is = refl
not_left (true ∷ start) (true ∷ path) (true ∷ left) pre is = not_left start path left pre is
not_left (true ∷ start) (true ∷ path) (false ∷ left) pre is = absurd is
not_left (true ∷ start) (false ∷ path) (u ∷ left) pre is = absurd pre
not_left (false ∷ start) (true ∷ path) (u ∷ left) pre is = absurd pre
not_left (false ∷ start) (false ∷ path) (true ∷ left) pre is = refl
not_left (false ∷ start) (false ∷ path) (false ∷ left) pre is = not_left start path left pre is

-- the first draws of a longer path
precedes : (k n : ℕ) (given : List Bool) → k < n → Precedes (extend_path k given) (extend_path n given)
precedes k zero given less = absurd (grind (arith, less))
precedes zero (suc n) [] less = tt
precedes zero (suc n) (o ∷ given) less = tt
precedes (suc k) (suc n) [] less = precedes k n [] (omega (arith, less))
precedes (suc k) (suc n) (true ∷ given) less = precedes k n given (omega (arith, less))
precedes (suc k) (suc n) (false ∷ given) less = precedes k n given (omega (arith, less))

-- the next path is to the right, however it is extended by true draws
abbrev NextIsRight : List Bool → Option (List Bool) → Type 0
NextIsRight path None = Unit {0}
NextIsRight path (Some next) = (n : ℕ) → length next ≤ n → IsLeftOf path (extend_path n next)

below_next : (path next : List Bool) (o : Bool) (n : ℕ) → NextIsRight path (Some next) → suc (length next) ≤ n → IsLeftOf (o ∷ path) (extend_path n (o ∷ next))
below_next path next o zero right fits = absurd (grind (arith, fits))
below_next path next true (suc n) right fits = right n (omega (arith, fits))
below_next path next false (suc n) right fits = right n (omega (arith, fits))

first_false : (path : List Bool) (n : ℕ) → 1 ≤ n → IsLeftOf (true ∷ path) (extend_path n (false ∷ []))
first_false path zero fits = absurd (grind (arith, fits))
first_false path (suc n) fits = tt

next_below : (path : List Bool) (o : Bool) (next : Option (List Bool)) → NextIsRight path next → NextIsRight (o ∷ path) (next_behind o next)
next_below path true None right = λ n fits. first_false path n fits
next_below path false None right = tt
next_below path o (Some next) right = λ n fits. below_next path next o n right fits

next_is_right : (path : List Bool) → NextIsRight path (next_path path)
next_is_right [] = tt
next_is_right (o ∷ path) = next_below path o (next_path path) (next_is_right path)

-- the run made at least the draws of the given path, and those after it were true
pub record Extends (leaf : Visited) : Type 0 where
  pub count : ℕ
  pub least : length leaf.given ≤ count
  pub is : leaf.path ≡ extend_path count leaf.given

pub length-extended : (n : ℕ) (path : List Bool) → length (extend_path n path) ≡ n
length-extended zero path = refl
length-extended (suc n) [] = ap suc (length-extended n [])
length-extended (suc n) (o ∷ path) = ap suc (length-extended n path)

pub all_by : {X : Type 0} (P Q : X → Type 0) (xs : List X) → ((x : X) → P x → Q x) → AllByRecursion P xs → AllByRecursion Q xs
all_by P Q [] by all = tt
all_by P Q (x ∷ xs) by all = (by x all.0, all_by P Q xs by all.1)

all_both : {X : Type 0} (P Q R : X → Type 0) (xs : List X) → ((x : X) → P x → Q x → R x) → AllByRecursion P xs → AllByRecursion Q xs → AllByRecursion R xs
all_both P Q R [] by ps qs = tt
all_both P Q R (x ∷ xs) by ps qs = (by x ps.0 qs.0, all_both P Q R xs by ps.1 qs.1)

abbrev IsLeftOfLeaf : List Bool → Visited → Type 0
IsLeftOfLeaf path leaf = IsLeftOf path leaf.path

-- all later leaves are to the right
all_right : (path : List Bool) (visited : List Visited) (next : Option (List Bool)) → InOrder (next_path path) visited next → AllByRecursion Extends visited → AllByRecursion (IsLeftOfLeaf path) visited
all_right path [] next order all = tt
all_right path (leaf ∷ visited) next order all =
    let given : NextIsRight path (Some leaf.given) = subst (NextIsRight path) order.0 (next_is_right path) in
    let right : IsLeftOf path leaf.path = subst (IsLeftOf path) (sym all.0.is) (given all.0.count all.0.least) in
    (right, all_by (IsLeftOfLeaf leaf.path) (IsLeftOfLeaf path) visited (λ l is. left_trans path leaf.path l.path right is) (all_right leaf.path visited next order.1 all.1))

-- one of the leaves has this path
abbrev ends_at : List Visited → List Bool → Bool
ends_at [] path = false
ends_at (leaf ∷ visited) path = same path leaf.path || ends_at visited path

or_true : (a : Bool) → (a || true) ≡ true
or_true true = refl
or_true false = refl

ends : (first : Option (List Bool)) (visited : List Visited) (next : Option (List Bool)) → InOrder first visited next → AllByRecursion (λ leaf. ends_at visited leaf.path ≡ true) visited
ends first [] next order = tt
ends first (leaf ∷ visited) next order = (
  ap (λ (b : Bool). b || ends_at visited leaf.path) (same_self leaf.path),
  all_by (λ l. ends_at visited l.path ≡ true) (λ l. (same l.path leaf.path || ends_at visited l.path) ≡ true) visited
      (λ l e. ap (λ (b : Bool). same l.path leaf.path || b) e ∙ or_true (same l.path leaf.path)) (ends (next_path leaf.path) visited next order.1),
)

-- no leaf has the first draws of a path to the left of all leaves
none_right : (start path : List Bool) (visited : List Visited) → Precedes start path → AllByRecursion (IsLeftOfLeaf path) visited → ends_at visited start ≡ false
none_right start path [] pre all = refl
none_right start path (leaf ∷ visited) pre all =
    ap (λ (b : Bool). b || ends_at visited start) (not_right start path leaf.path pre all.0) ∙ none_right start path visited pre all.1

-- no leaf has the first draws of another one
abbrev GoesOn : List Visited → Visited → Type 0
GoesOn visited leaf = (start : List Bool) → Precedes start leaf.path → ends_at visited start ≡ false

goes_on : (first : Option (List Bool)) (visited : List Visited) (next : Option (List Bool)) → InOrder first visited next → AllByRecursion Extends visited → AllByRecursion (GoesOn visited) visited
goes_on first [] next order all = tt
goes_on first (leaf ∷ visited) next order all =
    let right = all_right leaf.path visited next order.1 all.1 in (
      λ start pre. ap (λ (b : Bool). b || ends_at visited start) (not_longer start leaf.path pre) ∙ none_right start leaf.path visited pre right,
      all_both (IsLeftOfLeaf leaf.path) (GoesOn visited) (GoesOn (leaf ∷ visited)) visited
          (λ l is on start pre. ap (λ (b : Bool). b || ends_at visited start) (not_left start l.path leaf.path pre is) ∙ on start pre)
          right (goes_on (next_path leaf.path) visited next order.1 all.1),
    )

-- a tree of at most this number of draws along each path, with a leaf at the end of each of these paths
abbrev grown : ℕ → (List Bool → Bool) → DecisionTree
grown zero ends = Leaf
grown (suc n) ends = if ends [] then Leaf else Choice (grown n (λ path. ends (true ∷ path))) (grown n (λ path. ends (false ∷ path)))

choice_of : (n : ℕ) (ends : List Bool → Bool) → ends [] ≡ false → grown (suc n) ends ≡ Choice (grown n (λ path. ends (true ∷ path))) (grown n (λ path. ends (false ∷ path)))
choice_of n ends on = ap (λ (b : Bool). if b then Leaf else Choice (grown n (λ path. ends (true ∷ path))) (grown n (λ path. ends (false ∷ path)))) on

leaf_of : (most : ℕ) (ends : List Bool → Bool) → ends [] ≡ true → grown most ends ≡ Leaf
leaf_of zero ends here = refl
leaf_of (suc n) ends here = ap (λ (b : Bool). if b then Leaf else Choice (grown n (λ path. ends (true ∷ path))) (grown n (λ path. ends (false ∷ path)))) here

depth_grown : (most n : ℕ) (ends : List Bool → Bool) (given : List Bool) → n ≤ most → ends (extend_path n given) ≡ true
    → ((k : ℕ) → k < n → ends (extend_path k given) ≡ false) → depth (grown most ends) given ≡ n
depth_grown most zero ends given fits here on = ap (λ (t : DecisionTree). depth t given) (leaf_of most ends here)
depth_grown zero (suc n) ends given fits here on = absurd (grind (arith, fits))
depth_grown (suc most) (suc n) ends [] fits here on =
    ap (λ (t : DecisionTree). depth t []) (choice_of most ends (on 0 (omega arith)))
    ∙ ap suc (depth_grown most n (λ path. ends (true ∷ path)) [] (omega (arith, fits)) here (λ k less. on (suc k) (omega (arith, less))))
depth_grown (suc most) (suc n) ends (true ∷ given) fits here on =
    ap (λ (t : DecisionTree). depth t (true ∷ given)) (choice_of most ends (on 0 (omega arith)))
    ∙ ap suc (depth_grown most n (λ path. ends (true ∷ path)) given (omega (arith, fits)) here (λ k less. on (suc k) (omega (arith, less))))
depth_grown (suc most) (suc n) ends (false ∷ given) fits here on =
    ap (λ (t : DecisionTree). depth t (false ∷ given)) (choice_of most ends (on 0 (omega arith)))
    ∙ ap suc (depth_grown most n (λ path. ends (false ∷ path)) given (omega (arith, fits)) here (λ k less. on (suc k) (omega (arith, less))))

-- all draws of all leaves
abbrev draws_of : List Visited → ℕ
draws_of [] = 0
draws_of (leaf ∷ visited) = length leaf.path + draws_of visited

abbrev pub tree_of : List Visited → DecisionTree
tree_of visited = grown (draws_of visited) (ends_at visited)

all_within : (visited : List Visited) → AllByRecursion (λ leaf. length leaf.path ≤ draws_of visited) visited
all_within [] = tt
all_within (leaf ∷ visited) =
    (grind arith, all_by (λ l. length l.path ≤ draws_of visited) (λ l. length l.path ≤ length leaf.path + draws_of visited) visited (λ l fits. omega (arith, fits)) (all_within visited))

-- this tree has the draws of all the runs
pub has_draws : (first : Option (List Bool)) (visited : List Visited) (next : Option (List Bool)) → InOrder first visited next → AllByRecursion Extends visited
    → AllByRecursion (HasDraws (tree_of visited)) visited
has_draws first visited next order all =
    all_both (λ leaf. length leaf.path ≤ draws_of visited) (λ leaf. (ends_at visited leaf.path ≡ true) × GoesOn visited leaf × Extends leaf) (HasDraws (tree_of visited)) visited
    (λ leaf fits has. one leaf fits has.0 has.1 has.2) (all_within visited)
    (all_both (λ leaf. ends_at visited leaf.path ≡ true) (λ leaf. GoesOn visited leaf × Extends leaf) (λ leaf. (ends_at visited leaf.path ≡ true) × GoesOn visited leaf × Extends leaf) visited
    (λ leaf e rest. (e, rest.0, rest.1)) (ends first visited next order)
    (all_both (GoesOn visited) Extends (λ leaf. GoesOn visited leaf × Extends leaf) visited (λ leaf on ext. (on, ext)) (goes_on first visited next order all) all))
  where
    one : (leaf : Visited) → length leaf.path ≤ draws_of visited → ends_at visited leaf.path ≡ true → GoesOn visited leaf → Extends leaf → HasDraws (tree_of visited) leaf
    one leaf fits here on ext =
        let long : length leaf.path ≡ ext.count = ap length ext.is ∙ length-extended ext.count leaf.given in
        depth_grown (draws_of visited) ext.count (ends_at visited) leaf.given (omega (arith, fits, long)) (ap (ends_at visited) (sym ext.is) ∙ here)
        (λ k less. on (extend_path k leaf.given) (subst (Precedes (extend_path k leaf.given)) (sym ext.is) (precedes k ext.count leaf.given less)))
        ∙ sym long
