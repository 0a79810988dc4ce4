-- Draws that are decided by the least and the greatest word: one after another, and by cases.
use Rattle.std.proofs.Common.{◌≡◌, ℕ, Bool, true, false, cond, List, [], ◌∷◌, ◌++◌, refl, sym, ap, ◌∙◌, subst, append_assoc}
use Rattle.std.proofs.lemmas.List.{map-append}
use Rattle.rand_core.specs.Stream.{Stream}
use Rattle.blob_tree.specs.Trees.{DecisionTree, Leaf, Choice, IsLeaf, outcome_word, words_of}
use Rattle.blob_lab_model.specs.Scripted.{Left, scripted_stream}
use Rattle.blob_choices.specs.Decided.{HasU64Words, path_stream, zeros, Decides, IsDecided}

-- Trees.

-- a tree at each leaf of a tree
abbrev pub graft : DecisionTree → (List Bool → DecisionTree) → DecisionTree
graft Leaf k = k []
graft (Choice if_true if_false) k = Choice (graft if_true (λ path. k (true ∷ path))) (graft if_false (λ path. k (false ∷ path)))

pub grafted : (t : DecisionTree) (k : List Bool → DecisionTree) (p q : List Bool) → IsLeaf t p → IsLeaf (k p) q → IsLeaf (graft t k) (p ++ q)
grafted Leaf k [] q a b = b
grafted Leaf k (o ∷ p) q a b = absurd a
grafted (Choice if_true if_false) k [] q a b = absurd a
grafted (Choice if_true if_false) k (true ∷ p) q a b = grafted if_true (λ path. k (true ∷ path)) p q a b
grafted (Choice if_true if_false) k (false ∷ p) q a b = grafted if_false (λ path. k (false ∷ path)) p q a b

-- a path in two parts
pub record Parts (t : DecisionTree) (k : List Bool → DecisionTree) (path : List Bool) : Type 0 where
  pub first : List Bool
  pub second : List Bool
  pub whole : path ≡ first ++ second
  pub above : IsLeaf t first
  pub below : IsLeaf (k first) second

pub parts : (t : DecisionTree) (k : List Bool → DecisionTree) (path : List Bool) → IsLeaf (graft t k) path → Parts t k path
parts Leaf k path a = record { first = []; second = path; whole = refl; above = tt; below = a }
parts (Choice if_true if_false) k [] a = absurd a
parts (Choice if_true if_false) k (true ∷ path) a =
    let r = parts if_true (λ p. k (true ∷ p)) path a in
    record { first = true ∷ r.first; second = r.second; whole = ap (λ (p : List Bool). true ∷ p) r.whole; above = r.above; below = r.below }
parts (Choice if_true if_false) k (false ∷ path) a =
    let r = parts if_false (λ p. k (false ∷ p)) path a in
    record { first = false ∷ r.first; second = r.second; whole = ap (λ (p : List Bool). false ∷ p) r.whole; above = r.above; below = r.below }

-- Worlds.

pub stream_parts : (p q : List Bool) (tail : Left) → path_stream (p ++ q) tail ≡ path_stream p (words_of q ++ tail.0, tail.1)
stream_parts p q tail =
    ap (λ (ws : List ℕ). scripted_stream (ws, tail.1)) (ap (λ (ws : List ℕ). ws ++ tail.0) (map-append outcome_word p q) ∙ append_assoc (words_of p) (words_of q) tail.0)

-- One draw after another.

-- nothing is drawn
abbrev here : {X : Type 0} → X → Stream → X × Stream
here x s = (x, s)

takes_none : {X : Type 0} (x : X) (path : List Bool) (tail : Left) → IsLeaf Leaf path → here x (path_stream path tail) ≡ here x (scripted_stream tail)
takes_none x [] tail a = refl
takes_none x (o ∷ path) tail a = absurd a

pub decided_none : {X : Type 0} (x : X) → IsDecided (λ s. (x, s))
decided_none x = (Leaf, record { takes = takes_none x; covers = λ s h. ([], tt, refl); words = λ s h. h })

-- what is the same for each stream
pub decided_same : {X : Type 0} (f g : Stream → X × Stream) → ((s : Stream) → f s ≡ g s) → IsDecided f → IsDecided g
decided_same {X} f g same (t, d) =
    let e : f ≡ g = λ i s. same s i in
    (t, subst (λ (h : Stream → X × Stream). Decides h t) e d)

module _ {X Y : Type 0} (f : Stream → X × Stream) (g : X → Stream → Y × Stream) (t : DecisionTree) (F : Decides f t) (G : (s : Stream) → IsDecided (g (f s).0)) where
  abbrev both : Stream → Y × Stream
  both s = g (f s).0 (f s).1

  abbrev k : List Bool → DecisionTree
  k path = (G (path_stream path zeros)).0

  -- along a path in two parts
  along : (p q : List Bool) (tail : Left) → IsLeaf t p → IsLeaf (k p) q → both (path_stream (p ++ q) tail) ≡ ((g (f (path_stream p zeros)).0 (path_stream q zeros)).0, scripted_stream tail)
  along p q tail a b =
      ap both (stream_parts p q tail)
      ∙ ap (λ (r : X × Stream). g r.0 r.1) (F.takes p (words_of q ++ tail.0, tail.1) a)
      ∙ (G (path_stream p zeros)).1.takes q tail b

  takes_both : (path : List Bool) (tail : Left) → IsLeaf (graft t k) path → both (path_stream path tail) ≡ ((both (path_stream path zeros)).0, scripted_stream tail)
  takes_both path tail a =
      let r = parts t k path a in
      let P : List Bool → Type 0 = λ path. both (path_stream path tail) ≡ ((both (path_stream path zeros)).0, scripted_stream tail) in
      subst P (sym r.whole)
      (along r.first r.second tail r.above r.below
      ∙ ap (λ (y : Y). (y, scripted_stream tail)) (sym (ap (λ (d : Y × Stream). d.0) (along r.first r.second zeros r.above r.below))))

  covers_both : (s : Stream) → HasU64Words s → (path : List Bool) × IsLeaf (graft t k) path × ((both (path_stream path zeros)).0 ≡ (both s).0)
  covers_both s h =
      let (p, a, e) = F.covers s h in
      let (q, b, e') = (G (path_stream p zeros)).1.covers (f s).1 (F.words s h) in (
        p ++ q,
        grafted t k p q a b,
        ap (λ (d : Y × Stream). d.0) (along p q zeros a b) ∙ e' ∙ ap (λ (x : X). (g x (f s).1).0) e,
      )

  words_both : (s : Stream) → HasU64Words s → HasU64Words (both s).1
  words_both s h = (G s).1.words (f s).1 (F.words s h)

  pub decided_both : IsDecided both
  decided_both = (graft t k, record { takes = takes_both; covers = covers_both; words = words_both })

pub decided_then : {X Y : Type 0} (f : Stream → X × Stream) (g : X → Stream → Y × Stream) → IsDecided f → ((s : Stream) → IsDecided (g (f s).0)) → IsDecided (λ s. g (f s).0 (f s).1)
decided_then f g (t, F) G = decided_both f g t F G

pub decided_map : {X Y : Type 0} (f : Stream → X × Stream) (h : X → Y) → IsDecided f → IsDecided (λ s. (h (f s).0, (f s).1))
decided_map f h F = decided_then f (λ x s. (h x, s)) F (λ s. decided_none (h (f s).0))

-- by a test that draws nothing
pub decided_if : {X : Type 0} (c : Bool) (f g : Stream → X × Stream) → (c ≡ true → IsDecided f) → (c ≡ false → IsDecided g) → IsDecided (λ s. cond c (f s) (g s))
decided_if true f g F G = F refl
decided_if false f g F G = G refl
