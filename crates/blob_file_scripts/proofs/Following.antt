-- Each sequence of draws begins with exactly one path of a tree.
use Rattle.std.proofs.Common.{◌≡◌, ℕ, suc, Bool, true, false, List, [], ◌∷◌, ◌++◌, map, refl, sym, ap, ◌∙◌, subst, append_assoc, append-nil}
use Rattle.std.proofs.lemmas.List.{map-append}
use Rattle.blob_tree.specs.Trees.{Choice, DecisionTree, Leaf, leaves}
use Rattle.blob_file_scripts.specs.DrawSequences.{BeginsWithNone, BeginsWithOne}

abbrev rest_of : (ℕ → Bool) → ℕ → Bool
rest_of draws i = draws (suc i)

-- none of the paths on the other side
none_other : (draws : ℕ → Bool) (o : Bool) (paths : List (List Bool)) → (draws 0 ≡ o → ⊥) → BeginsWithNone draws (map (λ path. o ∷ path) paths)
none_other draws o [] differs = tt
none_other draws o (path ∷ paths) differs = (λ begins. differs begins.0, none_other draws o paths differs)

none_below : (draws : ℕ → Bool) (o : Bool) (paths : List (List Bool)) → BeginsWithNone (rest_of draws) paths → BeginsWithNone draws (map (λ path. o ∷ path) paths)
none_below draws o [] none = tt
none_below draws o (path ∷ paths) none = (λ begins. none.0 begins.1, none_below draws o paths none.1)

none_in_both : (draws : ℕ → Bool) (paths others : List (List Bool)) → BeginsWithNone draws paths → BeginsWithNone draws others → BeginsWithNone draws (paths ++ others)
none_in_both draws [] others none rest = rest
none_in_both draws (path ∷ paths) others none rest = (none.0, none_in_both draws paths others none.1 rest)

one_below : (draws : ℕ → Bool) (o : Bool) (paths front back : List (List Bool)) → draws 0 ≡ o → BeginsWithNone draws front → BeginsWithNone draws back → BeginsWithOne (rest_of draws) paths
    → BeginsWithOne draws (front ++ (map (λ path. o ∷ path) paths ++ back))
one_below draws o paths front back is before after one =
    let behind : List (List Bool) → List (List Bool) = map (λ path. o ∷ path) in
    record {
      before = front ++ behind one.before;
      path = o ∷ one.path;
      after = behind one.after ++ back;
      parts = ap (λ (ps : List (List Bool)). front ++ (ps ++ back)) (ap behind one.parts ∙ map-append (λ path. o ∷ path) one.before (one.path ∷ one.after))
          ∙ ap (λ (ps : List (List Bool)). front ++ ps) (append_assoc (behind one.before) ((o ∷ one.path) ∷ behind one.after) back)
          ∙ sym (append_assoc front (behind one.before) ((o ∷ one.path) ∷ behind one.after ++ back));
      begins = (is, one.begins);
      none_before = none_in_both draws front (behind one.before) before (none_below draws o one.before one.none_before);
      none_after = none_in_both draws (behind one.after) back (none_below draws o one.after one.none_after) after;
    }

one_of_both : (draws : ℕ → Bool) (o : Bool) (on off : List (List Bool)) → draws 0 ≡ o → BeginsWithOne (rest_of draws) on → BeginsWithOne (rest_of draws) off
    → BeginsWithOne draws (map (λ path. true ∷ path) on ++ map (λ path. false ∷ path) off)
one_of_both draws true on off is one other = one_below draws true on [] (map (λ path. false ∷ path) off) is tt (none_other draws false off (λ e. cc)) one
one_of_both draws false on off is other one =
    subst (λ (ps : List (List Bool)). BeginsWithOne draws (map (λ path. true ∷ path) on ++ ps)) (append-nil (map (λ path. false ∷ path) off))
    (one_below draws false off (map (λ path. true ∷ path) on) [] is (none_other draws true on (λ e. cc)) tt one)

pub one_leaf : (t : DecisionTree) (draws : ℕ → Bool) → BeginsWithOne draws (leaves t)
one_leaf Leaf draws = record { before = []; path = []; after = []; parts = refl; begins = tt; none_before = tt; none_after = tt }
one_leaf (Choice if_true if_false) draws = one_of_both draws (draws 0) (leaves if_true) (leaves if_false) refl (one_leaf if_true (rest_of draws)) (one_leaf if_false (rest_of draws))
