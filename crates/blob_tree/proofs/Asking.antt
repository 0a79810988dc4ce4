-- The choices of a run, one more at a time.
use Rattle.std.proofs.Common.{arith, ◌≡◌, ℕ, zero, suc, ◌+◌, ◌||◌, false, true, Bool, List, [], ◌∷◌, ◌++◌, drop, length, replicate, refl, sym, ap, ◌∙◌, subst, append_assoc, length-append, not}
use Rattle.std.proofs.lemmas.List.{drop-drop}
use Rattle.blob_tree.specs.ChoiceTrees.{branch_on, chosen}
use Rattle.blob_tree.specs.Traversals.{Makes, differs_along, draws, draws_and_size, fits, made_along, made_of, path_ahead, path_of}
use Rattle.blob_tree.specs.declared.choice.TheConstants.{DRAWN_SIZE}
use Rattle.blob_tree.specs.declared.choice.Choice.{Choice}
use Rattle.blob_tree.specs.declared.traversal.Traversal.{Traversal}

nothing : (n : ℕ) → drop {A = Choice} n [] ≡ []
nothing zero = refl
nothing (suc n) = refl

behind_first : (n : ℕ) (path : List Choice) → drop n (drop 1 path) ≡ drop (suc n) path
behind_first n [] = nothing n
behind_first n (choice ∷ path) = refl

along_more : (asks : List (ℕ × ℕ)) (ask : ℕ × ℕ) (path : List Choice) → made_along (asks ++ ask ∷ []) path ≡ made_along asks path ++ made_along (ask ∷ []) (drop (length asks) path)
along_more [] ask path = refl
along_more (first ∷ asks) ask path =
    ap (λ (cs : List Choice). chosen first.0 first.1 (branch_on first.1 path) ∷ cs) (along_more asks ask (drop 1 path))
    ∙ ap (λ (p : List Choice). chosen first.0 first.1 (branch_on first.1 path) ∷ made_along asks (drop 1 path) ++ made_along (ask ∷ []) p) (behind_first (length asks) path)

or_assoc : (a b c : Bool) → ((a || b) || c) ≡ (a || (b || c))
or_assoc true b c = refl
or_assoc false b c = refl

or_false : (a b : Bool) → (a || b) ≡ false → a ≡ false
or_false true b e = e
or_false false b e = refl

differs_none : (asks : List (ℕ × ℕ)) → differs_along asks [] ≡ false
differs_none [] = refl
differs_none (ask ∷ asks) = refl

differs_more : (asks : List (ℕ × ℕ)) (ask : ℕ × ℕ) (path : List Choice) → differs_along (asks ++ ask ∷ []) path ≡ (differs_along asks path || differs_along (ask ∷ []) (drop (length asks) path))
differs_more [] ask path = refl
differs_more (first ∷ asks) ask [] = sym (ap (λ (p : List Choice). differs_along (ask ∷ []) p) (nothing (length (first ∷ asks))))
differs_more (first ∷ asks) ask (choice ∷ path) =
    ap (λ (b : Bool). not (fits first choice) || b) (differs_more asks ask path)
    ∙ sym (or_assoc (not (fits first choice)) (differs_along asks path) (differs_along (ask ∷ []) (drop (length asks) path)))

pub makes_more : (asks : List (ℕ × ℕ)) (ask : ℕ × ℕ) (t t' t'' : Traversal) (cs cs' cs'' : List Choice) → Makes asks t cs t' cs' → Makes (ask ∷ []) t' cs' t'' cs''
    → Makes (asks ++ ask ∷ []) t cs t'' cs''
makes_more asks ask t t' t'' cs cs' cs'' m n =
    let ahead : path_ahead t' cs' ≡ drop (length asks) (path_ahead t cs) =
    ap (λ (p : List Choice). drop t'.taken p) m.path ∙ ap (λ (k : ℕ). drop k (path_of t cs)) m.taken ∙ sym (drop-drop (length asks) t.taken (path_of t cs)) in
    record {
      taken = n.taken ∙ ap (λ (k : ℕ). k + 1) m.taken ∙ grind (arith, length-append);
      made = λ e. let same : t'.differs ≡ false = or_false t'.differs _ (sym n.differs ∙ e) in
          n.made e ∙ ap (λ (p : List Choice). made_of t' cs' ++ made_along (ask ∷ []) p) ahead
          ∙ ap (λ (p : List Choice). p ++ made_along (ask ∷ []) (drop (length asks) (path_ahead t cs))) (m.made same)
          ∙ append_assoc (made_of t cs) (made_along asks (path_ahead t cs)) (made_along (ask ∷ []) (drop (length asks) (path_ahead t cs)))
          ∙ ap (λ (p : List Choice). made_of t cs ++ p) (sym (along_more asks ask (path_ahead t cs)));
      differs = n.differs ∙ ap (λ (p : List Choice). t'.differs || differs_along (ask ∷ []) p) ahead
          ∙ ap (λ (b : Bool). b || differs_along (ask ∷ []) (drop (length asks) (path_ahead t cs))) m.differs
          ∙ or_assoc t.differs (differs_along asks (path_ahead t cs)) (differs_along (ask ∷ []) (drop (length asks) (path_ahead t cs)))
          ∙ ap (λ (b : Bool). t.differs || b) (sym (differs_more asks ask (path_ahead t cs)));
      path = n.path ∙ m.path;
      others = n.others ∙ ap (λ (u : Traversal). record u { taken = t''.taken; differs = t''.differs; drawn = t''.drawn }) m.others;
    }

-- as many of one kind
one_more : (count : ℕ) (ask : ℕ × ℕ) → replicate (suc count) ask ≡ replicate count ask ++ ask ∷ []
one_more zero ask = refl
one_more (suc count) ask = ap (λ (asks : List (ℕ × ℕ)). ask ∷ asks) (one_more count ask)

pub makes_again : (count : ℕ) (ask : ℕ × ℕ) (t t' t'' : Traversal) (cs cs' cs'' : List Choice) → Makes (replicate count ask) t cs t' cs' → Makes (ask ∷ []) t' cs' t'' cs''
    → Makes (replicate (count + 1) ask) t cs t'' cs''
makes_again count ask t t' t'' cs cs' cs'' m n =
    let next : suc count ≡ count + 1 = omega arith in
    subst (λ (k : ℕ). Makes (replicate k ask) t cs t'' cs'') next
    (subst (λ (asks : List (ℕ × ℕ)). Makes asks t cs t'' cs'') (sym (one_more count ask)) (makes_more (replicate count ask) ask t t' t'' cs cs' cs'' m n))

-- draws, and the last one that of a size
pub makes_size : (count less more d : ℕ) (t t' t'' : Traversal) (cs cs' cs'' : List Choice) → count ≡ suc less → Makes (draws less) t cs t' cs' → Makes ((DRAWN_SIZE, more) ∷ []) t' cs' t'' cs''
    → Makes (draws_and_size count more) t cs (record t'' { drawn = d }) cs''
makes_size count less more d t t' t'' cs cs' cs'' one m n =
    let all = makes_more (draws less) (DRAWN_SIZE, more) t t' t'' cs cs' cs'' m n in
    subst (λ (k : ℕ). Makes (draws_and_size k more) t cs (record t'' { drawn = d }) cs'') (sym one) (record {
      taken = all.taken;
      made = all.made;
      differs = all.differs;
      path = all.path;
      others = ap (λ (u : Traversal). record u { drawn = d }) all.others;
    })
