-- The leaves of a tree hold every run.
use Rattle.std.proofs.Common.{◌≡◌, ◌<◌, ℕ, zero, suc, ◌+◌, Bool, true, false, List, [], ◌∷◌, ◌++◌, map, length, get_or, refl, sym, ap, ◌∙◌, subst, arith}
use Rattle.std.proofs.lemmas.List.{length-append, get_or_append_left, get_or-append-add}
use Rattle.rand_core.specs.Stream.{Stream}
use Rattle.blob_script.specs.declared.call.Call.{Call}
use Rattle.blob_script.specs.Told.{Told}
use Rattle.blob_lab_model.specs.Runs.{LeadsTo}
use Rattle.blob_lab_model.specs.Scripted.{Left, scripted_stream}
use Rattle.blob_lab_model.specs.States.{State}
use Rattle.blob_tree.specs.Trees.{DecisionTree, Leaf, Choice, IsLeaf, leaves}
use Rattle.blob_choices.specs.Decided.{Decides, path_stream}
use Rattle.blob_choices.specs.Explored.{HoldEveryRun}
use Rattle.blob_choices.specs.Outcomes.{acts_of, run_outcome, with_stream}
use Rattle.blob_choices.proofs.Runs.{any_stream, leaf_of}

-- a place in a list
abbrev At : {X : Type 0} → X → List X → Type 0
At {X} x xs = (i : ℕ) × (i < length xs) × ((d : X) → get_or xs i d ≡ x)

at_map : {X Y : Type 0} (f : X → Y) (x : X) (xs : List X) → At x xs → At (f x) (map f xs)
at_map f x [] (i, lt, same) = absurd (omega arith)
at_map f x (y ∷ ys) (zero, lt, same) = (zero, omega arith, λ d. ap f (same y))
at_map f x (y ∷ ys) (suc i, lt, same) =
    let (j, below, e) = at_map f x ys (i, omega arith, same) in
    (suc j, omega (arith, below), e)

at_left : {X : Type 0} (x : X) (xs ys : List X) → At x xs → At x (xs ++ ys)
at_left x xs ys (i, lt, same) =
    let len = length-append xs ys in
    (i, omega (arith, lt, len), λ d. get_or_append_left xs ys d i lt ∙ same d)

at_right : {X : Type 0} (x : X) (xs ys : List X) → At x ys → At x (xs ++ ys)
at_right x xs ys (i, lt, same) =
    let len = length-append xs ys in
    (length xs + i, omega (arith, lt, len), λ d. get_or-append-add xs ys i d ∙ same d)

-- each leaf is listed
listed : (t : DecisionTree) (p : List Bool) → IsLeaf t p → At p (leaves t)
listed Leaf [] leaf = (zero, omega arith, λ d. refl)
listed Leaf (o ∷ p) leaf = absurd leaf
listed (Choice if_true if_false) [] leaf = absurd leaf
listed (Choice if_true if_false) (true ∷ p) leaf =
    at_left (true ∷ p) (map (λ path. true ∷ path) (leaves if_true)) (map (λ path. false ∷ path) (leaves if_false)) (at_map (λ path. true ∷ path) p (leaves if_true) (listed if_true p leaf))
listed (Choice if_true if_false) (false ∷ p) leaf =
    at_right (false ∷ p) (map (λ path. true ∷ path) (leaves if_true)) (map (λ path. false ∷ path) (leaves if_false)) (at_map (λ path. false ∷ path) p (leaves if_false) (listed if_false p leaf))

pub hold_every_run : (v : State) (calls : List Call) (t : DecisionTree) → Decides (run_outcome v (acts_of calls)) t → HoldEveryRun v calls (leaves t)
hold_every_run v calls t D s w replies words there run =
    let u : State = with_stream v s in
    let same : run_outcome u (acts_of calls) ≡ run_outcome v (acts_of calls) = λ i x. any_stream (acts_of calls) v s x i in
    let P : (Stream → (List Told × (Stream → State)) × Stream) → Type 0 = λ f. Decides f t in
    let (p, leaf, go) = leaf_of u w calls replies t (subst P (sym same) D) words there run in
    let (i, lt, here) = listed t p leaf in
    let Q : List Bool → Type 0 = λ q. (tail : Left) → LeadsTo (with_stream v (path_stream q tail)) calls replies (with_stream w (scripted_stream tail)) in
    (i, lt, subst Q (sym (here [])) go)
