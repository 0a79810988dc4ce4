-- The leaves that were visited, and their outcomes.
use Rattle.std.proofs.Common.{◌≡◌, ◌≢◌, ◌↔◌, ◌<◌, ℕ, ◌+◌, ◌-◌, ◌^◌, Bool, true, false, List, [], ◌∷◌, ◌++◌, length, map, take, Option, Some, None, refl, sym, ap, ◌∙◌, subst, arith, append_assoc}
use Rattle.std.specs.Prelude.{string_bytes}
use Rattle.std.specs.List.{AllByRecursion}
use Rattle.std.proofs.lemmas.List.{length-append, length-map, map-append}
use Rattle.blob_tree.specs.Trees.{Choice, DecisionTree, Leaf as leaf_only, left_after, left_from, leaves}
use Rattle.blob_choices.specs.Decided.{Decides}
use Rattle.blob_choices.specs.Explored.{LeavesHoldEveryRun, RunsAlong}
use Rattle.blob_choices.specs.Outcomes.{SetNoPartialResize, acts_of, run_outcome}
use Rattle.blob_choices.specs.TwoWords.{RunsAreDecided}
use Rattle.blob_distinct.specs.Distinct.{LeafText, leaf_text}
use Rattle.blob_distinct.specs.Explored.{Counts, HasCounted, outcomes_found}
use Rattle.blob_distinct.specs.declared.explored.Explored.{Explored}
use Rattle.blob_explore.specs.SharedCalls.{replies_of}
use Rattle.blob_explore.specs.Explorations.{DecidesRun, IsBegun, Visits, VisitsNext, remaining_leaves, explored_script, path_of, start_of}
use Rattle.blob_explore.specs.Outcomes.{Explores, Exploring, RunsAlongPath, Visited, path_to, replies_text, shown_leaf}
use Rattle.blob_explore.specs.declared.exploration.Exploration.{Exploration}
use Rattle.blob_explore.specs.declared.exploration.Leaf.{Leaf}
use Rattle.blob_explore.specs.declared.script.Script.{Script}

-- before the first leaf
pub none_yet : (last : Bool) (e : Exploration) (found : Explored) (t : DecisionTree) → remaining_leaves e t ≡ leaves t → HasCounted found [] → Exploring (explored_script e) last e found t
none_yet last e found t all none = record {
  explored = refl;
  visited = [];
  paths = all;
  replies = tt;
  counted = none;
}

one_more_run : (script : Script) (leaves : List Visited) (leaf : Visited) → AllByRecursion (RunsAlongPath script) leaves → RunsAlongPath script leaf
    → AllByRecursion (RunsAlongPath script) (leaves ++ leaf ∷ [])
one_more_run script [] leaf all one = (one, tt)
one_more_run script (l ∷ leaves) leaf all one = (all.0, one_more_run script leaves leaf all.1 one)

-- one more leaf
pub visits_more : (script : Script) (last : Bool) (e e' : Exploration) (leaf : Leaf) (text : List ℕ) (old new : Explored) (t : DecisionTree)
    → Exploring script last e old t → Visits e leaf e' t → explored_script e' ≡ explored_script e → old.leaves < 2 ^ 64 - 1
    → string_bytes old.shared ++ text ≡ replies_text last (replies_of e leaf) → Counts old leaf.words.items text new → Exploring script last e' new t
visits_more script last e e' leaf text old new t before visits same few is counts =
    let here : Visited = record { path = visits.path; replies = replies_of e leaf } in
    let visited : List Visited = before.visited in
    let shown : List LeafText = map (shown_leaf last) visited in
    let S : Script → Type 0 = λ s. RunsAlong (start_of s) s.calls.items visits.path (replies_of e leaf) in
    let leaf_is : leaf_text leaf.words.items (string_bytes old.shared ++ text) ≡ shown_leaf last here = λ i. leaf_text (visits.words i) (is i) in
    let more : HasCounted new (shown ++ leaf_text leaf.words.items (string_bytes old.shared ++ text) ∷ []) = counts shown (omega (arith, before.counted.count, few)) before.counted in
    record {
      explored = same ∙ before.explored;
      visited = visited ++ here ∷ [];
      paths = ap (λ (ps : List (List Bool)). ps ++ remaining_leaves e' t) (map-append path_to visited (here ∷ [])) ∙ append_assoc (map path_to visited) (visits.path ∷ []) (remaining_leaves e' t)
          ∙ ap (λ (ps : List (List Bool)). map path_to visited ++ ps) (sym visits.first) ∙ before.paths;
      replies = one_more_run script visited here before.replies (subst S before.explored visits.replies);
      counted = subst (HasCounted new) (ap (λ (l : LeafText). shown ++ l ∷ []) leaf_is ∙ sym (map-append (shown_leaf last) visited (here ∷ []))) more;
    }

-- what an exploration has found since its start
abbrev pub Found : Exploration → Bool → Exploration → Explored → Type 0
Found begun last e found = IsBegun begun → (t : DecisionTree) → DecidesRun begun t → Exploring (explored_script begun) last e found t

-- one more leaf, and its text
pub found_more : (begun e e' : Exploration) (leaf : Leaf) (last : Bool) (text : List ℕ) (old new : Explored)
    → Found begun last e old → (IsBegun begun → VisitsNext e leaf e') → explored_script e' ≡ explored_script e → old.leaves < 2 ^ 64 - 1
    → string_bytes old.shared ++ text ≡ replies_text last (replies_of e leaf) → Counts old leaf.words.items text new → Found begun last e' new
found_more begun e e' leaf last text old new found visits same few is counts b t D =
    let before : Exploring (explored_script begun) last e old t = found b t D in
    let S : Script → Type 0 = λ s. Decides (run_outcome (start_of s) (acts_of s.calls.items)) t in
    visits_more (explored_script begun) last e e' leaf text old new t before (visits b t (subst S (sym before.explored) D)) same few is counts

-- the first items of a list
firsts : (X : Type 0) (n : ℕ) (xs ys all : List X) → length xs ≡ n → xs ++ ys ≡ all → xs ≡ take n all
firsts X n xs ys all many whole = firsts_of xs ∙ ap (λ (k : ℕ). take k (xs ++ ys)) many ∙ ap (take n) whole
  where
    firsts_of : (xs : List X) → xs ≡ take (length xs) (xs ++ ys)
    firsts_of [] = refl
    firsts_of (x ∷ xs) = ap (λ (zs : List X). x ∷ zs) (firsts_of xs)

-- a leaf is left from each path on
some_front : (o : Bool) (paths others : List (List Bool)) → 0 < length paths → 0 < length (map (λ path. o ∷ path) paths ++ others)
some_front o (path ∷ paths) others some = grind arith
some_front o [] others some = absurd (grind (arith, some))

some_from : (t : DecisionTree) (path : List Bool) → 0 < length (left_from t path)
some_from leaf_only path = omega arith
some_from (Choice if_true if_false) [] = some_front true (left_from if_true []) (map (λ path. false ∷ path) (leaves if_false)) (some_from if_true [])
some_from (Choice if_true if_false) (true ∷ path) = some_front true (left_from if_true path) (map (λ path. false ∷ path) (leaves if_false)) (some_from if_true path)
some_from (Choice if_true if_false) (false ∷ path) =
    let same : length (map (λ path. false ∷ path) (left_from if_false path)) ≡ length (left_from if_false path) = length-map (left_from if_false path) (λ path. false ∷ path) in
    omega (arith, same, some_from if_false path)

some_left : (t : DecisionTree) (path : Option (List Bool)) → path ≢ None → 0 < length (left_after t path)
some_left t None is = absurd (is refl)
some_left t (Some path) is = some_from t path

-- the visited leaves are all of them exactly if no leaf is left
none_left : (is_complete : Bool) (visited rest all : ℕ) → visited + rest ≡ all → (is_complete ≡ true → rest ≡ 0) → (is_complete ≡ false → 0 < rest) → is_complete ≡ true ↔ visited ≡ all
none_left true visited rest all sum none some = (λ _. omega (arith, sum, none refl), λ _. refl)
none_left false visited rest all sum none some = (λ e. cc, λ same. absurd (omega (arith, sum, same, some refl)))

-- what was found at the end
pub found_all : RunsAreDecided → LeavesHoldEveryRun → (script : Script) (begun e : Exploration) (last is_complete : Bool) (found : Explored)
    → explored_script begun ≡ script → IsBegun begun → Found begun last e found
    → (is_complete ≡ true → (t : DecisionTree) → remaining_leaves e t ≡ []) → (is_complete ≡ false → path_of e ≢ None) → SetNoPartialResize (acts_of script.calls.items) → Explores script last is_complete found.leaves (outcomes_found found)
found_all decided hold script begun e last is_complete found same b so_far end on none =
    let (t, D) = decided (start_of script) (acts_of script.calls.items) tt none in
    let S : Script → Type 0 = λ s. Decides (run_outcome (start_of s) (acts_of s.calls.items)) t in
    let E : Script → Type 0 = λ s. Exploring s last e found t in
    let exploring : Exploring script last e found t = subst E same (so_far b t (subst S (sym same) D)) in
    let paths : List (List Bool) = map path_to exploring.visited in
    let many : length paths ≡ found.leaves = length-map exploring.visited path_to ∙ sym (length-map exploring.visited (shown_leaf last)) ∙ sym exploring.counted.count in
    let size : length paths + length (remaining_leaves e t) ≡ length (leaves t) = sym (length-append paths (remaining_leaves e t)) ∙ ap length exploring.paths in
    record {
      tree = t;
      decides = D;
      runs = hold (start_of script) script.calls.items t D;
      visited = exploring.visited;
      paths = firsts (List Bool) found.leaves paths (remaining_leaves e t) (leaves t) many exploring.paths;
      replies = exploring.replies;
      most = omega (arith, size, many);
      complete = none_left is_complete found.leaves (length (remaining_leaves e t)) (length (leaves t)) (ap (λ (n : ℕ). n + length (remaining_leaves e t)) (sym many) ∙ size)
          (λ is. ap length (end is t)) (λ is. some_left t (path_of e) (on is));
      outcomes = exploring.counted.outcomes;
    }
