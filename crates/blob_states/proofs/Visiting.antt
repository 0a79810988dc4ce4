-- The crashes that were tried, and the states that they left.
use Rattle.std.proofs.Common.{◌≡◌, ◌≢◌, ℕ, zero, suc, ◌+◌, Bool, true, false, not, if◌then◌else◌, List, [], ◌∷◌, ◌++◌, length, map, take, Option, Some, None, refl, sym, ap, ◌∙◌, subst, arith, append_assoc, append-nil}
use Rattle.std.specs.List.{All, AllPairs, Contains}
use Rattle.std.proofs.lemmas.List.{length-append, length-map, take-append-le, take_all}
use Rattle.std.proofs.lemmas.List.Elements.{All-contains, All-nil, All-push, All-weaker, Contains-append_left, Contains-append_right}
use Rattle.blob_tree.specs.Trees.{DecisionTree, Leaf, Choice, Advances, IsLeaf, depth, extend_path, if_more, leaves, left_after, left_from, outcome_word, words_of}
use Rattle.blob_lab_model.specs.States.{State}
use Rattle.blob_choices.specs.Decided.{Decides, path_stream, zeros}
use Rattle.blob_states.specs.Crashed.{crash_draws, lines_left}
use Rattle.blob_distinct.specs.Found.{LeftState, left_by, lines_in, with_state}
use Rattle.blob_states.specs.CrashStates.{AreLeft, IsFound, IsLeft, only_words}
use Rattle.blob_states.specs.Recorded.{Name}
use Rattle.blob_states.proofs.Crashing.{Took, along, same_lines}
use Rattle.blob_states.proofs.Adding.{all_with, has_now, has_still, once_with}

-- each leaf is listed

at_map : {X Y : Type 0} (f : X → Y) (x : X) (xs : List X) → Contains xs x → Contains (map f xs) (f x)
at_map f x [] (i, lt, same) = absurd (omega arith)
at_map f x (y ∷ ys) (zero, lt, same) = (zero, omega arith, ap f same)
at_map f x (y ∷ ys) (suc i, lt, same) = let (j, below, e) = at_map f x ys (i, omega arith, same) in (suc j, omega (arith, below), e)

listed : (t : DecisionTree) (p : List Bool) → IsLeaf t p → Contains (leaves t) p
listed Leaf [] leaf = (zero, omega arith, refl)
listed Leaf (o ∷ p) leaf = absurd leaf
listed (Choice if_true if_false) [] leaf = absurd leaf
listed (Choice if_true if_false) (true ∷ p) leaf =
    Contains-append_left (map (λ path. true ∷ path) (leaves if_true)) (map (λ path. false ∷ path) (leaves if_false)) (true ∷ p) (at_map (λ path. true ∷ path) p (leaves if_true) (listed if_true p leaf))
listed (Choice if_true if_false) (false ∷ p) leaf =
    Contains-append_right (map (λ path. true ∷ path) (leaves if_true)) (map (λ path. false ∷ path) (leaves if_false)) (false ∷ p) (at_map (λ path. false ∷ path) p (leaves if_false) (listed if_false p leaf))

-- The crashes along the first leaves of a tree were tried. `rest` is the path to the others.
pub record Tried (v : State) (names : List Name) (t : DecisionTree) (rest : Option (List Bool)) (count : ℕ) (states : List LeftState) : Type 0 where
  pub visited : List (List Bool)
  pub many : length visited ≡ count
  pub paths : visited ++ left_after t rest ≡ leaves t
  pub sound : All (IsLeft v names) states
  pub once : AllPairs (λ a b. a ≢ b) (lines_in states)
  pub met : All (IsFound v names states) visited

pub none_yet : (v : State) (names : List Name) (t : DecisionTree) → left_from t [] ≡ leaves t → Tried v names t (Some []) 0 []
none_yet v names t first = record {
  visited = [];
  many = refl;
  paths = first;
  sound = All-nil (IsLeft v names);
  once = λ i j d below within. absurd (omega (arith, below, within));
  met = All-nil (IsFound v names []);
}

length-extended : (n : ℕ) (path : List Bool) → length (extend_path n path) ≡ n
length-extended zero path = refl
length-extended (suc n) [] = ap suc (length-extended n [])
length-extended (suc n) (o ∷ path) = ap suc (length-extended n path)

-- one more crash
pub one_more : (v : State) (names : List Name) (t : DecisionTree) (path : List Bool) (next : Option (List Bool)) (count taken : ℕ) (states : List LeftState) (words lines : List ℕ)
    → Decides (crash_draws v) t → Tried v names t (Some path) count states → Took v names path words lines → taken ≡ length words → Advances path taken next
    → Tried v names t next (count + 1) (with_state states (left_by words lines))
one_more v names t path next count taken states words lines D before took size advances =
    let here : List Bool = extend_path (depth t path) path in
    let state : LeftState = left_by words lines in
    let (is, leaves_these) = took t D in
    let deep : depth t path ≡ taken = sym (size ∙ ap length is ∙ length-map here outcome_word ∙ length-extended (depth t path) path) in
    let first : left_from t path ≡ here ∷ left_after t next = advances t deep ∙ ap (λ (n : ℕ). extend_path n path ∷ left_after t next) (sym deep) in
    let met_here : IsFound v names (with_state states state) here = subst (Contains (lines_in (with_state states state))) leaves_these (has_now states state) in
    let visited : List (List Bool) = before.visited in
    record {
      visited = visited ++ here ∷ [];
      many = length-append visited (here ∷ []) ∙ ap (λ (n : ℕ). n + 1) before.many;
      paths = append_assoc visited (here ∷ []) (left_after t next) ∙ ap (λ (ps : List (List Bool)). visited ++ ps) (sym first) ∙ before.paths;
      sound = all_with (IsLeft v names) states state before.sound (leaves_these ∙ ap (λ (ws : List ℕ). lines_left v names (only_words ws)) (sym is));
      once = once_with states state before.once;
      met = All-push (IsFound v names (with_state states state)) visited here
          (All-weaker (IsFound v names states) (IsFound v names (with_state states state)) (λ p m. has_still states state (lines_left v names (only_words (words_of p))) m) visited before.met) met_here;
    }

-- what was found at the end
pub all_found : (v : State) (names : List Name) (t : DecisionTree) (rest : Option (List Bool)) (is_complete : Bool) (count : ℕ) (states : List LeftState)
    → Decides (crash_draws v) t → Tried v names t rest count states → (is_complete ≡ true → rest ≡ None) → AreLeft v names is_complete count states
all_found v names t rest is_complete count states D tried end =
    let size : length tried.visited + length (left_after t rest) ≡ length (leaves t) = sym (length-append tried.visited (left_after t rest)) ∙ ap length tried.paths in
    let first_leaves : take count (leaves t) ≡ tried.visited =
    ap (take count) (sym tried.paths) ∙ take-append-le count tried.visited (left_after t rest) (omega (arith, tried.many)) ∙ take_all count tried.visited (omega (arith, tried.many)) in
    record {
      sound = tried.sound;
      once = tried.once;
      complete = λ is s words.
          let whole : leaves t ≡ tried.visited = sym tried.paths ∙ ap (λ (r : Option (List Bool)). tried.visited ++ left_after t r) (end is) ∙ append-nil tried.visited in
          let (path, leaf, same) = D.covers s words in
          let met : IsFound v names states path = All-contains (IsFound v names states) tried.visited path tried.met (subst (λ (ps : List (List Bool)). Contains ps path) whole (listed t path leaf)) in
          subst (Contains (lines_in states)) (sym (along v names path) ∙ same_lines v names (path_stream path zeros) s same) met;
      tree = t;
      decides = D;
      most = omega (arith, size, tried.many);
      all = λ is. omega (arith, size, tried.many, ap (λ (r : Option (List Bool)). length (left_after t r)) (end is));
      tried = subst (All (IsFound v names states)) (sym first_leaves) tried.met;
    }

-- the same as a loop has it: the next path, and whether there is one
pub next_tried : (v : State) (names : List Name) (t : DecisionTree) (was done : Bool) (path new : List Bool) (more : Bool) (count taken : ℕ) (old now : List LeftState) (words lines : List ℕ)
    → was ≡ false → done ≡ not more → Decides (crash_draws v) t → Tried v names t (if was then None else Some path) count old → Took v names path words lines → taken ≡ length words
    → Advances path taken (if_more more new) → now ≡ with_state old (left_by words lines) → Tried v names t (if done then None else Some new) (count + 1) now
next_tried v names t was done path new more count taken old now words lines on ended D before took size advances is =
    let here : Tried v names t (Some path) count old = subst (λ (b : Bool). Tried v names t (if b then None else Some path) count old) on before in
    let rest : (if done then None else Some new) ≡ if_more more new = ap (λ (b : Bool). if b then None else Some new) ended ∙ advanced more new in
    subst (λ (states : List LeftState). Tried v names t (if done then None else Some new) (count + 1) states) (sym is)
    (subst (λ (r : Option (List Bool)). Tried v names t r (count + 1) (with_state old (left_by words lines))) (sym rest)
    (one_more v names t path (if_more more new) count taken old words lines D here took size advances))
  where
    advanced : (more : Bool) (next : List Bool) → (if (not more) then None else Some next) ≡ if_more more next
    advanced true next = refl
    advanced false next = refl
