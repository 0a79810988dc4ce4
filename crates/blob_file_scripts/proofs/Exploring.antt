-- The leaves that were visited, and one more.
use Rattle.std.proofs.Common.{◌≡◌, ◌↔◌, ◌<◌, ◌≤◌, ◌+◌, ◌-◌, ◌^◌, ℕ, arith, Bool, true, false, not, if◌then◌else◌, List, [], ◌∷◌, ◌++◌, length, map, Option, Some, None, refl, sym, ap, ◌∙◌, subst, append_assoc, append-nil}
use Rattle.std.specs.Prelude.{string_bytes}
use Rattle.std.specs.List.{AllByRecursion}
use Rattle.std.proofs.lemmas.List.{length-map, map-append}
use Rattle.blob_tree.specs.Trees.{Advances, Choice, DecisionTree, Leaf as leaf_only, extend_path, leaves, left_after, left_from, next_path, outcome_word}
use Rattle.blob_script.specs.Scripts.{lines_of}
use Rattle.blob_distinct.specs.Distinct.{LeafText, leaf_text}
use Rattle.blob_distinct.specs.Explored.{Counts, HasCounted}
use Rattle.blob_distinct.specs.Printed.{exploration_text, explored_text}
use Rattle.blob_distinct.specs.declared.explored.Explored.{Explored}
use Rattle.blob_file_scripts.specs.DrawSequences.{BeginsWithOne}
use Rattle.blob_file_scripts.specs.Explorations.{AreRuns, HasDraws, HasVisited, InOrder, IsRunOf, PrintsExploration, Start, Visited, path_to, shown}
use Rattle.blob_file_scripts.specs.SharedLines.{Follows, HasFound, IsShared, front_of}
use Rattle.blob_file_scripts.specs.declared.explored.Leaf.{Leaf}
use Rattle.blob_file_scripts.specs.declared.shared.Shared.{Shared}
use Rattle.blob_file_scripts.proofs.Following.{one_leaf}
use Rattle.blob_file_scripts.proofs.Growing.{Extends, all_by, has_draws, length-extended, tree_of}
use Rattle.blob_file_scripts.proofs.TakenLines.{after_shared}

-- all leaves are those from the empty path on
from_first : (t : DecisionTree) → left_from t [] ≡ leaves t
from_first leaf_only = refl
from_first (Choice if_true if_false) = ap (λ (ls : List (List Bool)). map (λ path. true ∷ path) ls ++ map (λ path. false ∷ path) (leaves if_false)) (from_first if_true)

-- with no leaf
pub none_visited : (script : List ℕ) (last : Bool) → HasVisited script last [] (Some [])
none_visited script last = record {
  runs = tt;
  order = refl;
  tree = tree_of [];
  draws = tt;
  paths = from_first (tree_of []);
  first = λ t _. from_first t;
  none_missed = λ e. absurd (cc);
}

all_more : {X : Type 0} (P : X → Type 0) (xs : List X) (x : X) → AllByRecursion P xs → P x → AllByRecursion P (xs ++ x ∷ [])
all_more P [] x all one = (one, tt)
all_more P (y ∷ xs) x all one = (all.0, all_more P xs x all.1 one)

all_but : {X : Type 0} (P : X → Type 0) (xs : List X) (x : X) → AllByRecursion P (xs ++ x ∷ []) → AllByRecursion P xs × P x
all_but P [] x all = (tt, all.0)
all_but P (y ∷ xs) x all = let (front, one) = all_but P xs x all.1 in ((all.0, front), one)

order_more : (first : Option (List Bool)) (visited : List Visited) (leaf : Visited) (next : Option (List Bool)) → InOrder first visited (Some leaf.given) → next ≡ next_path leaf.path
    → InOrder first (visited ++ leaf ∷ []) next
order_more first [] leaf next before is = (sym before, is)
order_more first (l ∷ visited) leaf next before is = (before.0, order_more (next_path l.path) visited leaf next before.1 is)

-- the leaves of runs from a start, before the paths that begin with `next`
pub record Visits (script : List ℕ) (last : Bool) (start : Start script last) (visited : List Visited) (next : Option (List Bool)) : Type 0 where
  pub runs : AllByRecursion (IsRunOf script last start) visited
  pub order : InOrder (Some []) visited next
  pub first : (t : DecisionTree) → AllByRecursion (HasDraws t) visited → map path_to visited ++ left_after t next ≡ leaves t

pub visits_none : (script : List ℕ) (last : Bool) (start : Start script last) → Visits script last start [] (Some [])
visits_none script last start = record { runs = tt; order = refl; first = λ t _. from_first t }

-- one more leaf was visited
pub visits_more : (script : List ℕ) (last : Bool) (start : Start script last) (visited : List Visited) (leaf : Visited) (taken : ℕ) (next : Option (List Bool))
    → Visits script last start visited (Some leaf.given)
    → IsRunOf script last start leaf → leaf.path ≡ extend_path taken leaf.given → next_path (extend_path taken leaf.given) ≡ next → Advances leaf.given taken next
    → Visits script last start (visited ++ leaf ∷ []) next
visits_more script last start visited leaf taken next before run is following advances =
    let long : length leaf.path ≡ taken = ap length is ∙ length-extended taken leaf.given in
    record {
      runs = all_more (IsRunOf script last start) visited leaf before.runs run;
      order = order_more (Some []) visited leaf next before.order (sym following ∙ ap next_path (sym is));
      first = λ t draws.
          let (front, one) = all_but (HasDraws t) visited leaf draws in
          let here : left_from t leaf.given ≡ leaf.path ∷ left_after t next = advances t (one ∙ long) ∙ ap (λ (p : List Bool). p ∷ left_after t next) (sym is) in
          ap (λ (ps : List (List Bool)). ps ++ left_after t next) (map-append path_to visited (leaf ∷ [])) ∙ append_assoc (map path_to visited) (leaf.path ∷ []) (left_after t next)
          ∙ ap (λ (ps : List (List Bool)). map path_to visited ++ ps) (sym here) ∙ before.first t front;
    }

are_runs : (script : List ℕ) (last : Bool) (start : Start script last) (visited : List Visited) → AllByRecursion (IsRunOf script last start) visited → AreRuns script last visited
are_runs script last start [] all = tt
are_runs script last start (leaf ∷ visited) all = (start, all)

extends : (script : List ℕ) (last : Bool) (start : Start script last) (leaf : Visited) → IsRunOf script last start leaf → Extends leaf
extends script last start leaf run = record { count = _; least = omega (arith, run.follows); is = run.path_is }

-- there is a tree of these leaves
pub has_visited : (script : List ℕ) (last : Bool) (start : Start script last) (visited : List Visited) (next : Option (List Bool)) → Visits script last start visited next
    → HasVisited script last visited next
has_visited script last start visited next v =
    let tree : DecisionTree = tree_of visited in
    let draws : AllByRecursion (HasDraws tree) visited =
    has_draws (Some []) visited next v.order (all_by (IsRunOf script last start) Extends visited (extends script last start) v.runs) in
    let paths : map path_to visited ++ left_after tree next ≡ leaves tree = v.first tree draws in
    let whole : next ≡ None → leaves tree ≡ map path_to visited = λ end.
    sym paths ∙ ap (λ (n : Option (List Bool)). map path_to visited ++ left_after tree n) end ∙ append-nil (map path_to visited) in
    record {
      runs = are_runs script last start visited v.runs;
      order = v.order;
      tree = tree;
      draws = draws;
      paths = paths;
      first = v.first;
      none_missed = λ end sequence. subst (BeginsWithOne sequence) (whole end) (one_leaf tree sequence);
    }

-- the start of all runs
abbrev pub start_of : (script : List ℕ) (last : Bool) (shared : Shared) → IsShared script last shared → Start script last
start_of script last shared s = record {
  begun = s.begun;
  here = shared.files;
  front = s.first.front;
  rest = lines_of shared.rest.now;
  text = string_bytes shared.text;
  lines = s.first.lines;
  empty = s.empty;
  one = s.one;
  still = s.still;
  first = s.first.takes;
}

-- the leaf of a run along a path
abbrev leaf_of : Shared → Bool → List Bool → ℕ → Leaf → Visited
leaf_of shared last given taken leaf = record { given = given; path = extend_path taken given; text = front_of shared last ++ string_bytes leaf.text }

run_of : (script : List ℕ) (last : Bool) (shared : Shared) (given : List Bool) (leaf : Leaf) (s : IsShared script last shared) → (f : Follows shared last given leaf)
    → IsRunOf script last (start_of script last shared s) (leaf_of shared last given (length given + f.spare + 1 - f.left) leaf)
run_of script last shared given leaf s f = record {
  fork = f.ran.fork;
  end = f.ran.end;
  spare = f.spare;
  left = f.left;
  forks = f.ran.forks;
  others = after_shared last (string_bytes shared.text) (string_bytes leaf.text) (lines_of shared.rest.now) f.ran.fork f.ran.end f.ran.others;
  ends = f.ran.ends;
  some = f.some;
  follows = f.follows;
  path_is = refl;
}

-- the leaves so far, of which the next one is at the explorer's path, if any is left
pub record Finding (script : List ℕ) (last : Bool) (start : Start script last) (found : Explored) (path : List Bool) : Type 0 where
  pub visited : List Visited
  pub has : Visits script last start visited (if found.is_complete then None else Some path)
  pub counted : HasCounted found (map shown visited)

pub none_found : (script : List ℕ) (last : Bool) (start : Start script last) (found : Explored) (path : List Bool) → found.is_complete ≡ false → HasCounted found [] → path ≡ []
    → Finding script last start found path
none_found script last start found path more none first = record {
  visited = [];
  has = subst (Visits script last start []) (ap Some (sym first) ∙ ap (λ (b : Bool). if b then None else Some path) (sym more)) (visits_none script last start);
  counted = none;
}

-- one more leaf
pub found_more : (script : List ℕ) (last : Bool) (shared : Shared) (old new : Explored) (given path : List Bool) (leaf : Leaf) (taken : ℕ) (more : Bool)
    → (s : IsShared script last shared) → Finding script last (start_of script last shared s) old given → old.is_complete ≡ false → string_bytes old.shared ≡ front_of shared last
    → old.leaves < 2 ^ 64 - 1 → Follows shared last given leaf → taken ≡ length leaf.words.items → Counts old leaf.words.items (string_bytes leaf.text) new
    → next_path (extend_path taken given) ≡ (if more then Some path else None) → Advances given taken (if more then Some path else None)
    → Finding script last (start_of script last shared s) (record new { is_complete = not more }) path
found_more script last shared old new given path leaf taken more s before going front few f count counts following advances =
    let start : Start script last = start_of script last shared s in
    let n : ℕ = length given + f.spare + 1 - f.left in
    let next : Option (List Bool) = if more then Some path else None in
    let here : Visited = leaf_of shared last given n leaf in
    let long : taken ≡ n = count ∙ ap length f.words_are ∙ length-map (extend_path n given) outcome_word ∙ length-extended n given in
    let visited : List Visited = before.visited in
    let has : Visits script last start visited (Some given) = subst (λ (b : Bool). Visits script last start visited (if b then None else Some given)) going before.has in
    let all : List LeafText = map shown visited in
    let small : length all < 2 ^ 64 - 1 = omega (arith, before.counted.count, few) in
    let leaf_is : leaf_text leaf.words.items (string_bytes old.shared ++ string_bytes leaf.text) ≡ shown here = λ i. leaf_text (f.words_are i) (front i ++ string_bytes leaf.text) in
    let counted : HasCounted new (map shown (visited ++ here ∷ [])) =
    subst (HasCounted new) (ap (λ (l : LeafText). all ++ l ∷ []) leaf_is ∙ sym (map-append shown visited (here ∷ []))) (counts all small before.counted) in
    record {
      visited = visited ++ here ∷ [];
      has = subst (Visits script last start (visited ++ here ∷ [])) (turned more path)
          (visits_more script last start visited here taken next has (run_of script last shared given leaf s f) (ap (λ (m : ℕ). extend_path m given) (sym long)) following advances);
      counted = record { count = counted.count; outcomes = counted.outcomes };
    }
  where
    turned : (more : Bool) (path : List Bool) → (if more then Some path else None) ≡ (if (not more) then None else Some path)
    turned true path = refl
    turned false path = refl

none_left : (is_complete : Bool) (path : List Bool) → is_complete ≡ true ↔ (if is_complete then None else Some path) ≡ None
none_left true path = (λ _. refl, λ _. refl)
none_left false path = (λ e. cc, λ e. cc)

-- what was found at the end
pub found_all : (script : List ℕ) (last : Bool) (start : Start script last) (found : Explored) (path : List Bool) → Finding script last start found path → HasFound script last found
found_all script last start found path f = record {
  visited = f.visited;
  next = if found.is_complete then None else Some path;
  has = has_visited script last start f.visited (if found.is_complete then None else Some path) f.has;
  counted = f.counted;
  all = none_left found.is_complete path;
}

-- with the limit 0
pub nothing_found : (script : List ℕ) (last : Bool) (found : Explored) → HasCounted found [] → found.is_complete ≡ false → HasFound script last found
nothing_found script last found none more = record {
  visited = [];
  next = Some [];
  has = none_visited script last;
  counted = none;
  all = (λ is. cc, λ is. cc);
}

pub prints_found : (script : List ℕ) (limit : ℕ) (last : Bool) (found : Explored) (text : List ℕ) → HasFound script last found → found.leaves ≤ limit → (found.is_complete ≡ false → found.leaves ≡ limit)
    → text ≡ explored_text found → PrintsExploration script limit last text
prints_found script limit last found text f within ended prints =
    let count : found.leaves ≡ length f.visited = f.counted.count ∙ length-map f.visited shown in
    record {
      visited = f.visited;
      next = f.next;
      is_complete = found.is_complete;
      has = f.has;
      all = f.all;
      within = omega (arith, count, within);
      ended = λ e. omega (arith, count, ended e);
      prints = prints ∙ (λ i. exploration_text (f.counted.outcomes i) (count i) found.is_complete);
    }
