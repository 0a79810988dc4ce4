-- The calls that each run makes alike, and the others.
use Rattle.std.proofs.Common.{rules, ◌≡◌, ◌≤◌, ◌+◌, ◌-◌, ◌^◌, ℕ, arith, Bool, List, [], ◌∷◌, ◌++◌, Option, None, length, drop, take, refl, subst}
use Rattle.std.specs.Prelude.{All, IfSome}
use Rattle.std.proofs.lemmas.List.{take-append-drop}
use Rattle.std.proofs.lemmas.Option.{IfSome_then}
use Rattle.blob_script.specs.declared.call.Call.{Call}
use Rattle.blob_script.specs.declared.reply.Reply.{Reply}
use Rattle.blob_tree.specs.Trees.{DecisionTree, Leaf, Choice, IsLeaf, depth}
use Rattle.blob_tree.specs.WordsLeft.{EndsAfter}
use Rattle.blob_lab_store.specs.LabRuns.{RunsTo}
use Rattle.blob_lab_store.specs.LabStands.{LabStandsFor}
use Rattle.blob_lab_store.specs.declared.lab.Lab.{Lab}
use Rattle.blob_lab_model.specs.Laws.{RunsGoOn}
use Rattle.blob_lab_model.specs.Runs.{LeadsTo}
use Rattle.blob_lab_model.specs.Scripted.{Left, scripted_stream}
use Rattle.blob_lab_model.specs.States.{State}
use Rattle.blob_choices.specs.Decided.{HasU64Words, path_stream}
use Rattle.blob_choices.specs.Explored.{LeavesAreAllRuns, LeftCountsTaken, SeedsHaveU64Words}
use Rattle.blob_choices.specs.Outcomes.{NoneOutOfMemory, SetNoPartialResize, acts_of, with_stream}
use Rattle.blob_choices.specs.TwoWords.{RunsAreDecided}
use Rattle.blob_explore.specs.Explorations.{Ran}
use Rattle.blob_explore.specs.SharedCalls.{AreShared, start_with}
use Rattle.blob_explore.specs.declared.script.Script.{Script}

-- the greatest word alone
abbrev pub mark : List ℕ
mark = (2 ^ 64 - 1) ∷ []

-- a tree has no other leaf if its first one has no draw
only_leaf : (t : DecisionTree) (path : List Bool) → depth t [] + 1 ≡ 1 → IsLeaf t path → path ≡ []
only_leaf Leaf [] none leaf = refl
only_leaf Leaf (o ∷ path) none leaf = absurd leaf
only_leaf (Choice if_true if_false) path none leaf = absurd (omega (arith, none))

-- calls that leave the one word take none, whatever words come
pub undrawn : RunsAreDecided → LeftCountsTaken → LeavesAreAllRuns → SeedsHaveU64Words → (script : Script) (calls : List Call) (replies : List Reply) (w : State)
    → SetNoPartialResize (acts_of calls) → NoneOutOfMemory replies → LeadsTo (start_with script mark) calls replies w → EndsAfter w.stream 1
    → (tail : Left) → LeadsTo (with_stream (start_with script []) (scripted_stream tail)) calls replies (with_stream w (scripted_stream tail))
undrawn decided taken all words script calls replies w none served leads ends tail =
    let v : State = start_with script mark in
    let (t, D) = decided v (acts_of calls) tt none in
    let (count, most, along) = taken v w calls replies t [] 0 1 D served leads ends (omega arith) in
    let fit : HasU64Words v.stream = words mark None (fits (2 ^ 64 - 1) (omega arith)) in
    let (path, leaf, go) = all v w calls replies t D fit served leads in
    let G : List Bool → Type 0 = λ p. LeadsTo (with_stream v (path_stream p tail)) calls replies (with_stream w (scripted_stream tail)) in
    subst G (only_leaf t path (omega (arith, count)) leaf) (go tail)
  where
    fits : (word : ℕ) → word ≤ 2 ^ 64 - 1 → All (λ w. w ≤ 2 ^ 64 - 1) (word ∷ [])
    fits word h = search (rules, arith, h)

-- what is made of these calls
pub shares : RunsAreDecided → LeftCountsTaken → LeavesAreAllRuns → SeedsHaveU64Words → (script : Script) (old new : Lab) (count : ℕ) (replies : List Reply)
    → count ≤ length script.calls.items → SetNoPartialResize (acts_of (take count script.calls.items)) → RunsTo old (take count script.calls.items) replies new → NoneOutOfMemory replies
    → ((v : State) → LabStandsFor new v → EndsAfter v.stream 1) → LabStandsFor old (start_with script mark) → AreShared script new count replies
shares decided taken all words script old new count replies within none runs served ends begun =
    let (w, leads, stands) = runs (start_with script mark) begun in
    record {
      state = w;
      stands = stands;
      leads = undrawn decided taken all words script (take count script.calls.items) replies w none served leads (ends w stands);
      within = within;
      served = served;
    }

-- the other calls, in a fork with these words
pub ran_on : RunsGoOn → (script : Script) (shared fork new : Lab) (count from : ℕ) (words : List ℕ) (first replies : List Reply) (left : Option ℕ)
    → (s : AreShared script shared count first) → LabStandsFor fork (with_stream s.state (scripted_stream (words, None))) → from ≡ count
    → RunsTo fork (drop from script.calls.items) replies new → IfSome left (λ n. (v : State) → LabStandsFor new v → EndsAfter v.stream n)
    → Ran script.images.items script.calls.items words (first ++ replies) left
ran_on on script shared fork new count from words first replies left s stands same runs ends =
    let calls : List Call = script.calls.items in
    let here : State = with_stream s.state (scripted_stream (words, None)) in
    let begun : State = start_with script words in
    let (w, leads, after) = runs here stands in
    let rest : LeadsTo here (drop count calls) replies w = subst (λ (n : ℕ). LeadsTo here (drop n calls) replies w) same leads in
    let whole : LeadsTo begun (take count calls ++ drop count calls) (first ++ replies) w =
    on begun here w (take count calls) (drop count calls) first replies (s.leads (words, None)) rest in
    (w, subst (λ (cs : List Call). LeadsTo begun cs (first ++ replies) w) (take-append-drop count calls) whole, IfSome_then left ends (λ n f. f w after))
